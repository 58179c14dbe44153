-- Documents of XML with their infoset (XML 1.0 Fifth Edition, 2.1, 2.8, 3 and 4.3.3; Namespaces in XML 1.0, Third Edition), without a
-- document type declaration.
use Rattle.std.specs.Prelude.{◌≡◌, ◌≢◌, ℕ, Bool, true, ◌||◌, ◌==◌, List, [], ◌∷◌, ◌++◌, codes, encode_utf8_all}
use Rattle.std.specs.List.{list_all}
use Rattle.std.specs.Char.{is_ascii_digit, is_ascii_alphabetic, is_ascii_alphanumeric}
use Rattle.rn_xml.specs.Infoset.{Name, Attribute, Binding, Node, element, characters, Nodes, no_nodes, more_nodes}
use Rattle.rn_xml.specs.XmlCharacters.{lines_of, MaySpace, IsSpace, AreMisc, IsCharacters}
use Rattle.rn_xml.specs.XmlTags.{IsEq, Scope, IsTagFront, IsEndTag}

-- characters between tags as a child: none is none
abbrev pub with_characters : List ℕ → Nodes → Nodes
with_characters [] k = k
with_characters (c ∷ cs) k = more_nodes (characters (encode_utf8_all (c ∷ cs))) k

mutual
  -- element ::= EmptyElemTag | STag content ETag, STag ::= '<' Name (S Attribute)* S? '>', EmptyElemTag ::= '<' Name (S Attribute)* S? '/>'
  -- (productions 39, 40 and 44), in this scope. The end tag has the start tag's name (Element Type Match)
  pub data IsElement : Scope → List ℕ → Node → List ℕ → Type 0 where
    empty : {around : Scope} {cs qname rest : List ℕ} {name : Name} {bound : List Binding} {attributes : List Attribute}
        → IsTagFront around cs qname name bound attributes (47 ∷ 62 ∷ rest)
        → IsElement around cs (element name bound attributes no_nodes) rest
    tags : {around : Scope} {cs qname mid after rest : List ℕ} {name : Name} {bound : List Binding} {attributes : List Attribute} {k : Nodes}
        → IsTagFront around cs qname name bound attributes (62 ∷ mid) → IsContent (bound ++ around) mid k after → IsEndTag qname after rest
        → IsElement around cs (element name bound attributes k) rest

  -- content ::= CharData? ((element | Reference | CDSect | PI | Comment) CharData?)* (production 43)
  pub data IsContent : Scope → List ℕ → Nodes → List ℕ → Type 0 where
    last : {around : Scope} {cs text rest : List ℕ} → IsCharacters cs text rest → IsContent around cs (with_characters text no_nodes) rest
    more : {around : Scope} {cs text mid after rest : List ℕ} {x : Node} {k : Nodes} → IsCharacters cs text mid → IsElement around mid x after
        → IsContent around after k rest → IsContent around cs (with_characters text (more_nodes x k)) rest

-- characters between quotes that they don't hold, and the text between them
pub data IsQuoted : List ℕ → List ℕ → List ℕ → Type 0 where
  double : {text rest : List ℕ} → IsQuoted (34 ∷ (text ++ 34 ∷ rest)) text rest
  single : {text rest : List ℕ} → IsQuoted (39 ∷ (text ++ 39 ∷ rest)) text rest

-- VersionNum ::= '1.' [0-9]+ (production 26)
pub data IsVersionNum : List ℕ → Type 0 where
  number : {digits : List ℕ} → digits ≢ [] → list_all is_ascii_digit digits ≡ true → IsVersionNum (49 ∷ 46 ∷ digits)

-- VersionInfo ::= S 'version' Eq ("'" VersionNum "'" | '"' VersionNum '"') (production 24)
pub data IsVersionInfo : List ℕ → List ℕ → Type 0 where
  version : {number cs mid after rest : List ℕ} → IsSpace cs (codes "version" ++ mid) → IsEq mid after → IsQuoted after number rest
      → IsVersionNum number → IsVersionInfo cs rest

abbrev pub is_encoding_char : ℕ → Bool
is_encoding_char c = is_ascii_alphanumeric c || c == 46 || c == 95 || c == 45

-- EncName ::= [A-Za-z] ([A-Za-z0-9._] | '-')* (production 81)
pub data IsEncName : List ℕ → Type 0 where
  name : {c : ℕ} {cs : List ℕ} → is_ascii_alphabetic c ≡ true → list_all is_encoding_char cs ≡ true → IsEncName (c ∷ cs)

-- EncodingDecl? , where EncodingDecl ::= S 'encoding' Eq ('"' EncName '"' | "'" EncName "'") (production 80)
pub data MayDeclareEncoding : List ℕ → List ℕ → Type 0 where
  none : {rest : List ℕ} → MayDeclareEncoding rest rest
  encoding : {name cs mid after rest : List ℕ} → IsSpace cs (codes "encoding" ++ mid) → IsEq mid after → IsQuoted after name rest → IsEncName name
      → MayDeclareEncoding cs rest

-- SDDecl? , where SDDecl ::= S 'standalone' Eq (("'" ('yes' | 'no') "'") | ('"' ('yes' | 'no') '"')) (production 32)
pub data MayBeStandalone : List ℕ → List ℕ → Type 0 where
  none : {rest : List ℕ} → MayBeStandalone rest rest
  yes : {cs mid after rest : List ℕ} → IsSpace cs (codes "standalone" ++ mid) → IsEq mid after → IsQuoted after (codes "yes") rest → MayBeStandalone cs rest
  no : {cs mid after rest : List ℕ} → IsSpace cs (codes "standalone" ++ mid) → IsEq mid after → IsQuoted after (codes "no") rest → MayBeStandalone cs rest

-- XMLDecl? , where XMLDecl ::= '<?xml' VersionInfo EncodingDecl? SDDecl? S? '?>' (production 23)
pub data MayDeclare : List ℕ → List ℕ → Type 0 where
  none : {rest : List ℕ} → MayDeclare rest rest
  declares : {cs mid after behind rest : List ℕ} → IsVersionInfo cs mid → MayDeclareEncoding mid after → MayBeStandalone after behind
      → MaySpace behind (63 ∷ 62 ∷ rest) → MayDeclare (codes "<?xml" ++ cs) rest

-- document ::= prolog element Misc*, prolog ::= XMLDecl? Misc* (productions 1 and 22, without a document type declaration). Around the
-- root nothing is declared
pub data IsProduced : List ℕ → Node → Type 0 where
  document : {cs mid after behind : List ℕ} {x : Node} → MayDeclare cs mid → AreMisc mid after → IsElement [] after x behind → AreMisc behind []
      → IsProduced cs x

-- the characters are a document with this root, once each line end is one line feed (2.11)
abbrev pub IsXmlDocument : List ℕ → Node → Type 0
IsXmlDocument cs x = IsProduced (lines_of cs) x
