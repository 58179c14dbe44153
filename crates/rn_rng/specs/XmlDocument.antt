-- Documents of XML with their infoset (XML 1.0 Fifth Edition, 2.1, 2.8, 3 and 4.3.3), as far as a schema of one file uses them: no
-- document type declaration, comments, processing instructions, CDATA sections and prefixes.
use Rattle.std.specs.Prelude.{◌≡◌, ℕ, Bool, true, not, ◌&&◌, ◌||◌, if◌then◌else◌, List, [], ◌∷◌, ◌++◌, codes, bytes_eq, encode_utf8_all}
use Rattle.std.specs.List.{list_all}
use Rattle.rn_text.specs.Texts.{Text, is_white}
use Rattle.rn_pattern.specs.Document.{Item, Items, node, string, no_items, more_items}
use Rattle.rn_xml.specs.XmlCharacters.{MaySpace, IsSpace}
use Rattle.rn_xml.specs.XmlDocuments.{IsQuoted, IsVersionInfo}
use Rattle.rn_xml.specs.XmlTags.{IsEq}
use Rattle.rn_rng.specs.XmlCharacters.{HasLines, IsCharacters}
use Rattle.rn_text.specs.Characters.{is_xml_char}
use Rattle.rn_rng.specs.Translation.{rng_uri}
use Rattle.rn_rng.specs.XmlTags.{Written, default_inside, ordinary, IsTagFront, IsEndTag}

-- characters between tags as a child: none is none
abbrev pub with_string : List ℕ → Items → Items
with_string [] k = k
with_string (c ∷ cs) k = more_items (string (encode_utf8_all (c ∷ cs))) k

mutual
  -- element ::= EmptyElemTag | STag content ETag, STag ::= '<' Name (S Attribute)* S? '>', EmptyElemTag ::= '<' Name (S Attribute)* S? '/>'
  -- (productions 39, 40 and 44), inside this default namespace. The end tag has the start tag's name (Element Type Match)
  pub data IsElement : Text → List ℕ → Item → List ℕ → Type 0 where
    empty : {around : Text} {name cs rest : List ℕ} {written : List Written} → IsTagFront cs name written (47 ∷ 62 ∷ rest)
        → IsElement around cs (node (default_inside around written) (encode_utf8_all name) (ordinary written) no_items) rest
    tags : {around : Text} {name cs mid after rest : List ℕ} {written : List Written} {k : Items} → IsTagFront cs name written (62 ∷ mid)
        → IsContent (default_inside around written) mid k after → IsEndTag name after rest
        → IsElement around cs (node (default_inside around written) (encode_utf8_all name) (ordinary written) k) rest

  -- content ::= CharData? ((element | Reference) CharData?)* (production 43)
  pub data IsContent : Text → List ℕ → Items → List ℕ → Type 0 where
    last : {around : Text} {cs text rest : List ℕ} → IsCharacters cs text rest → IsContent around cs (with_string text no_items) rest
    more : {around : Text} {cs text mid after rest : List ℕ} {x : Item} {k : Items} → IsCharacters cs text mid → IsElement around mid x after
        → IsContent around after k rest → IsContent around cs (with_string text (more_items x k)) rest

-- EncodingDecl ::= S 'encoding' Eq ('"' EncName '"' | "'" EncName "'") (productions 80 and 81), for UTF-8, which is what the text is in
-- (4.3.3). The names of encodings are matched without regard to case; here it is the registered one
pub data IsEncodingDecl : List ℕ → List ℕ → Type 0 where
  encoding : {cs mid after rest : List ℕ} → IsSpace cs (codes "encoding" ++ mid) → IsEq mid after → IsQuoted after (codes "UTF-8") rest
      → IsEncodingDecl cs rest

-- XMLDecl ::= '<?xml' VersionInfo EncodingDecl? S? '?>' (production 23, without a standalone declaration)
pub data IsXmlDecl : List ℕ → List ℕ → Type 0 where
  declares : {cs mid after rest : List ℕ} → IsVersionInfo cs mid → IsEncodingDecl mid after → MaySpace after (63 ∷ 62 ∷ rest)
      → IsXmlDecl (codes "<?xml" ++ cs) rest
  unencoded : {cs mid rest : List ℕ} → IsVersionInfo cs mid → MaySpace mid (63 ∷ 62 ∷ rest) → IsXmlDecl (codes "<?xml" ++ cs) rest

-- document ::= XMLDecl? S? element S? (productions 1, 22 and 27, without comments, processing instructions and a document type
-- declaration). Around the root no namespace is the default
pub data IsDocument : List ℕ → Item → Type 0 where
  declared : {cs mid after behind : List ℕ} {x : Item} → IsXmlDecl cs mid → MaySpace mid after → IsElement [] after x behind → MaySpace behind []
      → IsDocument cs x
  bare : {cs after behind : List ℕ} {x : Item} → MaySpace cs after → IsElement [] after x behind → MaySpace behind [] → IsDocument cs x

-- ---- white space that counts for nothing in a schema (RELAX NG 2001, 4.2)

-- a `value` or a `param`, in which white space counts
abbrev pub keeps_white : Text → Text → Bool
keeps_white uri local = bytes_eq uri rng_uri && (bytes_eq local (codes "value") || bytes_eq local (codes "param"))

-- a child before others, which is left out where it is white space and that doesn't count
abbrev pub kept_before : (kept : Bool) → Item → Items → Items
kept_before kept (node uri local attributes content) k = more_items (node uri local attributes content) k
kept_before kept (string s) k = if kept || not (list_all is_white s) then more_items (string s) k else k

-- the element without the strings of white space in elements other than `value` and `param`
abbrev mutual
  pub without_white : Item → Item
  without_white (node uri local attributes content) = node uri local attributes (without_white_in (keeps_white uri local) content)
  without_white (string s) = string s

  pub without_white_in : (kept : Bool) → Items → Items
  without_white_in kept no_items = no_items
  without_white_in kept (more_items x k) = kept_before kept (without_white x) (without_white_in kept k)

-- ---- a text

-- the text is a document of XML 1.0 in UTF-8, all of legal characters (production 2), whose infoset is the item once white space that
-- counts for nothing is left out
pub record IsXml (text : Text) (x : Item) : Type 0 where
  pub characters : List ℕ
  pub are : encode_utf8_all characters ≡ text
  pub legal : list_all is_xml_char characters ≡ true
  pub lines : List ℕ
  pub has_lines : HasLines characters lines
  pub whole : Item
  pub is_document : IsDocument lines whole
  pub is : x ≡ without_white whole
