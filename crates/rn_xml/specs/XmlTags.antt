-- Tags of an XML document (XML 1.0 Fifth Edition, 3.1; Namespaces in XML 1.0, Third Edition).
use Rattle.std.specs.Prelude.{◌≡◌, ◌≢◌, ℕ, true, if◌then◌else◌, ◌&&◌, List, [], ◌∷◌, ◌++◌, Option, Some, None, AllPairs, All, codes, bytes_eq, encode_utf8_all}
use Rattle.rn_text.specs.Texts.{Text}
use Rattle.rn_text.specs.Characters.{is_ncname}
use Rattle.rn_xml.specs.Infoset.{Name, Attribute, Binding}
use Rattle.rn_xml.specs.XmlCharacters.{MaySpace, IsSpace, IsAttValue}

-- Eq ::= S? '=' S? (production 25)
pub data IsEq : List ℕ → List ℕ → Type 0 where
  equals : {cs mid rest : List ℕ} → MaySpace cs (61 ∷ mid) → MaySpace mid rest → IsEq cs rest

-- QName ::= PrefixedName | UnprefixedName (Namespaces in XML 1.0, productions 7 to 11), its prefix and its local part
pub data IsQName : List ℕ → List ℕ → List ℕ → Type 0 where
  unprefixed : {local : List ℕ} → is_ncname local ≡ true → IsQName local [] local
  prefixed : {prefix local : List ℕ} → is_ncname prefix ≡ true → is_ncname local ≡ true → IsQName (prefix ++ 58 ∷ local) prefix local

-- an attribute as it is written, a declaration of a namespace too: its prefix, its local part and its normalised value, in characters
pub record WrittenAttribute : Type 0 where
  pub prefix : List ℕ
  pub local : List ℕ
  pub value : List ℕ

-- Attribute ::= Name Eq AttValue (production 41; Namespaces in XML 1.0, production 15)
pub data IsAttribute : List ℕ → WrittenAttribute → List ℕ → Type 0 where
  attribute : {name prefix local value cs mid rest : List ℕ} → IsQName name prefix local → IsEq cs mid → IsAttValue mid value rest
      → IsAttribute (name ++ cs) (record { prefix = prefix; local = local; value = value }) rest

-- (S Attribute)*
pub data AreAttributes : List ℕ → List WrittenAttribute → List ℕ → Type 0 where
  none : {rest : List ℕ} → AreAttributes rest [] rest
  more : {a : WrittenAttribute} {written : List WrittenAttribute} {cs mid after rest : List ℕ} → IsSpace cs mid → IsAttribute mid a after
      → AreAttributes after written rest → AreAttributes cs (a ∷ written) rest

-- the prefix that an attribute of this name declares, empty for the default namespace (Namespaces in XML 1.0, productions 1 to 3)
abbrev pub declared_prefix : WrittenAttribute → Option (List ℕ)
declared_prefix a = if bytes_eq a.prefix (codes "xmlns") then Some a.local
    else (if bytes_eq a.prefix [] && bytes_eq a.local (codes "xmlns") then Some [] else None)

abbrev pub xml_uri : Text
xml_uri = codes "http://www.w3.org/XML/1998/namespace"

abbrev pub xmlns_uri : Text
xmlns_uri = codes "http://www.w3.org/2000/xmlns/"

abbrev pub binding_before : WrittenAttribute → Option (List ℕ) → List Binding → List Binding
binding_before a (Some prefix) bound = record { prefix = encode_utf8_all prefix; uri = encode_utf8_all a.value } ∷ bound
binding_before a None bound = bound

-- what is declared, each as it is written
abbrev pub bindings : List WrittenAttribute → List Binding
bindings [] = []
bindings (a ∷ written) = binding_before a (declared_prefix a) (bindings written)

-- the constraints on a declaration: `xmlns` and its namespace are never declared, `xml` only for its own namespace and that only for
-- `xml`, and no prefix is undeclared (Namespaces in XML 1.0, 3, Reserved Prefixes and Namespace Names; 5, No Prefix Undeclaring)
pub record MayBind (b : Binding) : Type 0 where
  pub prefix : b.prefix ≢ codes "xmlns"
  pub uri : b.uri ≢ xmlns_uri
  pub xml : b.prefix ≡ codes "xml" → b.uri ≡ xml_uri
  pub only_xml : b.uri ≡ xml_uri → b.prefix ≡ codes "xml"
  pub declared : b.uri ≡ [] → b.prefix ≡ []

-- what the prefixes mean in an element, the innermost declaration first. In an element it is what the element declares, and then what
-- holds around it (Namespaces in XML 1.0, 6.1)
abbrev pub Scope : Type 0
Scope = List Binding

-- the name of the namespace that a prefix means; with no declaration, the empty prefix means no namespace (Namespaces in XML 1.0, 3 and 6.2)
abbrev pub uri_in : Scope → Text → Option Text
uri_in [] prefix = if bytes_eq prefix (codes "xml") then Some xml_uri else (if bytes_eq prefix [] then Some [] else None)
uri_in (b ∷ scope) prefix = if bytes_eq b.prefix prefix then Some b.uri else uri_in scope prefix

-- the name of an attribute in this scope: without a prefix it has no namespace (Namespaces in XML 1.0, 6.2)
abbrev pub attribute_uri : Scope → Text → Option Text
attribute_uri scope prefix = if bytes_eq prefix [] then Some [] else uri_in scope prefix

-- the attributes that declare no namespace, with their names
pub data AreNamed (scope : Scope) : List WrittenAttribute → List Attribute → Type 0 where
  none : AreNamed scope [] []
  declares : {a : WrittenAttribute} {written : List WrittenAttribute} {attributes : List Attribute} {prefix : List ℕ} → declared_prefix a ≡ Some prefix
      → AreNamed scope written attributes → AreNamed scope (a ∷ written) attributes
  named : {a : WrittenAttribute} {written : List WrittenAttribute} {attributes : List Attribute} {uri : Text} → declared_prefix a ≡ None
      → attribute_uri scope (encode_utf8_all a.prefix) ≡ Some uri → AreNamed scope written attributes
      → AreNamed scope (a ∷ written)
      (record { name = record { uri = uri; prefix = encode_utf8_all a.prefix; local = encode_utf8_all a.local }; value = encode_utf8_all a.value } ∷ attributes)

-- no two attributes have the same namespace and the same local part (XML 1.0, 3.1, Unique Att Spec; Namespaces in XML 1.0, 6.3)
abbrev pub AreUnique : List Attribute → Type 0
AreUnique attributes = AllPairs (λ a b. ¬ ((a.name.uri ≡ b.name.uri) × (a.name.local ≡ b.name.local))) attributes

-- no prefix is declared twice in one tag (Unique Att Spec)
abbrev pub AreDistinct : List Binding → Type 0
AreDistinct bound = AllPairs (λ a b. a.prefix ≢ b.prefix) bound

-- '<' Name (S Attribute)* S? , the front of a start tag and of an empty element's tag (productions 40 and 44), in this scope
pub record IsTagFront (around : Scope) (cs qname : List ℕ) (name : Name) (bound : List Binding) (attributes : List Attribute) (rest : List ℕ) : Type 0 where
  pub prefix : List ℕ
  pub local : List ℕ
  pub behind_name : List ℕ
  pub behind_attributes : List ℕ
  pub written : List WrittenAttribute
  pub opens : cs ≡ 60 ∷ (qname ++ behind_name)
  pub is_name : IsQName qname prefix local
  pub are_attributes : AreAttributes behind_name written behind_attributes
  pub space : MaySpace behind_attributes rest
  pub declares : bound ≡ bindings written
  pub may_bind : All MayBind bound
  pub distinct : AreDistinct bound
  pub has_prefix : name.prefix ≡ encode_utf8_all prefix
  pub has_local : name.local ≡ encode_utf8_all local
  pub has_uri : uri_in (bound ++ around) (encode_utf8_all prefix) ≡ Some name.uri
  pub are_named : AreNamed (bound ++ around) written attributes
  pub unique : AreUnique attributes

-- ETag ::= '</' Name S? '>' (production 42), for this name
pub data IsEndTag (qname : List ℕ) : List ℕ → List ℕ → Type 0 where
  closes : {cs rest : List ℕ} → MaySpace cs (62 ∷ rest) → IsEndTag qname (60 ∷ 47 ∷ (qname ++ cs)) rest
