-- Tags of an XML document (XML 1.0 Fifth Edition, 3.1; Namespaces in XML 1.0, Third Edition). Names have no prefix: of the names that
-- begin with `xmlns` only the default namespace's declaration is here.
use Rattle.std.specs.Prelude.{◌≡◌, ◌≢◌, ℕ, true, if◌then◌else◌, List, [], ◌∷◌, ◌++◌, codes, bytes_eq, encode_utf8_all, ⊤}
use Rattle.std.specs.List.{AllByRecursion}
use Rattle.rn_text.specs.Texts.{Text}
use Rattle.rn_text.specs.Characters.{is_ncname}
use Rattle.rn_pattern.specs.Document.{Attribute}
use Rattle.rn_xml.specs.XmlCharacters.{MaySpace, IsSpace}
use Rattle.rn_xml.specs.XmlTags.{IsEq}
use Rattle.rn_rng.specs.XmlCharacters.{IsAttValue}

-- an attribute as it is written, a namespace declaration too: its name and its normalised value, in characters
pub record Written : Type 0 where
  pub name : List ℕ
  pub value : List ℕ

-- Attribute ::= Name Eq AttValue (production 41; of names, NCName)
pub data IsAttribute : List ℕ → Written → List ℕ → Type 0 where
  attribute : {name value cs mid rest : List ℕ} → is_ncname name ≡ true → IsEq cs mid → IsAttValue mid value rest
      → IsAttribute (name ++ cs) (record { name = name; value = value }) rest

-- (S Attribute)*
pub data AreAttributes : List ℕ → List Written → List ℕ → Type 0 where
  none : {rest : List ℕ} → AreAttributes rest [] rest
  more : {a : Written} {written : List Written} {cs mid after rest : List ℕ} → IsSpace cs mid → IsAttribute mid a after → AreAttributes after written rest
      → AreAttributes cs (a ∷ written) rest

-- what declares the default namespace (Namespaces in XML, DefaultAttName)
abbrev pub xmlns : List ℕ
xmlns = codes "xmlns"

-- the default namespace inside a tag with these attributes, where this one is the default around it (Namespaces in XML, 6.2)
abbrev pub default_inside : Text → List Written → Text
default_inside around [] = around
default_inside around (a ∷ written) = if bytes_eq a.name xmlns then encode_utf8_all a.value else default_inside around written

-- the attributes that declare no namespace. One without prefix has no namespace (Namespaces in XML, 6.2)
abbrev pub ordinary : List Written → List Attribute
ordinary [] = []
ordinary (a ∷ written) = if bytes_eq a.name xmlns then ordinary written
    else (record { uri = []; local = encode_utf8_all a.name; content = encode_utf8_all a.value } ∷ ordinary written)

-- the attributes have distinct names (constraint Unique Att Spec)
abbrev pub AreUnique : List Written → Type 0
AreUnique [] = ⊤
AreUnique (a ∷ written) = AllByRecursion (λ b. a.name ≢ b.name) written × AreUnique written

-- '<' Name (S Attribute)* S? , the front of a start tag and of an empty element's tag (productions 40 and 44).
-- The default namespace is none of those that are reserved (Namespaces in XML, 3)
pub record IsTagFront (cs name : List ℕ) (attributes : List Written) (rest : List ℕ) : Type 0 where
  pub behind_name : List ℕ
  pub behind_attributes : List ℕ
  pub opens : cs ≡ 60 ∷ (name ++ behind_name)
  pub is_name : is_ncname name ≡ true
  pub are_attributes : AreAttributes behind_name attributes behind_attributes
  pub space : MaySpace behind_attributes rest
  pub unique : AreUnique attributes
  pub not_xml : default_inside [] attributes ≢ codes "http://www.w3.org/XML/1998/namespace"
  pub not_xmlns : default_inside [] attributes ≢ codes "http://www.w3.org/2000/xmlns/"

-- ETag ::= '</' Name S? '>' (production 42), for this name
pub data IsEndTag (name : List ℕ) : List ℕ → List ℕ → Type 0 where
  closes : {cs rest : List ℕ} → MaySpace cs (62 ∷ rest) → IsEndTag name (60 ∷ 47 ∷ (name ++ cs)) rest
