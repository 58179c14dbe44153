-- The names and texts of a grammar: names that are names, texts of XML characters, datatypes that may stand (RELAX NG 2001, 4.16, 7.1.4; Namespaces in XML 1.0; XML 1.0, 2.2).
use Rattle.std.specs.Prelude.{◌≡◌, Bool, true, false, ◌&&◌, [], ◌∷◌, codes, bytes_eq, ⊤}
use Rattle.std.specs.List.{list_all}
use Rattle.std.specs.Str.{IsUtf8, chars}
use Rattle.rn_text.specs.Characters.{is_ncname, is_xml_char}
use Rattle.rn_pattern.specs.Tree.{Parameters, NameTree, NameTrees, any_name, any_name_but, ns_name, ns_name_but, name, name_choice, no_names, more_names, Tree, Trees, ref, value, datum, datum_but, list, attribute, element, one_or_more, group, interleave, choice, no_trees, more_trees}
use Rattle.rn_text.specs.Texts.{Text}
use Rattle.rn_pattern.specs.Excepts.{IsExcept}
use Rattle.rn_syntax.specs.Places.{xsd_uri, is_context_type}

-- a name without a colon
pub record IsName (x : Text) : Type 0 where
  pub utf8 : IsUtf8 x
  pub is : is_ncname (chars x) ≡ true

-- a text of XML characters
pub record IsXml (s : Text) : Type 0 where
  pub utf8 : IsUtf8 s
  pub is : list_all is_xml_char (chars s) ≡ true

abbrev pub AreParams : Parameters → Type 0
AreParams [] = Unit {0}
AreParams (e ∷ es) = IsName e.0 × IsXml e.1 × AreParams es

-- whether a type of this library depends on the namespaces that are bound where its values stand
abbrev pub needs_context : Text → Text → Bool
needs_context l x = bytes_eq l xsd_uri && is_context_type x

-- what is asked of a library
module _ (of_library : Text → Type 0) where
  -- the empty library has two types
  pub data IsType : Text → Text → Type 0 where
    string_type : IsType [] (codes "string")
    token_type : IsType [] (codes "token")
    library_type : {c : _} {l x : Text} → of_library (c ∷ l) → IsName x → IsType (c ∷ l) x

  -- data of the empty library has no parameters
  pub data IsData : Text → Text → Parameters → Type 0 where
    bare : {l x : Text} → IsType l x → IsData l x []
    with_params : {c : _} {l x : Text} {e : Text × Text} {es : Parameters} → of_library (c ∷ l) → IsName x → AreParams (e ∷ es) → IsData (c ∷ l) x (e ∷ es)

-- nothing is asked
abbrev pub Free : Text → Type 0
Free u = ⊤

-- namespaces of XML characters, names that are names, and choices of some
abbrev mutual
  pub IsWritableName : NameTree → Type 0
  IsWritableName any_name = ⊤
  IsWritableName (any_name_but c) = IsWritableName c
  IsWritableName (ns_name u) = IsXml u
  IsWritableName (ns_name_but u c) = IsXml u × IsWritableName c
  IsWritableName (name u l) = IsXml u × IsName l
  IsWritableName (name_choice no_names) = ⊥
  IsWritableName (name_choice (more_names c cs)) = IsWritableName c × AreWritableNames cs

  pub AreWritableNames : NameTrees → Type 0
  AreWritableNames no_names = ⊤
  AreWritableNames (more_names c cs) = IsWritableName c × AreWritableNames cs

-- each name and text in the pattern, and each datatype, can be written
abbrev mutual
  pub IsWritable : Tree → Type 0
  IsWritable (ref x) = IsName x
  IsWritable (value l x s) = IsXml l × IsType Free l x × (needs_context l x ≡ false) × IsXml s
  IsWritable (datum l x ps) = IsXml l × IsData Free l x ps
  IsWritable (datum_but l x ps p) = IsXml l × IsData Free l x ps × IsExcept p × IsWritable p
  IsWritable (list p) = IsWritable p
  IsWritable (attribute c p) = IsWritableName c × IsWritable p
  IsWritable (element c p) = IsWritableName c × IsWritable p
  IsWritable (one_or_more p) = IsWritable p
  IsWritable (group ps) = AreWritable ps
  IsWritable (interleave ps) = AreWritable ps
  IsWritable (choice ps) = AreWritable ps
  IsWritable p = ⊤

  pub AreWritable : Trees → Type 0
  AreWritable no_trees = ⊤
  AreWritable (more_trees p ps) = IsWritable p × AreWritable ps
