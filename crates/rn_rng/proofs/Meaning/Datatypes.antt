-- The data and the values that the XML of a datatype is (RELAX NG 2001, 4.3 and 4.4).
use Rattle.std.proofs.Common.{◌≡◌, List, [], ◌∷◌, refl, ap, ◌∙◌, Some, None}
use Rattle.std.specs.Prelude.{codes, option_map}
use Rattle.rn_text.specs.Texts.{Text}
use Rattle.rn_pattern.specs.Document.{Item}
use Rattle.rn_pattern.specs.Tree.{Tree, value, datum, datum_but}
use Rattle.rn_syntax.specs.Tree as t
use Rattle.rn_syntax.specs.Tree.{Datatype, Params, Declaration}
use Rattle.rn_assemble.specs.Resolve.{type_library, type_name, typed_value}
use Rattle.rn_assemble.specs.WritableTexts.{IsName, AreParams}
use Rattle.rn_assemble.proofs.WellFormed.GoodTrees.{IsGoodDatatype}
use Rattle.rn_rng.specs.Translation.{text_items, items_then, one_item, params_xml, type_attributes, except_element}
use Rattle.rn_rng.specs.SchemaElements.{trimmed, trimmed_value, held_string, library_in, ns_in}
use Rattle.rn_rng.specs.PatternElements.{value_node, named_text, with_param, params_of, data_node, excepted_pattern, except_pattern}
use Rattle.rn_rng.proofs.Meaning.PlainNames.{trimmed_name}
use Rattle.rn_rng.proofs.Meaning.WrittenNames.{held_text, library_of_type, ns_of_type}

-- ---- parameters

param_meaning : (x s : Text) → IsName x → named_text (Some (trimmed x)) (held_string (text_items s)) ≡ Some (x, s)
param_meaning x s n = ap (λ o. named_text (Some (trimmed x)) o) (held_text s) ∙ ap (λ (y : Text). named_text (Some y) (Some s)) (trimmed_name x n)

pub params_meaning : (es : Params) → AreParams es → params_of (params_xml es) ≡ Some es
params_meaning [] h = refl
params_meaning (e ∷ es) h = let first = param_meaning e.0 e.1 h.0 in let rest = params_meaning es h.2 in λ i. with_param (first i) (rest i)

-- and before an except
pub params_before : (es : Params) → AreParams es → (i : Item) → params_of (items_then (params_xml es) (one_item (except_element i))) ≡ Some es
params_before [] h i = refl
params_before (e ∷ es) h i = let first = param_meaning e.0 e.1 h.0 in let rest = params_before es h.2 i in λ j. with_param (first j) (rest j)

module _ (ns library : Text) where
  pub nothing_excepted : (es : Params) → excepted_pattern ns library (params_xml es) ≡ Some None
  nothing_excepted [] = refl
  nothing_excepted (e ∷ es) = nothing_excepted es

  pub excepted_last : (es : Params) (i : Item) → excepted_pattern ns library (items_then (params_xml es) (one_item (except_element i))) ≡ option_map Some (except_pattern ns library (except_element i))
  excepted_last [] i = refl
  excepted_last (e ∷ es) i = excepted_last es i

-- ---- types

module _ (ds : List Declaration) where
  pub type_meaning : (d : Datatype) → IsGoodDatatype d → trimmed (type_name [] ds d) ≡ type_name [] ds d
  type_meaning (t.string i) g = refl
  type_meaning (t.token i) g = refl
  type_meaning (t.named p l i) g = trimmed_name l g

  pub type_library_in : (library : Text) (d : Datatype) → library_in library (type_attributes ds library d) ≡ type_library [] ds d
  type_library_in library d = library_of_type library (type_name [] ds d) (type_library [] ds d)

  pub type_ns_in : (ns library : Text) (d : Datatype) → ns_in ns (type_attributes ds library d) ≡ ns
  type_ns_in ns library d = ns_of_type ns library (type_name [] ds d) (type_library [] ds d)

  pub value_meaning : (library : Text) (d : Datatype) (s : Text) → IsGoodDatatype d
      → option_map (value_node (library_in library (type_attributes ds library d)) (trimmed_value (codes "type") (type_attributes ds library d))) (held_string (text_items s)) ≡ Some (typed_value [] ds (Some d) s)
  value_meaning library d s g =
      let library_is = type_library_in library d in
      let type_is = type_meaning d g in
      ap (option_map (value_node (library_in library (type_attributes ds library d)) (Some (trimmed (type_name [] ds d))))) (held_text s) ∙ (λ i. Some (value (library_is i) (type_is i) s))

  pub datum_meaning : (ns library : Text) (d : Datatype) (es : Params) → IsGoodDatatype d → AreParams es
      → data_node (library_in library (type_attributes ds library d)) (trimmed_value (codes "type") (type_attributes ds library d)) (params_of (params_xml es))
      (excepted_pattern (ns_in ns (type_attributes ds library d)) (library_in library (type_attributes ds library d)) (params_xml es)) ≡ Some (datum (type_library [] ds d) (type_name [] ds d) es)
  datum_meaning ns library d es g h =
      let library_is = type_library_in library d in
      let type_is = type_meaning d g in
      let params_are = params_meaning es h in
      let except_is = nothing_excepted (ns_in ns (type_attributes ds library d)) (library_in library (type_attributes ds library d)) es in
      λ i. data_node (library_is i) (Some (type_is i)) (params_are i) (except_is i)

  -- p: what is excepted, at what is inherited in the element
  pub datum_but_meaning : (ns library : Text) (d : Datatype) (es : Params) (x : Item) (p : Tree) → IsGoodDatatype d → AreParams es → except_pattern ns (type_library [] ds d) (except_element x) ≡ Some p
      → data_node (library_in library (type_attributes ds library d)) (trimmed_value (codes "type") (type_attributes ds library d)) (params_of (items_then (params_xml es) (one_item (except_element x))))
      (excepted_pattern (ns_in ns (type_attributes ds library d)) (library_in library (type_attributes ds library d)) (items_then (params_xml es) (one_item (except_element x)))) ≡ Some (datum_but (type_library [] ds d) (type_name [] ds d) es p)
  datum_but_meaning ns library d es x p g h e =
      let library_is = type_library_in library d in
      let ns_is = type_ns_in ns library d in
      let type_is = type_meaning d g in
      let params_are = params_before es h x in
      let last = excepted_last (ns_in ns (type_attributes ds library d)) (library_in library (type_attributes ds library d)) es x in
      let inherited : option_map Some (except_pattern (ns_in ns (type_attributes ds library d)) (library_in library (type_attributes ds library d)) (except_element x)) ≡ option_map Some (except_pattern ns (type_library [] ds d) (except_element x)) = λ i. option_map Some (except_pattern (ns_is i) (library_is i) (except_element x)) in
      let except_is = last ∙ (inherited ∙ ap (option_map Some) e) in
      λ i. data_node (library_is i) (Some (type_is i)) (params_are i) (except_is i)
