-- The pattern that the XML of a pattern is (RELAX NG 2001, 4.3, 4.4, 4.8, 4.9 and 4.12 to 4.15).
use Rattle.std.proofs.Common.{◌≡◌, false, List, [], refl, ap, ◌∙◌, Option, Some, None}
use Rattle.std.specs.Prelude.{codes, option_map, option_and_then}
use Rattle.std.proofs.lemmas.Bool.{cond-false}
use Rattle.rn_text.specs.Texts.{Text}
use Rattle.rn_pattern.specs.Document.{Item, Items, no_items, more_items}
use Rattle.rn_pattern.specs.Tree.{NameTree, Tree, Trees, ref, list, attribute, element, one_or_more, group, interleave, choice, no_trees, more_trees}
use Rattle.rn_syntax.specs.declared.tree.Operator.TheVariants as o
use Rattle.rn_syntax.specs.declared.tree.Postfix.TheVariants as r
use Rattle.rn_syntax.specs.Tree as t
use Rattle.rn_syntax.specs.Tree.{NameClass, Pattern, Patterns, Declaration}
use Rattle.rn_assemble.specs.Resolve.{default_of, namespace_of, type_library, resolved_class, resolved_pattern, resolved_patterns}
use Rattle.rn_assemble.specs.WritableTexts.{IsName}
use Rattle.rn_assemble.proofs.WellFormed.GoodTrees.{IsGoodClass, IsGoodPattern, AreGoodPatterns}
use Rattle.rn_rng.specs.Translation as x
use Rattle.rn_rng.specs.Translation.{items_then, grouped, except_element, ns_inside, class_attributes, class_items, class_inside, pattern_xml, patterns_xml}
use Rattle.rn_rng.specs.SchemaElements.{is_space, library_in, ns_in}
use Rattle.rn_rng.specs.PatternElements.{wrapped, attribute_pattern, one_pattern, with_tree, named_node, mixed_node, optional_node, zero_or_more_node, value_node, pattern_of, patterns_of, except_pattern}
use Rattle.rn_rng.proofs.Meaning.PlainNames.{trimmed_name}
use Rattle.rn_rng.proofs.Meaning.WrittenNames.{held_text, ns_of_name, library_of_name, written_name}
use Rattle.rn_rng.proofs.Meaning.NameClasses.{class_meaning}
use Rattle.rn_rng.proofs.Meaning.Datatypes.{value_meaning, datum_meaning, datum_but_meaning}
use Rattle.rn_rng.proofs.Meaning.SeveralMembers.{IsPluralClass, AreSeveral, IsPlural, ArePlural}

several : (node : Trees → Tree) (ds : List Declaration) (ps : Patterns) → AreSeveral ps → wrapped node (resolved_patterns [] ds ps) ≡ Some (node (resolved_patterns [] ds ps))
several node ds t.no_patterns s = absurd s
several node ds (t.pattern p t.no_patterns) s = absurd s
several node ds (t.pattern p (t.pattern q ps)) s = refl

module _ (ds : List Declaration) where
  pattern_no_space : (ns library : Text) (p : Pattern) → is_space (pattern_xml ds ns library p) ≡ false
  pattern_no_space ns library t.empty = refl
  pattern_no_space ns library p = refl

  -- ---- one child

  -- a pattern as the one child of an element
  pub lone_meaning : (ns library : Text) (p : Pattern) (q : Tree) → pattern_of ns library (pattern_xml ds ns library p) ≡ Some q → patterns_of ns library (more_items (pattern_xml ds ns library p) no_items) ≡ Some (more_trees q no_trees)
  lone_meaning ns library p q h = cond-false (is_space (pattern_xml ds ns library p)) _ _ (pattern_no_space ns library p) ∙ ap (λ o. with_tree o (Some no_trees)) h

  -- and where several are a group
  pub grouped_meaning : (ns library : Text) (p : Pattern) (q : Tree) → pattern_of ns library (pattern_xml ds ns library p) ≡ Some q → one_pattern (patterns_of ns library (grouped (pattern_xml ds ns library p))) ≡ Some q
  grouped_meaning ns library (t.chain o.Comma (t.pattern p ps)) q h = h
  grouped_meaning ns library (t.chain o.Comma t.no_patterns) q h = ap (λ o. one_pattern (with_tree o (Some no_trees))) h
  grouped_meaning ns library (t.chain o.Ampersand ps) q h = ap (λ o. one_pattern (with_tree o (Some no_trees))) h
  grouped_meaning ns library (t.chain o.Bar ps) q h = ap (λ o. one_pattern (with_tree o (Some no_trees))) h
  grouped_meaning ns library (t.repeated r.Question p) q h = ap (λ o. one_pattern (with_tree o (Some no_trees))) h
  grouped_meaning ns library (t.repeated r.Star p) q h = ap (λ o. one_pattern (with_tree o (Some no_trees))) h
  grouped_meaning ns library (t.repeated r.Plus p) q h = ap (λ o. one_pattern (with_tree o (Some no_trees))) h
  grouped_meaning ns library p q h = ap (λ o. one_pattern (with_tree o (Some no_trees))) h

  -- and where several are a choice
  excepted_meaning : (ns library : Text) (p : Pattern) (q : Tree) → pattern_of ns library (pattern_xml ds ns library p) ≡ Some q → except_pattern ns library (except_element (pattern_xml ds ns library p)) ≡ Some q
  excepted_meaning ns library (t.chain o.Bar (t.pattern p ps)) q h = h
  excepted_meaning ns library (t.chain o.Bar t.no_patterns) q h = ap (λ o. option_and_then (wrapped choice) (with_tree o (Some no_trees))) h
  excepted_meaning ns library (t.chain o.Ampersand ps) q h = ap (λ o. option_and_then (wrapped choice) (with_tree o (Some no_trees))) h
  excepted_meaning ns library (t.chain o.Comma ps) q h = ap (λ o. option_and_then (wrapped choice) (with_tree o (Some no_trees))) h
  excepted_meaning ns library (t.repeated r.Question p) q h = ap (λ o. option_and_then (wrapped choice) (with_tree o (Some no_trees))) h
  excepted_meaning ns library (t.repeated r.Star p) q h = ap (λ o. option_and_then (wrapped choice) (with_tree o (Some no_trees))) h
  excepted_meaning ns library (t.repeated r.Plus p) q h = ap (λ o. option_and_then (wrapped choice) (with_tree o (Some no_trees))) h
  excepted_meaning ns library p q h = ap (λ o. option_and_then (wrapped choice) (with_tree o (Some no_trees))) h

  -- the content of an attribute
  content_meaning : (ns library : Text) (p : Pattern) → pattern_of ns library (pattern_xml ds ns library p) ≡ Some (resolved_pattern [] ds p)
      → option_and_then attribute_pattern (patterns_of ns library (x.attribute_content p (pattern_xml ds ns library p))) ≡ Some (resolved_pattern [] ds p)
  content_meaning ns library t.text h = refl
  content_meaning ns library p h = ap (λ o. option_and_then attribute_pattern (with_tree o (Some no_trees))) h

  -- ---- elements and attributes: a name class, and what `inside` gives for the nearest `ns` behind it

  abbrev named_xml : (local ns taken own : Text) → NameClass → (Text → Items) → Item
  named_xml local ns taken own c inside = x.element local (class_attributes ds taken own c) (items_then (class_items ds ns own c) (inside (class_inside ds ns taken own c)))

  abbrev Holds : (library : Text) → (Option Trees → Option Tree) → (Text → Items) → Tree → Type 0
  Holds library one inside p = (ns : Text) → one (patterns_of ns library (inside ns)) ≡ Some p

  module _ (library : Text) (inside : Text → Items) (p : Tree) where
    named_element : (ns uri local : Text) → IsName local → Holds library one_pattern inside p
        → pattern_of ns library (x.element (codes "element") (x.name_attributes ns uri local) (inside (ns_inside ns ns uri))) ≡ Some (element (NameTree.name uri local) p)
    named_element ns uri local n h =
        let name_is = written_name ns uri local n in
        let ns_is = ns_of_name ns ns uri local in
        let library_is = library_of_name library ns uri local in
        let content : one_pattern (patterns_of (ns_in ns (x.name_attributes ns uri local)) (library_in library (x.name_attributes ns uri local)) (inside (ns_inside ns ns uri))) ≡ Some p = (λ i. one_pattern (patterns_of (ns_is i) (library_is i) (inside (ns_inside ns ns uri)))) ∙ h (ns_inside ns ns uri) in
        λ i. named_node element (name_is i) (content i)

    named_attribute : (ns uri local : Text) → IsName local → Holds library (option_and_then attribute_pattern) inside p
        → pattern_of ns library (x.element (codes "attribute") (x.name_attributes [] uri local) (inside (ns_inside ns [] uri))) ≡ Some (attribute (NameTree.name uri local) p)
    named_attribute ns uri local n h =
        let name_is = written_name [] uri local n in
        let ns_is = ns_of_name ns [] uri local in
        let library_is = library_of_name library [] uri local in
        let content : option_and_then attribute_pattern (patterns_of (ns_in ns (x.name_attributes [] uri local)) (library_in library (x.name_attributes [] uri local)) (inside (ns_inside ns [] uri))) ≡ Some p = (λ i. option_and_then attribute_pattern (patterns_of (ns_is i) (library_is i) (inside (ns_inside ns [] uri)))) ∙ h (ns_inside ns [] uri) in
        λ i. named_node attribute (name_is i) (content i)

    element_meaning : (ns own : Text) (c : NameClass) → IsGoodClass c → IsPluralClass c → Holds library one_pattern inside p
        → pattern_of ns library (named_xml (codes "element") ns ns own c inside) ≡ Some (element (resolved_class [] ds own c) p)
    element_meaning ns own (t.name (t.local l)) g s h = named_element ns own l g h
    element_meaning ns own (t.name (t.prefixed q l i)) g s h = named_element ns (namespace_of [] ds q) l g h
    element_meaning ns own c g s h = let class_is = class_meaning ds own ns c g s in let content = h ns in λ i. named_node element (class_is i) (content i)

    attribute_meaning : (ns : Text) (c : NameClass) → IsGoodClass c → IsPluralClass c → Holds library (option_and_then attribute_pattern) inside p
        → pattern_of ns library (named_xml (codes "attribute") ns [] [] c inside) ≡ Some (attribute (resolved_class [] ds [] c) p)
    attribute_meaning ns (t.name (t.local l)) g s h = named_attribute ns [] l g h
    attribute_meaning ns (t.name (t.prefixed q l i)) g s h = named_attribute ns (namespace_of [] ds q) l g h
    attribute_meaning ns c g s h = let class_is = class_meaning ds [] ns c g s in let content = h ns in λ i. named_node attribute (class_is i) (content i)

  -- ---- all patterns

  mutual
    pub pattern_meaning : (ns library : Text) (p : Pattern) → IsGoodPattern p → IsPlural p → pattern_of ns library (pattern_xml ds ns library p) ≡ Some (resolved_pattern [] ds p)
    pattern_meaning ns library (t.element c p) g s =
        element_meaning library (λ inside. grouped (pattern_xml ds inside library p)) (resolved_pattern [] ds p) ns (default_of [] ds) c g.0 s.0
        (λ inside. grouped_meaning inside library p (resolved_pattern [] ds p) (pattern_meaning inside library p g.1 s.1))
    pattern_meaning ns library (t.attribute c p) g s =
        attribute_meaning library (λ inside. x.attribute_content p (pattern_xml ds inside library p)) (resolved_pattern [] ds p) ns c g.0 s.0
        (λ inside. content_meaning inside library p (pattern_meaning inside library p g.1 s.1))
    pattern_meaning ns library (t.list p) g s = ap (option_map list) (grouped_meaning ns library p _ (pattern_meaning ns library p g s))
    pattern_meaning ns library (t.mixed p) g s = ap (option_map mixed_node) (grouped_meaning ns library p _ (pattern_meaning ns library p g s))
    pattern_meaning ns library t.empty g s = refl
    pattern_meaning ns library t.not_allowed g s = refl
    pattern_meaning ns library t.text g s = refl
    pattern_meaning ns library (t.ref x) g s = ap (λ (y : Text). Some (ref y)) (trimmed_name x g)
    pattern_meaning ns library (t.value None v) g s = ap (option_map (value_node library None)) (held_text v)
    pattern_meaning ns library (t.value (Some d) v) g s = value_meaning ds library d v g.0
    pattern_meaning ns library (t.datum d es) g s = datum_meaning ds ns library d es g.0 g.1
    pattern_meaning ns library (t.datum_but d es i p) g s =
        datum_but_meaning ds ns library d es (pattern_xml ds ns (type_library [] ds d) p) (resolved_pattern [] ds p) g.0 g.1
        (excepted_meaning ns (type_library [] ds d) p (resolved_pattern [] ds p) (pattern_meaning ns (type_library [] ds d) p g.2 s))
    pattern_meaning ns library (t.repeated r.Question p) g s = ap (option_map optional_node) (grouped_meaning ns library p _ (pattern_meaning ns library p g s))
    pattern_meaning ns library (t.repeated r.Star p) g s = ap (option_map zero_or_more_node) (grouped_meaning ns library p _ (pattern_meaning ns library p g s))
    pattern_meaning ns library (t.repeated r.Plus p) g s = ap (option_map one_or_more) (grouped_meaning ns library p _ (pattern_meaning ns library p g s))
    pattern_meaning ns library (t.chain o.Comma ps) g s = ap one_pattern (patterns_meaning ns library ps g s.1) ∙ several group ds ps s.0
    pattern_meaning ns library (t.chain o.Ampersand ps) g s = ap (option_and_then (wrapped interleave)) (patterns_meaning ns library ps g s.1) ∙ several interleave ds ps s.0
    pattern_meaning ns library (t.chain o.Bar ps) g s = ap (option_and_then (wrapped choice)) (patterns_meaning ns library ps g s.1) ∙ several choice ds ps s.0

    pub patterns_meaning : (ns library : Text) (ps : Patterns) → AreGoodPatterns ps → ArePlural ps → patterns_of ns library (patterns_xml ds ns library ps) ≡ Some (resolved_patterns [] ds ps)
    patterns_meaning ns library t.no_patterns g s = refl
    patterns_meaning ns library (t.pattern p ps) g s =
        let first = pattern_meaning ns library p g.0 s.0 in
        let rest = patterns_meaning ns library ps g.1 s.1 in
        cond-false (is_space (pattern_xml ds ns library p)) _ _ (pattern_no_space ns library p) ∙ (λ i. with_tree (first i) (rest i))
