-- The grammar that the XML of a module's items is (RELAX NG 2001, 4.11, 4.12, 4.17 and 4.18).
use Rattle.std.proofs.Common.{◌≡◌, List, [], ◌∷◌, refl, ap, Some}
use Rattle.std.specs.Prelude.{option_map, option_and_then}
use Rattle.rn_text.specs.Texts.{Text}
use Rattle.rn_pattern.specs.Document.{no_items, more_items}
use Rattle.rn_syntax.specs.declared.tree.Method.{Method}
use Rattle.rn_syntax.specs.declared.tree.Method.TheVariants as m
use Rattle.rn_syntax.specs.Tree as t
use Rattle.rn_syntax.specs.Tree.{Pattern, Declaration, Module, includes}
use Rattle.rn_syntax.specs.Places.{xsd_uri}
use Rattle.rn_syntax.proofs.Lists.EmptyLists.{nil_parts}
use Rattle.rn_assemble.specs.Resolve.{resolved_pattern}
use Rattle.rn_assemble.specs.Components.{Component, start_key, name_key, all_components}
use Rattle.rn_assemble.specs.Combine.{joined_grammar, module_grammar}
use Rattle.rn_assemble.specs.WritableTexts.{IsName}
use Rattle.rn_assemble.proofs.WellFormed.GoodTrees.{IsGoodPattern, AreGoodItems}
use Rattle.rn_rng.specs.Translation.{grouped, body_xml, items_xml, xml_of}
use Rattle.rn_rng.specs.PatternElements.{one_pattern, patterns_of, pattern_of}
use Rattle.rn_rng.specs.SchemaElements.{trimmed}
use Rattle.rn_rng.specs.GrammarElement.{component, lone_tree, with_components, items_components, grammar_of}
use Rattle.rn_rng.proofs.Meaning.PlainNames.{trimmed_name}
use Rattle.rn_rng.proofs.Meaning.Patterns.{pattern_meaning, grouped_meaning, lone_meaning}
use Rattle.rn_rng.proofs.Meaning.SeveralMembers.{IsPlural, ArePluralItems}

module _ (ds : List Declaration) where
  abbrev own_components : t.Items → List Component
  own_components = all_components (λ wanted inherited. []) [] ds

  body_meaning : (p : Pattern) → IsGoodPattern p → IsPlural p → pattern_of [] xsd_uri (body_xml ds p) ≡ Some (resolved_pattern [] ds p)
  body_meaning = pattern_meaning ds [] xsd_uri

  define_meaning : (x : Text) (w : Method) (p : Pattern) → IsName x → IsGoodPattern p → IsPlural p
      → component (option_map name_key (Some (trimmed x))) (Some w) (one_pattern (patterns_of [] xsd_uri (grouped (body_xml ds p)))) ≡ Some (record { key = name_key x; method = w; body = resolved_pattern [] ds p } ∷ [])
  define_meaning x w p n h s =
      let name_is = trimmed_name x n in
      let body = grouped_meaning ds [] xsd_uri p (resolved_pattern [] ds p) (body_meaning p h s) in
      λ i. component (Some (name_key (name_is i))) (Some w) (body i)

  start_meaning : (w : Method) (p : Pattern) → IsGoodPattern p → IsPlural p
      → component (Some start_key) (Some w) (option_and_then lone_tree (patterns_of [] xsd_uri (more_items (body_xml ds p) no_items))) ≡ Some (record { key = start_key; method = w; body = resolved_pattern [] ds p } ∷ [])
  start_meaning w p h s = let body = lone_meaning ds [] xsd_uri p (resolved_pattern [] ds p) (body_meaning p h s) in λ i. component (Some start_key) (Some w) (option_and_then lone_tree (body i))

  items_meaning : (xs : t.Items) → includes xs ≡ [] → AreGoodItems xs → ArePluralItems xs → items_components [] xsd_uri (items_xml ds xs) ≡ Some (own_components xs)
  items_meaning t.no_items e h s = refl
  items_meaning (t.item (t.define x m.Plain p) xs) e h s = let first = define_meaning x m.Plain p h.0.0 h.0.1 s.0 in let rest = items_meaning xs e h.1 s.1 in λ i. with_components (first i) (rest i)
  items_meaning (t.item (t.define x m.Choice p) xs) e h s = let first = define_meaning x m.Choice p h.0.0 h.0.1 s.0 in let rest = items_meaning xs e h.1 s.1 in λ i. with_components (first i) (rest i)
  items_meaning (t.item (t.define x m.Interleave p) xs) e h s = let first = define_meaning x m.Interleave p h.0.0 h.0.1 s.0 in let rest = items_meaning xs e h.1 s.1 in λ i. with_components (first i) (rest i)
  items_meaning (t.item (t.start m.Plain p) xs) e h s = let first = start_meaning m.Plain p h.0 s.0 in let rest = items_meaning xs e h.1 s.1 in λ i. with_components (first i) (rest i)
  items_meaning (t.item (t.start m.Choice p) xs) e h s = let first = start_meaning m.Choice p h.0 s.0 in let rest = items_meaning xs e h.1 s.1 in λ i. with_components (first i) (rest i)
  items_meaning (t.item (t.start m.Interleave p) xs) e h s = let first = start_meaning m.Interleave p h.0 s.0 in let rest = items_meaning xs e h.1 s.1 in λ i. with_components (first i) (rest i)
  items_meaning (t.item (t.div ys) xs) e h s =
      let parts = nil_parts (includes ys) (includes xs) e in
      let first = items_meaning ys parts.0 h.0 s.0 in
      let rest = items_meaning xs parts.1 h.1 s.1 in
      λ i. with_components (first i) (rest i)
  items_meaning (t.item (t.include u q ys) xs) e h s = cc

pub grammar_meaning : (w : Module) → includes w.items ≡ [] → AreGoodItems w.items → ArePluralItems w.items → grammar_of (xml_of w) ≡ Some (module_grammar w)
grammar_meaning w e h s = ap (option_map joined_grammar) (items_meaning w.declarations w.items e h s)
