use Rattle.std.proofs.Common.{◌++◌, ◌∷◌, ap, ◌∙◌, refl}
use Rattle.std.specs.Prelude.{codes}
use Rattle.rn_syntax.specs.declared.tree.Operator.TheVariants as o
use Rattle.std.specs.Prelude.{Some}
use Rattle.rn_syntax.specs.View.{pattern_view}
use Rattle.rn_rng.specs.declared.element_context.ElementContext.{ElementContext}
use Rattle.rn_rng.specs.Layout.{items_text, tag_front}
use Rattle.rn_rng.specs.Translation.{attribute, body_xml, combine_attributes, element, grouped}
use Rattle.rn_rng.specs.inside.Views.{given, pattern_at}
use Rattle.rn_rng.proofs.Writing.{has_items-unwrapped, writes_as, writes_element, writes_one}
use Rattle.rn_rng.proofs.grammar_xml.write_definition.Goals as goal

pub returns : goal.returns
returns c =
    let N = c.args.namespaces.now in
    let n = c.args.level in
    let p = pattern_view c.args.body.now in
    let attrs = attribute (codes "name") c.args.name.now ∷ combine_attributes c.args.method in
    let x = body_xml (given N) p in
    let line = writes_as (λ i. tag_front n (codes "define") (c.new.ensures i ∷ c.combine.ensures i) ++ codes ">\n") c.open.ensures in
    let at = c.wrapped-inside.ensures ∙ ap (λ (y : ElementContext). record y { wrapper = Some o.Comma }) c.at.ensures in
    let inner = writes_as (λ i. pattern_at N (at i) p) c.write_pattern.ensures in
    let content = writes_as (ap (λ m. items_text m (grouped x)) c.deeper.ensures) inner in
    writes_one n (element (codes "define") attrs (grouped x)) (writes_element n (codes "define") attrs (grouped x) refl (has_items-unwrapped (codes "group") x) line content c.close.ensures)
