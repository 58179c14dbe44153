use Rattle.std.proofs.Common.{◌++◌, append-nil, ap, ◌∙◌, refl}
use Rattle.std.specs.Prelude.{codes}
use Rattle.rn_syntax.specs.View.{pattern_view}
use Rattle.rn_rng.specs.Layout.{items_text, tag_front}
use Rattle.rn_rng.specs.Translation.{body_xml, combine_attributes, element, one_item}
use Rattle.rn_rng.specs.inside.Views.{given, pattern_at}
use Rattle.rn_rng.proofs.Writing.{writes_as, writes_element, writes_one}
use Rattle.rn_rng.proofs.grammar_xml.write_start.Goals as goal

pub returns : goal.returns
returns c =
    let N = c.args.namespaces.now in
    let n = c.args.level in
    let p = pattern_view c.args.body.now in
    let attrs = combine_attributes c.args.method in
    let x = body_xml (given N) p in
    let a = append-nil _ ∙ c.combine.ensures in
    let line = writes_as (λ i. tag_front n (codes "start") (a i) ++ codes ">\n") c.open.ensures in
    let inner = writes_as (λ i. pattern_at N (c.at.ensures i) p) c.write_pattern.ensures in
    let content = writes_as (ap (λ m. items_text m (one_item x)) c.deeper.ensures) inner in
    writes_one n (element (codes "start") attrs (one_item x)) (writes_element n (codes "start") attrs (one_item x) refl refl line content c.close.ensures)
