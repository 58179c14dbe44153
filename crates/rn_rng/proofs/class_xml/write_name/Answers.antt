use Rattle.std.proofs.Common.{◌++◌, append-nil, ◌∙◌, refl}
use Rattle.std.specs.Prelude.{codes}
use Rattle.rn_rng.specs.Layout.{end_tag, escaped, in_element, tag_front}
use Rattle.rn_rng.specs.Translation.{ns_attributes, qualified}
use Rattle.rn_rng.specs.inside.Views.{uri_of}
use Rattle.rn_rng.proofs.Writing.{writes_as, writes_line}
use Rattle.rn_rng.proofs.class_xml.write_name.Goals as goal

pub returns : goal.returns
returns c =
    let N = c.args.namespaces.now in
    let n = c.args.context.level in
    let uri = uri_of N c.args.namespace in
    let a = append-nil _ ∙ c.ns_attribute.ensures in
    writes_line n (codes "name") (ns_attributes (uri_of N c.args.context.namespace) uri) (qualified uri c.args.local.now) refl
    (writes_as (λ i. tag_front n (codes "name") (a i) ++ (codes ">" ++ (escaped in_element (c.prefix_of.ensures i ++ c.args.local.now) ++ end_tag (codes "name")))) c.line.ensures)
