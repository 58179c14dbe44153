use Rattle.std.proofs.Common.{◌++◌, refl}
use Rattle.std.specs.Prelude.{codes}
use Rattle.std.specs.Cow.{cow_str_bytes}
use Rattle.rn_syntax.specs.View.{type_view}
use Rattle.rn_rng.specs.Layout.{end_tag, escaped, in_element, tag_front}
use Rattle.rn_rng.specs.Translation.{value_attributes}
use Rattle.rn_rng.specs.inside.Views.{given, uri_of}
use Rattle.rn_rng.proofs.Writing.{writes_as, writes_line}
use Rattle.rn_rng.proofs.data_xml.write_value.Goals as goal

pub returns : goal.returns
returns c =
    let N = c.args.namespaces.now in
    let n = c.args.context.level in
    let v = c.args.value.now in
    let l = c.value_tag-tag.ensures.element in
    let a = c.value_tag-tag.ensures.attributes in
    let s = c.as_str.ensures.value in
    writes_line n (codes "value") (value_attributes (given N) (uri_of N c.args.context.library) (type_view v.datatype)) (cow_str_bytes v.text) refl
    (writes_as (λ i. tag_front n (l i) (a i) ++ (codes ">" ++ (escaped in_element (s i) ++ end_tag (l i)))) c.line.ensures)
