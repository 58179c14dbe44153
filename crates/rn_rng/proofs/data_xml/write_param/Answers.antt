use Rattle.std.proofs.Common.{◌++◌, ◌∷◌, [], ap, ◌∙◌, refl}
use Rattle.std.specs.Prelude.{codes}
use Rattle.std.specs.Cow.{cow_str_bytes}
use Rattle.rn_rng.specs.Layout.{end_tag, escaped, in_element, tag_front}
use Rattle.rn_rng.specs.Translation.{attribute}
use Rattle.rn_rng.proofs.Writing.{writes_as, writes_line}
use Rattle.rn_rng.proofs.data_xml.write_param.Goals as goal

pub returns : goal.returns
returns c =
    let n = c.args.level in
    let p = c.args.param.now in
    let l = c.with-tag.ensures.element in
    let a = c.with-tag.ensures.attributes ∙ ap (λ x. x ∷ []) c.new.ensures in
    let s = c.as_str.ensures.value in
    writes_line n (codes "param") (attribute (codes "name") p.name.now ∷ []) (cow_str_bytes p.text) refl
    (writes_as (λ i. tag_front n (l i) (a i) ++ (codes ">" ++ (escaped in_element (s i) ++ end_tag (l i)))) c.line.ensures)
