use Rattle.std.proofs.Common.{◌∷◌, [], ◌++◌, refl, ap, ◌∙◌}
use Rattle.std.specs.Prelude.{codes}
use Rattle.rn_rng.specs.Layout.{tag_front}
use Rattle.rn_rng.specs.Translation.{attribute}
use Rattle.rn_rng.proofs.Writing.{writes_as, writes_leaf}
use Rattle.rn_rng.proofs.pattern_xml.write_ref.Goals as goal

pub returns : goal.returns
returns c =
    let n = c.args.level in
    let attributes = c.with.ensures.attributes ∙ ap (λ a. a ∷ []) c.new.ensures in
    writes_leaf n (codes "ref") (attribute (codes "name") c.args.name.now ∷ []) refl (writes_as (λ i. tag_front n (c.with.ensures.element i) (attributes i) ++ codes "/>\n") c.empty.ensures)
