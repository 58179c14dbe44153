use Rattle.std.proofs.Common.{◌++◌}
use Rattle.std.specs.Prelude.{codes}
use Rattle.rn_rng.specs.Layout.{tag_front}
use Rattle.rn_rng.proofs.Writing.{writes_as}
use Rattle.rn_rng.proofs.lines.Writer.open_bare.Goals as goal

pub returns : goal.returns
returns c =
    let l = c.bare.ensures.element in
    let a = c.bare.ensures.attributes in
    writes_as (λ i. tag_front c.args.level (l i) (a i) ++ codes ">\n") c.open.ensures
