use Rattle.rn_rng.specs.inside.Views.{holder_view}
use Rattle.rn_rng.proofs.References.{with_reference, without_reference}
use Rattle.rn_rng.proofs.Writing.{writes_as}
use Rattle.rn_rng.proofs.lines.Writer.put_reference.Goals as goal

pub returns-in-Some : goal.returns-in-Some
returns-in-Some c = writes_as (with_reference (holder_view c.args.holder) c.args.c c.in-Some.reference.now c.in-Some.ensures.0 c.in-Some.ensures.1) c.put.ensures

pub returns-in-None : goal.returns-in-None
returns-in-None c = writes_as (without_reference (holder_view c.args.holder) c.args.c c.in-None.ensures) c.put_char.ensures
