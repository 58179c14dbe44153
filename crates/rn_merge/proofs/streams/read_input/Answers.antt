use Rattle.std.proofs.Common.{rules}
use Rattle.rn_merge.proofs.Runs.MovedBytes.{gives_more}
use Rattle.rn_merge.proofs.streams.read_input.Goals as goal

pub returns-then-given-limit-clause-err : goal.returns-then-given-limit-clause-err
returns-then-given-limit-clause-err g c =
    (search rules, gives_more _ _ _ _ _ _ _ c.loop-given.invariant.given c.in-Ok-pull.ensures.bytes.0 c.in-Ok-pull.ensures.within c.loop-given.invariant.few (search rules))
