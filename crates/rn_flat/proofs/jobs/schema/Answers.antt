use Rattle.std.proofs.Common.{subst}
use Rattle.std.specs.Prelude.{string_bytes}
use Rattle.rn_simplify.specs.Verdict.{prints, IsVerdict}
use Rattle.rn_flat.proofs.jobs.schema.Goals as goal

pub returns-in-Ok : goal.returns-in-Ok
returns-in-Ok c = λ is. subst (λ s. IsVerdict s (prints (string_bytes c.in-Ok.text))) is c.in-Ok.ensures.verdict
