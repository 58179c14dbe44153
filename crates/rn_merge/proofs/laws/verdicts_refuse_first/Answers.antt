use Rattle.rn_merge.proofs.Verdicts.Schemas.{verdict_refuses_first}
use Rattle.rn_merge.proofs.laws.verdicts_refuse_first.Goals as goal

pub returns : goal.returns
returns c = verdict_refuses_first
