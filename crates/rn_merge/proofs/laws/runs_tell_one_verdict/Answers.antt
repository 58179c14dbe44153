use Rattle.rn_merge.proofs.Runs.BroughtContributions.{same_brought}
use Rattle.rn_merge.proofs.Runs.OneTold.{one_told, run_never_full}
use Rattle.rn_merge.proofs.laws.runs_tell_one_verdict.Goals as goal

pub returns-clause-one_verdict : goal.returns-clause-one_verdict
returns-clause-one_verdict c = one_told

pub returns-clause-never_full : goal.returns-clause-never_full
returns-clause-never_full c = run_never_full

pub returns-clause-any_order : goal.returns-clause-any_order
returns-clause-any_order c = same_brought
