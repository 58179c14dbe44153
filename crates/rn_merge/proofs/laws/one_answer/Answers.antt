use Rattle.rn_merge.proofs.Runs.Calls.{one_left, one_answer_of_calls}
use Rattle.rn_merge.proofs.Verdicts.SetVerdict.{one_answer}
use Rattle.rn_merge.proofs.laws.one_answer.Goals as goal

pub returns-clause-set : goal.returns-clause-set
returns-clause-set c = one_left

pub returns-clause-answer : goal.returns-clause-answer
returns-clause-answer c = one_answer_of_calls

pub returns-clause-of_set : goal.returns-clause-of_set
returns-clause-of_set c = one_answer
