use Rattle.rn_merge.proofs.Verdicts.EverySet.{never_no_verdict, never_unassembled, never_uncanonical, no_refusal}
use Rattle.rn_merge.proofs.laws.every_set_has_a_verdict.Goals as goal

pub returns-clause-verdict : goal.returns-clause-verdict
returns-clause-verdict c = never_no_verdict

pub returns-clause-first : goal.returns-clause-first
returns-clause-first c = λ s q h no. no_refusal s no q h

pub returns-clause-grammar : goal.returns-clause-grammar
returns-clause-grammar c = never_unassembled

pub returns-clause-canonical : goal.returns-clause-canonical
returns-clause-canonical c = never_uncanonical
