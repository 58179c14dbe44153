use Rattle.std.proofs.Common.{refl}
use Rattle.matching_examples.specs.Examples.{no_library, a_then_b, a_and_b, a_twice_and_b, doc_a_b, doc_b_a, doc_a, doc_a_b_a, doc_a_a_a_b, doc_text_a_text, doc_text_b, mixed_a}
use Rattle.matching_examples.proofs.Trials.Tried.{accepted, rejected}
use Rattle.matching_examples.proofs.groups_and_interleaves.Goals as goal

pub returns-clause-group_in_order : goal.returns-clause-group_in_order
returns-clause-group_in_order c = accepted 0 a_then_b no_library doc_a_b refl refl

pub returns-clause-group_turned : goal.returns-clause-group_turned
returns-clause-group_turned c = rejected a_then_b no_library doc_b_a refl (λ n. refl)

pub returns-clause-group_short : goal.returns-clause-group_short
returns-clause-group_short c = rejected a_then_b no_library doc_a refl (λ n. refl)

pub returns-clause-interleave_in_order : goal.returns-clause-interleave_in_order
returns-clause-interleave_in_order c = accepted 0 a_and_b no_library doc_a_b refl refl

pub returns-clause-interleave_turned : goal.returns-clause-interleave_turned
returns-clause-interleave_turned c = accepted 0 a_and_b no_library doc_b_a refl refl

pub returns-clause-interleave_short : goal.returns-clause-interleave_short
returns-clause-interleave_short c = rejected a_and_b no_library doc_a refl (λ n. refl)

pub returns-clause-repeats_apart : goal.returns-clause-repeats_apart
returns-clause-repeats_apart c = accepted 0 a_twice_and_b no_library doc_a_b_a refl refl

pub returns-clause-repeats_short : goal.returns-clause-repeats_short
returns-clause-repeats_short c = rejected a_twice_and_b no_library doc_a_b refl (λ n. refl)

pub returns-clause-repeats_long : goal.returns-clause-repeats_long
returns-clause-repeats_long c = rejected a_twice_and_b no_library doc_a_a_a_b refl (λ n. refl)

pub returns-clause-mixed : goal.returns-clause-mixed
returns-clause-mixed c = accepted 0 mixed_a no_library doc_text_a_text refl refl

pub returns-clause-mixed_other : goal.returns-clause-mixed_other
returns-clause-mixed_other c = rejected mixed_a no_library doc_text_b refl (λ n. refl)
