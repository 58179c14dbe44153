use Rattle.std.proofs.Common.{refl, [], ◌∷◌}
use Rattle.std.specs.Prelude.{codes}
use Rattle.matching_examples.specs.Examples.{said, x_one, y_two, z_three, no_library, a_of, a_with, a_with_x_of, a_holding, x_and_y, x_beside_y, all_but_x, x_is_one}
use Rattle.matching_examples.proofs.Trials.Tried.{accepted, rejected}
use Rattle.matching_examples.proofs.attributes_have_no_order.Goals as goal

pub returns-clause-in_order : goal.returns-clause-in_order
returns-clause-in_order c = accepted 0 (a_holding x_and_y) no_library (a_with (x_one ∷ y_two ∷ [])) refl refl

pub returns-clause-turned : goal.returns-clause-turned
returns-clause-turned c = accepted 0 (a_holding x_and_y) no_library (a_with (y_two ∷ x_one ∷ [])) refl refl

pub returns-clause-short : goal.returns-clause-short
returns-clause-short c = rejected (a_holding x_and_y) no_library (a_with (x_one ∷ [])) refl (λ n. refl)

pub returns-clause-long : goal.returns-clause-long
returns-clause-long c = rejected (a_holding x_and_y) no_library (a_with (x_one ∷ y_two ∷ z_three ∷ [])) refl (λ n. refl)

pub returns-clause-except_others : goal.returns-clause-except_others
returns-clause-except_others c = accepted 0 (a_holding all_but_x) no_library (a_with (y_two ∷ z_three ∷ [])) refl refl

pub returns-clause-except_x : goal.returns-clause-except_x
returns-clause-except_x c = rejected (a_holding all_but_x) no_library (a_with (x_one ∷ [])) refl (λ n. refl)

pub returns-clause-except_x_with_other : goal.returns-clause-except_x_with_other
returns-clause-except_x_with_other c = rejected (a_holding all_but_x) no_library (a_with (y_two ∷ x_one ∷ [])) refl (λ n. refl)

pub returns-clause-value_itself : goal.returns-clause-value_itself
returns-clause-value_itself c = accepted 0 (a_holding x_is_one) no_library (a_with (x_one ∷ [])) refl refl

pub returns-clause-value_other : goal.returns-clause-value_other
returns-clause-value_other c = rejected (a_holding x_is_one) no_library (a_with (said (codes "x") (codes "2") ∷ [])) refl (λ n. refl)

pub returns-clause-value_in_content : goal.returns-clause-value_in_content
returns-clause-value_in_content c = rejected (a_holding x_is_one) no_library (a_of (codes "1")) refl (λ n. refl)

pub returns-clause-interleaved : goal.returns-clause-interleaved
returns-clause-interleaved c = accepted 0 (a_holding x_beside_y) no_library (a_with (y_two ∷ x_one ∷ [])) refl refl

pub returns-clause-interleaved_short : goal.returns-clause-interleaved_short
returns-clause-interleaved_short c = rejected (a_holding x_beside_y) no_library (a_with (y_two ∷ [])) refl (λ n. refl)

pub returns-clause-value_beside_content : goal.returns-clause-value_beside_content
returns-clause-value_beside_content c = rejected (a_holding x_is_one) no_library (a_with_x_of (codes "y")) refl (λ n. refl)
