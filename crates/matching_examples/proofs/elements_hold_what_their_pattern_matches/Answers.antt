use Rattle.std.proofs.Common.{refl, [], ◌∷◌}
use Rattle.std.specs.Prelude.{codes}
use Rattle.matching_examples.specs.Examples.{leaf, x_one, no_library, a_or_b, b_of_text, a_of, a_with, b_with_x, b_of_a, a_in_u}
use Rattle.matching_examples.proofs.Trials.Tried.{accepted, rejected, from_one}
use Rattle.matching_examples.proofs.elements_hold_what_their_pattern_matches.Goals as goal

pub returns-clause-a_alone : goal.returns-clause-a_alone
returns-clause-a_alone c = accepted 1 a_or_b no_library (leaf (codes "a")) refl refl

pub returns-clause-b_of_text : goal.returns-clause-b_of_text
returns-clause-b_of_text c = accepted 1 a_or_b no_library b_of_text refl refl

pub returns-clause-b_alone : goal.returns-clause-b_alone
returns-clause-b_alone c = accepted 1 a_or_b no_library (leaf (codes "b")) refl refl

pub returns-clause-c_alone : goal.returns-clause-c_alone
returns-clause-c_alone c = rejected a_or_b no_library (leaf (codes "c")) refl (from_one _ refl (λ n. refl))

pub returns-clause-a_of_x : goal.returns-clause-a_of_x
returns-clause-a_of_x c = rejected a_or_b no_library (a_of (codes "x")) refl (from_one _ refl (λ n. refl))

pub returns-clause-a_with_x : goal.returns-clause-a_with_x
returns-clause-a_with_x c = rejected a_or_b no_library (a_with (x_one ∷ [])) refl (from_one _ refl (λ n. refl))

pub returns-clause-b_of_a : goal.returns-clause-b_of_a
returns-clause-b_of_a c = rejected a_or_b no_library b_of_a refl (from_one _ refl (λ n. refl))

pub returns-clause-a_in_other_namespace : goal.returns-clause-a_in_other_namespace
returns-clause-a_in_other_namespace c = rejected a_or_b no_library a_in_u refl (from_one _ refl (λ n. refl))

pub returns-clause-b_with_attribute : goal.returns-clause-b_with_attribute
returns-clause-b_with_attribute c = rejected a_or_b no_library b_with_x refl (from_one _ refl (λ n. refl))
