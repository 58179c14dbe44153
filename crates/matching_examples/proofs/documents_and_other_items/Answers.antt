use Rattle.std.proofs.Common.{refl, arith, [], ◌∷◌}
use Rattle.matching_examples.specs.Examples.{x_one, a_with, x_in_u}
use Rattle.matching_examples.proofs.Trials.Tried.{document}
use Rattle.matching_examples.proofs.documents_and_other_items.Goals as goal

pub returns-clause-two_names : goal.returns-clause-two_names
returns-clause-two_names c = document (a_with (x_one ∷ x_in_u ∷ [])) refl

pub returns-clause-one_name_twice : goal.returns-clause-one_name_twice
returns-clause-one_name_twice c = λ h. h.0 0 1 x_one (omega arith) (omega arith) (refl, refl)

pub returns-clause-one_name_twice_inside : goal.returns-clause-one_name_twice_inside
returns-clause-one_name_twice_inside c = λ h. h.2.0.0 0 1 x_one (omega arith) (omega arith) (refl, refl)

pub returns-clause-two_strings : goal.returns-clause-two_strings
returns-clause-two_strings c = λ h. h.1

pub returns-clause-empty_string : goal.returns-clause-empty_string
returns-clause-empty_string c = λ h. h.1 refl

pub returns-clause-no_element : goal.returns-clause-no_element
returns-clause-no_element c = λ h. h
