use Rattle.std.proofs.Common.{refl, [], ◌∷◌}
use Rattle.std.specs.Prelude.{codes}
use Rattle.rn_pattern.specs.Tree.{empty}
use Rattle.matching_examples.specs.Examples.{string_is, token_is, any_string, leaf, said, x_one, blank, no_library, a_of, a_with, a_of_b, a_with_x_of, a_holding, x_and_string, x_is_one, x_is_empty}
use Rattle.matching_examples.proofs.Trials.Tried.{accepted, rejected}
use Rattle.matching_examples.proofs.content_matches_weakly.Goals as goal

pub returns-clause-blank_for_nothing : goal.returns-clause-blank_for_nothing
returns-clause-blank_for_nothing c = accepted 0 (a_holding empty) no_library (a_of blank) refl refl

pub returns-clause-letter_for_nothing : goal.returns-clause-letter_for_nothing
returns-clause-letter_for_nothing c = rejected (a_holding empty) no_library (a_of (codes "x")) refl (λ n. refl)

pub returns-clause-nothing_for_string : goal.returns-clause-nothing_for_string
returns-clause-nothing_for_string c = accepted 0 (a_holding any_string) no_library (leaf (codes "a")) refl refl

pub returns-clause-nothing_for_empty_value : goal.returns-clause-nothing_for_empty_value
returns-clause-nothing_for_empty_value c = accepted 0 (a_holding (string_is [])) no_library (leaf (codes "a")) refl refl

pub returns-clause-nothing_for_value : goal.returns-clause-nothing_for_value
returns-clause-nothing_for_value c = rejected (a_holding (token_is (codes "x"))) no_library (leaf (codes "a")) refl (λ n. refl)

pub returns-clause-blank_for_empty_value : goal.returns-clause-blank_for_empty_value
returns-clause-blank_for_empty_value c = rejected (a_holding (string_is [])) no_library (a_of blank) refl (λ n. refl)

pub returns-clause-element_for_string : goal.returns-clause-element_for_string
returns-clause-element_for_string c = rejected (a_holding any_string) no_library a_of_b refl (λ n. refl)

pub returns-clause-blank_attribute : goal.returns-clause-blank_attribute
returns-clause-blank_attribute c = accepted 0 (a_holding x_is_empty) no_library (a_with (said (codes "x") blank ∷ [])) refl refl

pub returns-clause-some_attribute : goal.returns-clause-some_attribute
returns-clause-some_attribute c = rejected (a_holding x_is_empty) no_library (a_with (x_one ∷ [])) refl (λ n. refl)

pub returns-clause-blank_beside_attribute : goal.returns-clause-blank_beside_attribute
returns-clause-blank_beside_attribute c = accepted 0 (a_holding x_is_one) no_library (a_with_x_of blank) refl refl

pub returns-clause-nothing_beside_attribute : goal.returns-clause-nothing_beside_attribute
returns-clause-nothing_beside_attribute c = accepted 0 (a_holding x_and_string) no_library (a_with (x_one ∷ [])) refl refl
