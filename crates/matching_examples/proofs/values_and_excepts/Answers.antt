use Rattle.std.proofs.Common.{refl}
use Rattle.std.specs.Prelude.{codes}
use Rattle.matching_examples.specs.Examples.{string_is, token_is, any_string, unknown_type, unknown_value, padded_x_y, padded_x, no_library, a_of, a_with_x_of, a_holding, string_but_x, token_but_x}
use Rattle.matching_examples.proofs.Trials.Tried.{accepted, rejected}
use Rattle.matching_examples.proofs.values_and_excepts.Goals as goal

pub returns-clause-string_itself : goal.returns-clause-string_itself
returns-clause-string_itself c = accepted 0 (a_holding (string_is (codes "x y"))) no_library (a_of (codes "x y")) refl refl

pub returns-clause-string_padded : goal.returns-clause-string_padded
returns-clause-string_padded c = rejected (a_holding (string_is (codes "x y"))) no_library (a_of padded_x_y) refl (λ n. refl)

pub returns-clause-token_padded : goal.returns-clause-token_padded
returns-clause-token_padded c = accepted 0 (a_holding (token_is (codes "x y"))) no_library (a_of padded_x_y) refl refl

pub returns-clause-token_run_together : goal.returns-clause-token_run_together
returns-clause-token_run_together c = rejected (a_holding (token_is (codes "x y"))) no_library (a_of (codes "xy")) refl (λ n. refl)

pub returns-clause-string_other : goal.returns-clause-string_other
returns-clause-string_other c = accepted 0 (a_holding string_but_x) no_library (a_of (codes "y")) refl refl

pub returns-clause-string_excepted : goal.returns-clause-string_excepted
returns-clause-string_excepted c = rejected (a_holding string_but_x) no_library (a_of (codes "x")) refl (λ n. refl)

pub returns-clause-string_padded_other : goal.returns-clause-string_padded_other
returns-clause-string_padded_other c = accepted 0 (a_holding string_but_x) no_library (a_of padded_x) refl refl

pub returns-clause-token_excepted : goal.returns-clause-token_excepted
returns-clause-token_excepted c = rejected (a_holding token_but_x) no_library (a_of padded_x) refl (λ n. refl)

pub returns-clause-token_other : goal.returns-clause-token_other
returns-clause-token_other c = accepted 0 (a_holding token_but_x) no_library (a_of (codes "y")) refl refl

pub returns-clause-value_with_attribute : goal.returns-clause-value_with_attribute
returns-clause-value_with_attribute c = rejected (a_holding (token_is (codes "x"))) no_library (a_with_x_of (codes "x")) refl (λ n. refl)

pub returns-clause-data_with_attribute : goal.returns-clause-data_with_attribute
returns-clause-data_with_attribute c = rejected (a_holding any_string) no_library (a_with_x_of (codes "x")) refl (λ n. refl)

pub returns-clause-except_with_attribute : goal.returns-clause-except_with_attribute
returns-clause-except_with_attribute c = rejected (a_holding string_but_x) no_library (a_with_x_of (codes "y")) refl (λ n. refl)

pub returns-clause-unknown_type : goal.returns-clause-unknown_type
returns-clause-unknown_type c = rejected (a_holding unknown_type) no_library (a_of (codes "1")) refl (λ n. refl)

pub returns-clause-unknown_value : goal.returns-clause-unknown_value
returns-clause-unknown_value c = rejected (a_holding unknown_value) no_library (a_of (codes "1")) refl (λ n. refl)
