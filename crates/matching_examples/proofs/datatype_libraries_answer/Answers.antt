use Rattle.std.proofs.Common.{refl}
use Rattle.std.specs.Prelude.{codes}
use Rattle.matching_examples.specs.Examples.{no_library, a_of, a_holding, one, any_int, positive, numbers, spellings}
use Rattle.matching_examples.proofs.Trials.Tried.{accepted, rejected}
use Rattle.matching_examples.proofs.datatype_libraries_answer.Goals as goal

pub returns-clause-value_itself : goal.returns-clause-value_itself
returns-clause-value_itself c = accepted 0 (a_holding one) numbers (a_of (codes "1")) refl refl

pub returns-clause-value_equal : goal.returns-clause-value_equal
returns-clause-value_equal c = accepted 0 (a_holding one) numbers (a_of (codes "01")) refl refl

pub returns-clause-value_itself_apart : goal.returns-clause-value_itself_apart
returns-clause-value_itself_apart c = accepted 0 (a_holding one) spellings (a_of (codes "1")) refl refl

pub returns-clause-value_apart : goal.returns-clause-value_apart
returns-clause-value_apart c = rejected (a_holding one) spellings (a_of (codes "01")) refl (λ n. refl)

pub returns-clause-value_other : goal.returns-clause-value_other
returns-clause-value_other c = rejected (a_holding one) numbers (a_of (codes "0")) refl (λ n. refl)

pub returns-clause-value_padded : goal.returns-clause-value_padded
returns-clause-value_padded c = rejected (a_holding one) numbers (a_of (codes " 1")) refl (λ n. refl)

pub returns-clause-value_unknown : goal.returns-clause-value_unknown
returns-clause-value_unknown c = rejected (a_holding one) no_library (a_of (codes "1")) refl (λ n. refl)

pub returns-clause-data_allowed : goal.returns-clause-data_allowed
returns-clause-data_allowed c = accepted 0 (a_holding any_int) numbers (a_of (codes "0")) refl refl

pub returns-clause-data_refused : goal.returns-clause-data_refused
returns-clause-data_refused c = rejected (a_holding any_int) numbers (a_of (codes "x")) refl (λ n. refl)

pub returns-clause-data_allowed_with_parameter : goal.returns-clause-data_allowed_with_parameter
returns-clause-data_allowed_with_parameter c = accepted 0 (a_holding positive) numbers (a_of (codes "1")) refl refl

pub returns-clause-data_refused_by_parameter : goal.returns-clause-data_refused_by_parameter
returns-clause-data_refused_by_parameter c = rejected (a_holding positive) numbers (a_of (codes "0")) refl (λ n. refl)
