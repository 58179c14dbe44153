use Rattle.std.proofs.Common.{refl}
use Rattle.std.specs.Prelude.{codes}
use Rattle.rn_pattern.specs.Tree.{any_name}
use Rattle.matching_examples.specs.Examples.{leaf, no_library, named_by, of_u, of_u_but_a, all_but_a, a_or_of_u, a_in_u, b_in_u, b_in_v}
use Rattle.matching_examples.proofs.Trials.Tried.{accepted, rejected}
use Rattle.matching_examples.proofs.name_classes_hold_names.Goals as goal

pub returns-clause-any_name : goal.returns-clause-any_name
returns-clause-any_name c = accepted 0 (named_by any_name) no_library b_in_u refl refl

pub returns-clause-but_a_other : goal.returns-clause-but_a_other
returns-clause-but_a_other c = accepted 0 (named_by all_but_a) no_library (leaf (codes "b")) refl refl

pub returns-clause-but_a_elsewhere : goal.returns-clause-but_a_elsewhere
returns-clause-but_a_elsewhere c = accepted 0 (named_by all_but_a) no_library a_in_u refl refl

pub returns-clause-but_a_itself : goal.returns-clause-but_a_itself
returns-clause-but_a_itself c = rejected (named_by all_but_a) no_library (leaf (codes "a")) refl (λ n. refl)

pub returns-clause-of_u : goal.returns-clause-of_u
returns-clause-of_u c = accepted 0 (named_by of_u) no_library b_in_u refl refl

pub returns-clause-of_u_in_none : goal.returns-clause-of_u_in_none
returns-clause-of_u_in_none c = rejected (named_by of_u) no_library (leaf (codes "b")) refl (λ n. refl)

pub returns-clause-of_u_in_other : goal.returns-clause-of_u_in_other
returns-clause-of_u_in_other c = rejected (named_by of_u) no_library b_in_v refl (λ n. refl)

pub returns-clause-of_u_but_a_other : goal.returns-clause-of_u_but_a_other
returns-clause-of_u_but_a_other c = accepted 0 (named_by of_u_but_a) no_library b_in_u refl refl

pub returns-clause-of_u_but_a_itself : goal.returns-clause-of_u_but_a_itself
returns-clause-of_u_but_a_itself c = rejected (named_by of_u_but_a) no_library a_in_u refl (λ n. refl)

pub returns-clause-of_u_but_a_elsewhere : goal.returns-clause-of_u_but_a_elsewhere
returns-clause-of_u_but_a_elsewhere c = rejected (named_by of_u_but_a) no_library b_in_v refl (λ n. refl)

pub returns-clause-choice_first : goal.returns-clause-choice_first
returns-clause-choice_first c = accepted 0 (named_by a_or_of_u) no_library (leaf (codes "a")) refl refl

pub returns-clause-choice_second : goal.returns-clause-choice_second
returns-clause-choice_second c = accepted 0 (named_by a_or_of_u) no_library b_in_u refl refl

pub returns-clause-choice_none : goal.returns-clause-choice_none
returns-clause-choice_none c = rejected (named_by a_or_of_u) no_library (leaf (codes "b")) refl (λ n. refl)
