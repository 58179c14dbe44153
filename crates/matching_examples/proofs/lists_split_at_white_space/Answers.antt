use Rattle.std.proofs.Common.{refl}
use Rattle.std.specs.Prelude.{codes}
use Rattle.rn_pattern.specs.Tree.{empty, list}
use Rattle.matching_examples.specs.Examples.{leaf, padded_x_y, no_library, a_of, a_with_x_of, a_holding, x_then_y, some_x}
use Rattle.matching_examples.proofs.Trials.Tried.{accepted, rejected}
use Rattle.matching_examples.proofs.lists_split_at_white_space.Goals as goal

pub returns-clause-two : goal.returns-clause-two
returns-clause-two c = accepted 0 (a_holding x_then_y) no_library (a_of (codes "x y")) refl refl

pub returns-clause-padded : goal.returns-clause-padded
returns-clause-padded c = accepted 0 (a_holding x_then_y) no_library (a_of padded_x_y) refl refl

pub returns-clause-run_together : goal.returns-clause-run_together
returns-clause-run_together c = rejected (a_holding x_then_y) no_library (a_of (codes "xy")) refl (λ n. refl)

pub returns-clause-one : goal.returns-clause-one
returns-clause-one c = rejected (a_holding x_then_y) no_library (a_of (codes "x")) refl (λ n. refl)

pub returns-clause-turned : goal.returns-clause-turned
returns-clause-turned c = rejected (a_holding x_then_y) no_library (a_of (codes "y x")) refl (λ n. refl)

pub returns-clause-three_of_some : goal.returns-clause-three_of_some
returns-clause-three_of_some c = accepted 0 (a_holding some_x) no_library (a_of (codes "x x x")) refl refl

pub returns-clause-other_of_some : goal.returns-clause-other_of_some
returns-clause-other_of_some c = rejected (a_holding some_x) no_library (a_of (codes "x y x")) refl (λ n. refl)

pub returns-clause-none_of_some : goal.returns-clause-none_of_some
returns-clause-none_of_some c = rejected (a_holding some_x) no_library (leaf (codes "a")) refl (λ n. refl)

pub returns-clause-none_of_none : goal.returns-clause-none_of_none
returns-clause-none_of_none c = accepted 0 (a_holding (list empty)) no_library (leaf (codes "a")) refl refl

pub returns-clause-attribute : goal.returns-clause-attribute
returns-clause-attribute c = rejected (a_holding some_x) no_library (a_with_x_of (codes "x")) refl (λ n. refl)
