use Rattle.std.proofs.Common.{refl}
use Rattle.std.specs.Prelude.{codes}
use Rattle.matching_examples.specs.Examples.{leaf, no_library, doc_a_b, doc_a, doc_a_a, some_a, any_a}
use Rattle.matching_examples.proofs.Trials.Tried.{accepted, rejected}
use Rattle.matching_examples.proofs.repetitions.Goals as goal

pub returns-clause-some_once : goal.returns-clause-some_once
returns-clause-some_once c = accepted 0 some_a no_library doc_a refl refl

pub returns-clause-some_twice : goal.returns-clause-some_twice
returns-clause-some_twice c = accepted 0 some_a no_library doc_a_a refl refl

pub returns-clause-some_never : goal.returns-clause-some_never
returns-clause-some_never c = rejected some_a no_library (leaf (codes "doc")) refl (λ n. refl)

pub returns-clause-any_never : goal.returns-clause-any_never
returns-clause-any_never c = accepted 0 any_a no_library (leaf (codes "doc")) refl refl

pub returns-clause-any_twice : goal.returns-clause-any_twice
returns-clause-any_twice c = accepted 0 any_a no_library doc_a_a refl refl

pub returns-clause-any_other : goal.returns-clause-any_other
returns-clause-any_other c = rejected any_a no_library doc_a_b refl (λ n. refl)
