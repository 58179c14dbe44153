use Rattle.std.proofs.Common.{refl}
use Rattle.std.specs.Prelude.{codes}
use Rattle.matching_examples.specs.Examples.{leaf, no_library, through_two, nested, doc_doc_a_a, doc_doc_b}
use Rattle.matching_examples.proofs.Trials.Tried.{accepted, rejected, from_two, from_three}
use Rattle.matching_examples.proofs.references_stand_for_definitions.Goals as goal

pub returns-clause-through_one : goal.returns-clause-through_one
returns-clause-through_one c = accepted 2 through_two no_library (leaf (codes "b")) refl refl

pub returns-clause-through_two : goal.returns-clause-through_two
returns-clause-through_two c = accepted 2 through_two no_library (leaf (codes "a")) refl refl

pub returns-clause-through_none : goal.returns-clause-through_none
returns-clause-through_none c = rejected through_two no_library (leaf (codes "c")) refl (from_two _ refl refl (λ n. refl))

pub returns-clause-nested_empty : goal.returns-clause-nested_empty
returns-clause-nested_empty c = accepted 4 nested no_library (leaf (codes "doc")) refl refl

pub returns-clause-nested : goal.returns-clause-nested
returns-clause-nested c = accepted 4 nested no_library doc_doc_a_a refl refl

pub returns-clause-nested_other : goal.returns-clause-nested_other
returns-clause-nested_other c = rejected nested no_library doc_doc_b refl (from_three _ refl refl refl (λ n. refl))
