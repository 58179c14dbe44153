use Rattle.std.proofs.Common.{refl, [], ◌∷◌}
use Rattle.std.specs.Prelude.{codes}
use Rattle.rn_pattern.specs.Document.{string}
use Rattle.matching_examples.specs.Examples.{blank, no_break_space, no_library, a_then_b, doc_of, doc_a_b, doc_padded_by, doc_led_by, doc_ended_by, doc_with_x}
use Rattle.matching_examples.proofs.Trials.Tried.{accepted, rejected}
use Rattle.matching_examples.proofs.white_space_pads_elements.Goals as goal

pub returns-clause-none : goal.returns-clause-none
returns-clause-none c = accepted 0 a_then_b no_library doc_a_b refl refl

pub returns-clause-blank : goal.returns-clause-blank
returns-clause-blank c = accepted 0 a_then_b no_library (doc_padded_by blank) refl refl

pub returns-clause-letter : goal.returns-clause-letter
returns-clause-letter c = rejected a_then_b no_library (doc_padded_by (codes "x")) refl (λ n. refl)

pub returns-clause-no_break_space : goal.returns-clause-no_break_space
returns-clause-no_break_space c = rejected a_then_b no_library (doc_padded_by no_break_space) refl (λ n. refl)

pub returns-clause-no_elements : goal.returns-clause-no_elements
returns-clause-no_elements c = rejected a_then_b no_library (doc_of (string blank ∷ [])) refl (λ n. refl)

pub returns-clause-letter_before : goal.returns-clause-letter_before
returns-clause-letter_before c = rejected a_then_b no_library (doc_led_by (codes "x")) refl (λ n. refl)

pub returns-clause-letter_behind : goal.returns-clause-letter_behind
returns-clause-letter_behind c = rejected a_then_b no_library (doc_ended_by (codes "x")) refl (λ n. refl)

pub returns-clause-blank_before : goal.returns-clause-blank_before
returns-clause-blank_before c = accepted 0 a_then_b no_library (doc_led_by blank) refl refl

pub returns-clause-blank_behind : goal.returns-clause-blank_behind
returns-clause-blank_behind c = accepted 0 a_then_b no_library (doc_ended_by blank) refl refl

pub returns-clause-attribute : goal.returns-clause-attribute
returns-clause-attribute c = rejected a_then_b no_library doc_with_x refl (λ n. refl)
