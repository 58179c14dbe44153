use Rattle.std.proofs.Common.{◌≡◌, ◌+◌, ◌*◌, ◌<◌, ◌∙◌, ◌∷◌, true, sym, ap, subst, arith, rules}
use Rattle.std.specs.Prelude.{min}
use Rattle.std.specs.Char.{digit_value}
use Rattle.std.specs.Str.{chars}
use Rattle.rn_text.specs.Characters.{is_xml_char}
use Rattle.rn_xml.proofs.Numbers.{HasDigits, most, next_digit, whole_number}
use Rattle.rn_xml.proofs.Refusals.RefusedFronts.{if_err}
use Rattle.rn_xml.proofs.Refusals.RefusedReferences.{no_end, no_digit, no_character, none_read}
use Rattle.rn_xml.proofs.references.split_number.Goals as goal
use Rattle.rn_xml.proofs.references.split_number.Goals.{else-c-eq59-via-then-c-eq59+else-rest-text, else-c-eq59-via-else-c-eq59}

pub loop-c-preserved : goal.loop-c-preserved
loop-c-preserved c =
    let some : 0 < c.args.radix = omega arith in
    let next = next_digit c.args.radix (chars c.args.text.now) (chars c.loop-c.rest.now) (chars c.in-Some.after.now) c.loop-c.number c.in-Some.c some c.loop-c.invariant.2 c.in-Some.ensures.cases c.in-Some-to_digit.ensures.value.0 in
    let is : c.saturating_add-number.result ≡ min (min (c.loop-c.number * c.args.radix) most + digit_value c.in-Some.c) most =
    c.saturating_add-number.ensures ∙ ap (λ m. min (m + c.in-Some-to_digit.digit) most) c.saturating_mul.ensures
    ∙ ap (λ d. min (min (c.loop-c.number * c.args.radix) most + d) most) c.in-Some-to_digit.ensures.value.1 in
    (c.in-Some.ensures.utf8, omega (arith, c.in-Some.ensures.shorter), subst (λ n. HasDigits c.args.radix (chars c.args.text.now) n (chars c.in-Some.after.now)) (sym is) next)

pub returns-then-rest-text-clause-number : goal.returns-then-rest-text-clause-number
returns-then-rest-text-clause-number c =
    let found : (c.in_ok-c.c ≡ c.loop-c.number) × (is_xml_char c.in_ok-c.c ≡ true) = search rules in
    whole_number c.args.radix c.loop-c.number c.in_ok-c.c c.args.text.now c.loop-c.rest.now c.in-Some.after.now c.utf8.text c.loop-c.invariant.0 c.loop-c.invariant.2
    (c.in-Some.ensures.cases ∙ ap (λ d. d ∷ chars c.in-Some.after.now) c.if-c-eq59.true) c.if-rest-text.true found.0 found.1

pub returns-in_err-c-clause-refused : goal.returns-in_err-c-clause-refused
returns-in_err-c-clause-refused c =
    let none = rw c.in_err-c.ensures.ok_part at c.char_of.ensures in
    if_err c.from_residual.result (no_character c.args.radix c.loop-c.number (chars c.args.text.now) (chars c.loop-c.rest.now) (chars c.in-Some.after.now) c.requires.digits c.loop-c.invariant.2
    (c.in-Some.ensures.cases ∙ ap (λ d. d ∷ chars c.in-Some.after.now) c.if-c-eq59.true) none)

pub returns-in_default-to_digit-clause-refused : goal.returns-in_default-to_digit-clause-refused
returns-in_default-to_digit-clause-refused c = no_digit c.args.radix c.loop-c.number c.in-Some.c (chars c.args.text.now) (chars c.loop-c.rest.now) (chars c.in-Some.after.now) c.requires.digits c.loop-c.invariant.2 c.in-Some.ensures.cases
    c.in_default-to_digit.ensures.value (λ semicolon. elim c.else-c-eq59.branch [
      | else-c-eq59-via-then-c-eq59+else-rest-text w ↦ none_read c.args.radix c.loop-c.number c.args.text.now c.loop-c.rest.now c.utf8.text c.loop-c.invariant.0 c.loop-c.invariant.2 w.if-rest-text.false
      | else-c-eq59-via-else-c-eq59 w ↦ absurd (w.if-c-eq59.false semicolon)
    ])

pub returns-clause-refused : goal.returns-clause-refused
returns-clause-refused c = no_end c.args.radix c.loop-c.number (chars c.args.text.now) (chars c.loop-c.rest.now) c.requires.digits c.loop-c.invariant.2 c.in_default.ensures.cases
