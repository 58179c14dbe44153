use Rattle.std.proofs.Common.{◌∙◌, sym, ap}
use Rattle.std.specs.Prelude.{◌==◌}
use Rattle.std.specs.Str.{chars}
use Rattle.rn_text.specs.Segments.{begins_with, is_delimiter}
use Rattle.rn_xml.proofs.AttributeValues.{delimiter_inner, equals_read}
use Rattle.rn_xml.proofs.Refusals.RefusedAttributes.{no_equals, no_quote_behind}
use Rattle.rn_xml.proofs.Refusals.RefusedFronts.{if_err}
use Rattle.rn_xml.proofs.tags.split_opening.Goals as goal

pub returns-then-is_quote-clause-equals : goal.returns-then-is_quote-clause-equals
returns-then-is_quote-clause-equals c =
    let front = rw c.in_ok-equals.ensures.ok_part at c.after_char.ensures.cases in
    let first = rw c.in_ok-quote.ensures.ok_part at c.split_char.ensures.cases in
    equals_read (chars c.args.text.now) (chars c.after_space-spaced.result.now) (chars c.in_ok-equals.equals.now) (chars c.after_space-behind.result.now) (chars c.in_ok-quote.inside.now) c.in_ok-quote.quote c.after_space-spaced.ensures.space
    front c.after_space-behind.ensures.space first (delimiter_inner c.in_ok-quote.quote (sym c.is_quote.ensures ∙ c.if-is_quote.true))

pub returns-in_err-equals-clause-refused : goal.returns-in_err-equals-clause-refused
returns-in_err-equals-clause-refused c =
    let none = rw c.in_err-equals.ensures.ok_part at c.after_char.ensures.cases in
    if_err c.from_residual.result (no_equals (chars c.args.text.now) (ap (begins_with (λ d. d == 61)) (sym c.after_space-spaced.ensures.run) ∙ none))

pub returns-in_err-quote-clause-refused : goal.returns-in_err-quote-clause-refused
returns-in_err-quote-clause-refused c =
    let front = rw c.in_ok-equals.ensures.ok_part at c.after_char.ensures.cases in
    let none = rw c.in_err-quote.ensures.ok_part at c.split_char.ensures.cases in
    if_err c.from_residual-in_err-quote.result (no_quote_behind (chars c.args.text.now) (chars c.in_ok-equals.equals.now) (sym c.after_space-spaced.ensures.run ∙ front)
    (ap (begins_with is_delimiter) (sym c.after_space-behind.ensures.run ∙ none)))

pub returns-else-is_quote-clause-refused : goal.returns-else-is_quote-clause-refused
returns-else-is_quote-clause-refused c =
    let front = rw c.in_ok-equals.ensures.ok_part at c.after_char.ensures.cases in
    let first = rw c.in_ok-quote.ensures.ok_part at c.split_char.ensures.cases in
    no_quote_behind (chars c.args.text.now) (chars c.in_ok-equals.equals.now) (sym c.after_space-spaced.ensures.run ∙ front)
    (ap (begins_with is_delimiter) (sym c.after_space-behind.ensures.run ∙ first) ∙ sym c.is_quote.ensures ∙ c.if-is_quote.false)
