use Rattle.std.proofs.Common.{◌∷◌, sym, ap, ◌∙◌, rules}
use Rattle.std.specs.Str.{chars}
use Rattle.rn_text.specs.Segments.{begins_with}
use Rattle.rn_text.specs.Characters.{is_name_start}
use Rattle.rn_text.proofs.Cutting.FirstParts.{none_at}
use Rattle.rn_text.proofs.Cutting.NameTokens.{no_escape_front, quoted_none, quoted_at}
use Rattle.rn_text.proofs.parts.after_quoted.Goals as goal

pub returns-clause-cases : goal.returns-clause-cases
returns-clause-cases c =
    quoted_at (chars c.args.text.now) (chars c.in_ok-after_char.field-0.now) (chars c.in_ok-first.rest.now) (chars c.after_name_chars.result.now) c.in_ok-first.first
    c.in_ok-after_char.ensures.cases c.in_ok-first.ensures.cases (sym c.if-not-is_name_start.ensures) (no_escape_front c.after_escape_front.result (chars c.args.text.now) _ c.after_escape_front.ensures.cases (sym c.is_some.ensures ∙ c.if-is_some.false)) c.after_name_chars.ensures

pub returns-in_err-first-clause-cases : goal.returns-in_err-first-clause-cases
returns-in_err-first-clause-cases c =
    let cs = chars c.in_ok-after_char.field-0.now in
    let h = none_at (chars c.args.text.now) (92 ∷ cs) c.in_ok-after_char.ensures.cases (quoted_none cs (ap (begins_with is_name_start) c.in_err-first.ensures.cases)) in
    search (rules, h)

pub returns-then-not-is_name_start-clause-cases : goal.returns-then-not-is_name_start-clause-cases
returns-then-not-is_name_start-clause-cases c =
    let cs = chars c.in_ok-after_char.field-0.now in
    none_at (chars c.args.text.now) (92 ∷ cs) c.in_ok-after_char.ensures.cases (quoted_none cs (ap (begins_with is_name_start) c.in_ok-first.ensures.cases ∙ sym c.if-not-is_name_start.ensures))
