use Rattle.std.proofs.Common.{◌∷◌, [], sym, subst, rules, ne_eqb}
use Rattle.std.specs.Str.{chars}
use Rattle.rn_text.specs.Parts.{IsFirstPart}
use Rattle.rn_text.proofs.Cutting.FirstParts.{none_in_nothing, white_first, comment_first, symbol_first, symbol_none, class_other, first_at, none_at}
use Rattle.rn_text.proofs.parts.split_part.Goals as goal

pub returns-in_err-first-clause-cases : goal.returns-in_err-first-clause-cases
returns-in_err-first-clause-cases c = let h = none_at (chars c.args.text.now) [] c.in_err-first.ensures.cases none_in_nothing in search (rules, h)

pub returns-then-is_white-clause-cases : goal.returns-then-is_white-clause-cases
returns-then-is_white-clause-cases c =
    (c.in_ok-first.first ∷ [], first_at _ _ _ _ _ c.in_ok-first.ensures.cases (white_first c.in_ok-first.first (chars c.in_ok-first.rest.now) (sym c.if-is_white.ensures)))

pub returns-then-first-eq35-clause-cases : goal.returns-then-first-eq35-clause-cases
returns-then-first-eq35-clause-cases c =
    (_, subst (IsFirstPart (chars c.args.text.now) _ _) (sym c.after_line.ensures) (first_at _ _ _ _ _ c.in_ok-first.ensures.cases (comment_first c.in_ok-first.first (chars c.in_ok-first.rest.now) c.if-first-eq35.true)))

pub returns-clause-cases : goal.returns-clause-cases
returns-clause-cases c =
    let first = c.in_ok-first.first in
    let symbol = c.in_ok-after_symbol.ensures.cases in (
      first ∷ symbol.0,
      first_at _ _ _ _ _ c.in_ok-first.ensures.cases
          (symbol_first first (chars c.in_ok-first.rest.now) symbol.0 (chars c.in_ok-after_symbol.field-0.now)
          (sym c.if-is_delimiter.ensures) (ne_eqb first 92 c.if-first-eq92.false) symbol.1),
    )

pub returns-in_err-after_symbol-clause-cases : goal.returns-in_err-after_symbol-clause-cases
returns-in_err-after_symbol-clause-cases c =
    let first = c.in_ok-first.first in
    let h = none_at (chars c.args.text.now) (first ∷ chars c.in_ok-first.rest.now) c.in_ok-first.ensures.cases
    (symbol_none first (chars c.in_ok-first.rest.now)
    (class_other first (sym c.if-is_white.ensures) (ne_eqb first 35 c.if-first-eq35.false) (sym c.if-is_delimiter.ensures)
    (ne_eqb first 92 c.if-first-eq92.false) (sym c.if-is_name_start.ensures))
    c.in_err-after_symbol.ensures.cases) in
    search (rules, h)

pub returns-then-is_name_start-clause-cases : goal.returns-then-is_name_start-clause-cases
returns-then-is_name_start-clause-cases c = c.split_named-kind.ensures.cases

pub returns-then-is_delimiter-clause-cases : goal.returns-then-is_delimiter-clause-cases
returns-then-is_delimiter-clause-cases c = c.in_ok-after_segment.ensures.cases

pub returns-in_err-after_segment-clause-cases : goal.returns-in_err-after_segment-clause-cases
returns-in_err-after_segment-clause-cases c = let h = c.in_err-after_segment.ensures.cases in search (rules, h)

pub returns-then-first-eq92-clause-cases : goal.returns-then-first-eq92-clause-cases
returns-then-first-eq92-clause-cases c = c.in_ok-after_quoted.ensures.cases

pub returns-in_err-after_quoted-clause-cases : goal.returns-in_err-after_quoted-clause-cases
returns-in_err-after_quoted-clause-cases c = let h = c.in_err-after_quoted.ensures.cases in search (rules, h)
