use Rattle.std.proofs.Common.{ne_eqb, ap, ◌∙◌, ◌∷◌}
use Rattle.std.specs.Str.{chars}
use Rattle.rn_text.proofs.Quoting.SegmentContents.{escape_stands, plain_stands, pair_stands, return_stands}
use Rattle.rn_text.proofs.literals.split_text.Goals as goal

pub returns-in-Some-clause-cases : goal.returns-in-Some-clause-cases
returns-in-Some-clause-cases c =
    let h = c.in-Some.ensures.cases in escape_stands (chars c.args.rest.now) c.in-Some.escaped (chars c.in-Some.after.now) h.0 h.2 h.3

pub returns-then-first-ne13-clause-cases : goal.returns-then-first-ne13-clause-cases
returns-then-first-ne13-clause-cases c = plain_stands (chars c.args.rest.now) c.in_ok-first.first (chars c.in_ok-first.after.now) c.in_ok-first.ensures.cases c.in_default.ensures.cases (ne_eqb _ _ c.if-first-ne13.true)

pub returns-in-Some-after_char-clause-cases : goal.returns-in-Some-after_char-clause-cases
returns-in-Some-after_char-clause-cases c =
    pair_stands (chars c.args.rest.now) (chars c.in_ok-first.after.now) (chars c.in-Some-after_char.behind.now) (c.in_ok-first.ensures.cases ∙ ap (λ x. x ∷ chars c.in_ok-first.after.now) c.if-first-ne13.false) c.in-Some-after_char.ensures.cases

pub returns-clause-cases : goal.returns-clause-cases
returns-clause-cases c =
    return_stands (chars c.args.rest.now) (chars c.in_ok-first.after.now) (c.in_ok-first.ensures.cases ∙ ap (λ x. x ∷ chars c.in_ok-first.after.now) c.if-first-ne13.false) c.in_default-after_char.ensures.cases
