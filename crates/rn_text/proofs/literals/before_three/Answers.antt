use Rattle.std.proofs.Common.{rules}
use Rattle.std.specs.Str.{chars}
use Rattle.rn_text.proofs.Quoting.SegmentContents.{three_none, three_none_behind, last_three}
use Rattle.rn_text.proofs.literals.before_three.Goals as goal

pub returns-in_err-before_char-clause-cases : goal.returns-in_err-before_char-clause-cases
returns-in_err-before_char-clause-cases c = let h = three_none (chars c.args.text.now) c.args.c c.in_err-before_char.ensures.cases in search (rules, h)

pub returns-in_err-before_char-2-clause-cases : goal.returns-in_err-before_char-2-clause-cases
returns-in_err-before_char-2-clause-cases c =
    let h = three_none_behind (chars c.args.text.now) (chars c.in_ok-before_char.field-0.now) c.args.c c.in_ok-before_char.ensures.cases c.in_err-before_char-2.ensures.cases in search (rules, h)

pub returns-clause-cases : goal.returns-clause-cases
returns-clause-cases c =
    last_three (λ r. chars r.now) (chars c.args.text.now) (chars c.in_ok-before_char.field-0.now) (chars c.in_ok-before_char-2.field-0.now) c.args.c c.before_char-3.result
    c.in_ok-before_char.ensures.cases c.in_ok-before_char-2.ensures.cases c.before_char-3.ensures.cases
