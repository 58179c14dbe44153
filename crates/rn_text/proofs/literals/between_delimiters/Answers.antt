use Rattle.std.proofs.Common.{sym}
use Rattle.std.specs.Str.{chars}
use Rattle.rn_text.proofs.Quoting.SegmentContents.{found_three, found_one}
use Rattle.rn_text.proofs.literals.between_delimiters.Goals as goal

pub returns-in-Some-clause-cases : goal.returns-in-Some-clause-cases
returns-in-Some-clause-cases c =
    found_three (λ r. chars r.now) c.in_ok-delimiter.delimiter (chars c.args.segment.now) (chars c.in-Some.opened.now) c.before_three.result (sym c.if-not-is_delimiter.ensures) c.in-Some.ensures.cases c.before_three.ensures.cases

pub returns-clause-cases : goal.returns-clause-cases
returns-clause-cases c =
    found_one (λ r. chars r.now) c.in_ok-delimiter.delimiter (chars c.args.segment.now) (chars c.in_ok-delimiter.opened.now) c.before_char.result c.in_ok-delimiter.ensures.cases c.in_default.ensures.cases c.before_char.ensures.cases
