use Rattle.std.specs.Str.{chars}
use Rattle.rn_text.proofs.Cutting.DelimitedFronts.{delimited_three, delimited_one}
use Rattle.rn_text.proofs.segments.after_delimiters.Goals as goal

pub returns-in-Some-clause-cases : goal.returns-in-Some-clause-cases
returns-in-Some-clause-cases c = delimited_three (λ r. chars r.now) c.args.delimiter (chars c.args.text.now) (chars c.in-Some.opened.now) c.after_next_three.result c.requires.0 c.in-Some.ensures.cases c.after_next_three.ensures.cases

pub returns-clause-cases : goal.returns-clause-cases
returns-clause-cases c = delimited_one (λ r. chars r.now) c.args.delimiter (chars c.args.text.now) (chars c.in_ok-after_char.field-0.now) c.after_next_one.result c.requires.0 c.in_ok-after_char.ensures.cases c.in_default.ensures.cases c.after_next_one.ensures.cases
