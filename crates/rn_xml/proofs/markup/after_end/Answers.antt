use Rattle.std.proofs.Common.{arith, ap, sym}
use Rattle.rn_xml.specs.XmlCharacters.{lines_of}
use Rattle.std.specs.Str.{chars}
use Rattle.rn_xml.specs.inside.Rests.{source}
use Rattle.rn_xml.proofs.UpToEnds.{reaches_more, reaches_end}
use Rattle.rn_xml.proofs.Refusals.RefusedMarkup.{end_more, no_end_illegal, no_end_left}
use Rattle.rn_xml.proofs.markup.after_end.Goals as goal

pub loop-c-preserved : goal.loop-c-preserved
loop-c-preserved c = (
  c.in-Some.ensures.utf8,
  omega (arith, c.in-Some.ensures.shorter),
  reaches_more c.args.end.now (source c.args.text.now) c.in-Some.c (chars c.loop-c.rest.now) (chars c.in-Some.after.now) c.requires.inner c.loop-c.invariant.2 c.in-Some.ensures.cases (sym c.if-not-is_xml_char.ensures)
      c.in_default-after_front.ensures.cases,
  end_more c.args.end.now (source c.args.text.now) (chars c.loop-c.rest.now) c.in-Some.c (chars c.in-Some.after.now) c.requires.inner c.loop-c.invariant.3 c.in-Some.ensures.cases c.in_default-after_front.ensures.cases,
)

pub returns-in-Some-after_front-clause-inside : goal.returns-in-Some-after_front-clause-inside
returns-in-Some-after_front-clause-inside c =
    reaches_end c.args.end.now (source c.args.text.now) (chars c.loop-c.rest.now) (chars c.in-Some-after_front.behind.now) c.requires.inner c.loop-c.invariant.2 c.in-Some-after_front.ensures.cases

pub returns-then-not-is_xml_char-clause-refused : goal.returns-then-not-is_xml_char-clause-refused
returns-then-not-is_xml_char-clause-refused c = λ inside rest is.
    let left = c.loop-c.invariant.3 inside rest is in
    no_end_illegal c.args.end.now (chars c.loop-c.rest.now) c.in-Some.c (chars c.in-Some.after.now) c.requires.inner c.in-Some.ensures.cases c.in_default-after_front.ensures.cases (sym c.if-not-is_xml_char.ensures) left.0 rest left.1

pub returns-clause-refused : goal.returns-clause-refused
returns-clause-refused c = λ inside rest is.
    let left = c.loop-c.invariant.3 inside rest is in no_end_left c.args.end.now (source c.loop-c.rest.now) c.requires.end (ap lines_of c.in_default.ensures.cases) left.0 rest left.1
