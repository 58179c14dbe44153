use Rattle.std.proofs.Common.{arith, ap, refl, sym, lit<}
use Rattle.std.specs.Prelude.{codes, string_bytes}
use Rattle.std.specs.Str.{chars}
use Rattle.rn_xml.specs.inside.Rests.{source}
use Rattle.rn_xml.proofs.MarkupPieces.{section_read}
use Rattle.rn_xml.proofs.UpToEnds.{puts_none, puts_more, puts_end}
use Rattle.rn_xml.specs.XmlCharacters.{lines_of}
use Rattle.rn_xml.proofs.Refusals.RefusedMarkup.{end_itself, end_more, no_end_illegal, no_end_left, no_section, section_broken}
use Rattle.rn_xml.proofs.markup.read_section.Goals as goal

pub loop-c-init : goal.loop-c-init
loop-c-init c = (c.in-Some.ensures.utf8, omega (arith, c.in-Some.ensures.shorter), puts_none (codes "]]>") (string_bytes c.args.out.now) (source c.in-Some.inside.now), end_itself (codes "]]>") (source c.in-Some.inside.now))

pub loop-c-preserved : goal.loop-c-preserved
loop-c-preserved c = (
  c.in-Some-split_char.ensures.utf8,
  omega (arith, c.in-Some-split_char.ensures.shorter),
  puts_more (codes "]]>") (string_bytes c.args.out.now) (string_bytes c.loop-c.out) (string_bytes c.push_normal.new.out) (source c.in-Some.inside.now) c.in-Some-split_char.c (chars c.loop-c.rest.now)
      (chars c.in-Some-split_char.after.now) refl c.loop-c.invariant.2 c.in-Some-split_char.ensures.cases (sym c.if-not-is_xml_char.ensures) c.in_default-after_front.ensures.cases c.in_ok-push_normal.ensures,
  end_more (codes "]]>") (source c.in-Some.inside.now) (chars c.loop-c.rest.now) c.in-Some-split_char.c (chars c.in-Some-split_char.after.now) refl c.loop-c.invariant.3 c.in-Some-split_char.ensures.cases
      c.in_default-after_front.ensures.cases,
)

pub returns-in-Some-after_front-clause-section : goal.returns-in-Some-after_front-clause-section
returns-in-Some-after_front-clause-section c =
    section_read (string_bytes c.args.out.now) (string_bytes c.loop-c.out) (chars c.args.text.now) (chars c.in-Some.inside.now) (chars c.in-Some-after_front.behind.now) c.in-Some.ensures.cases
    (puts_end (codes "]]>") (string_bytes c.args.out.now) (string_bytes c.loop-c.out) (source c.in-Some.inside.now) (chars c.loop-c.rest.now) (chars c.in-Some-after_front.behind.now) refl c.loop-c.invariant.2
    c.in-Some-after_front.ensures.cases)

pub returns-in_default-clause-none : goal.returns-in_default-clause-none
returns-in_default-clause-none c = λ none. no_section (chars c.args.text.now) c.in_default.ensures.cases

pub returns-then-not-is_xml_char-clause-refused : goal.returns-then-not-is_xml_char-clause-refused
returns-then-not-is_xml_char-clause-refused c = λ own. section_broken (chars c.args.text.now) (chars c.in-Some.inside.now) c.in-Some.ensures.cases (λ inside rest is.
    let left = c.loop-c.invariant.3 inside rest is in
    no_end_illegal (codes "]]>") (chars c.loop-c.rest.now) c.in-Some-split_char.c (chars c.in-Some-split_char.after.now) refl c.in-Some-split_char.ensures.cases c.in_default-after_front.ensures.cases
    (sym c.if-not-is_xml_char.ensures) left.0 rest left.1)

pub returns-clause-refused : goal.returns-clause-refused
returns-clause-refused c = λ own. section_broken (chars c.args.text.now) (chars c.in-Some.inside.now) c.in-Some.ensures.cases (λ inside rest is.
    let left = c.loop-c.invariant.3 inside rest is in
    no_end_left (codes "]]>") (source c.loop-c.rest.now) (lit< tt) (ap lines_of c.in_default-split_char.ensures.cases) left.0 rest left.1)
