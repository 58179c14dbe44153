use Rattle.std.proofs.Common.{ap, sym, ◌∙◌, rules}
use Rattle.std.specs.Str.{chars}
use Rattle.rn_text.specs.Segments.{escapes_hold}
use Rattle.rn_text.proofs.Words.CharacterRuns.{cut_before, front_chars}
use Rattle.rn_text.proofs.Cutting.DelimitedFronts.{never_segment, segment_first, no_segment}
use Rattle.rn_text.proofs.parts.after_segment.Goals as goal

pub overflow_sub-text : goal.overflow_sub-text
overflow_sub-text c = (cut_before c.args.text.now c.in_ok-rest.rest.now c.in_ok-rest.ensures.cases.0 c.utf8.text c.in_ok-rest.ensures.utf8 (sym c.in_ok-rest.ensures.cases.1.split)).0

pub range-segment-requires-clause-end_boundary : goal.range-segment-requires-clause-end_boundary
range-segment-requires-clause-end_boundary c = (cut_before c.args.text.now c.in_ok-rest.rest.now c.in_ok-rest.ensures.cases.0 c.utf8.text c.in_ok-rest.ensures.utf8 (sym c.in_ok-rest.ensures.cases.1.split)).1

pub returns-in_err-rest-clause-cases : goal.returns-in_err-rest-clause-cases
returns-in_err-rest-clause-cases c =
    let h = never_segment (chars c.args.text.now) c.args.delimiter c.requires.1.0 c.requires.1.1 c.requires.0 c.in_err-rest.ensures.cases in
    search (rules, h)

pub returns-then-not-escapes_hold-clause-cases : goal.returns-then-not-escapes_hold-clause-cases
returns-then-not-escapes_hold-clause-cases c =
    let front = c.in_ok-rest.ensures.cases.0 in
    let word = front_chars c.args.text.now c.in_ok-rest.rest.now c.range-segment.result.now front c.utf8.text c.in_ok-rest.ensures.utf8 c.range-segment.utf8 (sym c.in_ok-rest.ensures.cases.1.split) c.range-segment.ensures.value in
    no_segment (chars c.args.text.now) c.args.delimiter c.requires.1.0 front (chars c.in_ok-rest.rest.now) c.requires.1.1 c.requires.0 c.in_ok-rest.ensures.cases.1
    (ap (escapes_hold c.args.delimiter) (sym word) ∙ sym c.if-not-escapes_hold.ensures)

pub returns-clause-cases : goal.returns-clause-cases
returns-clause-cases c =
    let front = c.in_ok-rest.ensures.cases.0 in
    let word = front_chars c.args.text.now c.in_ok-rest.rest.now c.range-segment.result.now front c.utf8.text c.in_ok-rest.ensures.utf8 c.range-segment.utf8 (sym c.in_ok-rest.ensures.cases.1.split) c.range-segment.ensures.value in (
      front,
      segment_first (chars c.args.text.now) c.args.delimiter c.requires.1.0 front (chars c.in_ok-rest.rest.now) c.requires.1.1 c.requires.0 c.in_ok-rest.ensures.cases.1
          (ap (escapes_hold c.args.delimiter) (sym word) ∙ sym c.if-not-escapes_hold.ensures),
    )
