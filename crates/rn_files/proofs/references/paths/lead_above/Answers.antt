use Rattle.std.proofs.Common.{arith}
use Rattle.std.proofs.lemmas.List.{length-map}
use Rattle.rn_files.proofs.WalkedSegments.{above_at, led_more, never_above, texts, within_more}
use Rattle.rn_files.proofs.references.paths.lead_above.Goals as goal

pub loop-segment-preserved : goal.loop-segment-preserved
loop-segment-preserved c =
    let i = c.loop-segment.segment-index in
    let segments = c.args.segments.now in
    let folder = c.loop-segment.folder.items in (
      led_more segments folder c.enter.new.folder.items i _ c.loop-segment-test.true c.loop-segment.invariant.0 c.in_ok-enter.ensures,
      within_more segments folder c.as_slice.result.now i _ c.finds_none.result c.loop-segment-test.true c.as_slice.ensures.value
          c.loop-segment.invariant.0 c.finds_none.ensures c.if-finds_none.false c.loop-segment.invariant.1,
    )

pub returns-then-finds_none : goal.returns-then-finds_none
returns-then-finds_none c =
    above_at c.args.segments.now c.loop-segment.folder.items c.as_slice.result.now c.loop-segment.segment-index _ c.finds_none.result
    c.loop-segment-test.true c.as_slice.ensures.value c.loop-segment.invariant.0 c.finds_none.ensures c.if-finds_none.true

pub returns : goal.returns
returns c =
    let segments = c.args.segments.now in
    let count = length-map segments (λ s. s.now) in
    never_above (texts segments) (λ k h. c.loop-segment.invariant.1 k (omega (arith, h, count, c.loop-segment-test.false)))
