-- The text that was seen is that of the token there.
use Rattle.std.proofs.Common.{◌≡◌, ap, ◌∙◌, sym, subst, true}
use Rattle.std.specs.Str.{chars, encode_utf8_all}
use Rattle.std.proofs.lemmas.Option.{slice_get-get_or, get_or_from_slice_get}
use Rattle.rn_text.specs.Segments.{is_segment, segment_text}
use Rattle.rn_syntax.specs.Lent.{is_written}
use Rattle.rn_syntax.proofs.ProductionsRead.Segmented.{segment_took, no_segment}
use Rattle.rn_syntax.proofs.productions.literals.segment.Goals as goal

pub returns-in_ok-segment_text-in-Segment-clause-reads : goal.returns-in_ok-segment_text-in-Segment-clause-reads
returns-in_ok-segment_text-in-Segment-clause-reads c = λ s.
    segment_took
    (c.in_ok-segment_text-in-Segment.ensures.text (subst (λ t. is_segment (chars t.now) ≡ true) (c.in-Segment.ensures.same _ (slice_get-get_or c.args.tokens.now c.args.at _ c.in-Segment.ensures.inside)) (c.in-Segment.ensures.whole s))
    ∙ ap (λ t. encode_utf8_all (segment_text (chars t.now))) (sym (c.in-Segment.ensures.same _ (slice_get-get_or c.args.tokens.now c.args.at _ c.in-Segment.ensures.inside))))
    c.in-Segment.ensures.next.1

pub returns-in_ok-segment_text-in-Segment-clause-borrows : goal.returns-in_ok-segment_text-in-Segment-clause-borrows
returns-in_ok-segment_text-in-Segment-clause-borrows c = λ s x e.
    c.in_ok-segment_text-in-Segment.ensures.borrows (subst (λ t. is_segment (chars t.now) ≡ true) (c.in-Segment.ensures.same _ (slice_get-get_or c.args.tokens.now c.args.at _ c.in-Segment.ensures.inside)) (c.in-Segment.ensures.whole s))
    ∙ ap is_written (get_or_from_slice_get c.args.tokens.now c.args.at x _ e)

pub returns-in_default-clause-reads : goal.returns-in_default-clause-reads
returns-in_default-clause-reads c = λ s. no_segment _ _ c.next.result c.next.ensures.next c.in_default.not-Segment
