-- The marks of one piece more.
use Rattle.std.proofs.Common.{◌≡◌, ◌+◌, true, false, length, take, get_or, sym, ap, ◌∙◌, subst, arith}
use Rattle.std.specs.Prelude.{◌↔◌, ◌⊎◌}
use Rattle.std.proofs.lemmas.List.{take_at}
use Rattle.rn_assemble.specs.inside.Referred.{AreLiveMarks}
use Rattle.rn_assemble.proofs.Referring.SetMarks.{IsHere, live_more}
use Rattle.rn_assemble.proofs.by_key.references.live_marks.Goals as goal

pub loop-piece-preserved : goal.loop-piece-preserved
loop-piece-preserved c =
    let pieces = c.args.pieces.now in
    let i = c.loop-piece.piece-index in
    let old = c.loop-piece.marks in
    let new = c.mark_all.new.marks in
    let size = c.mark_all.ensures.size ∙ ap length c.as_mut_slice.ensures.value in
    subst (AreLiveMarks (take (i + 1) pieces) c.args.count) (sym (take_at new _ old.len (omega (arith, size, old.ok.0))))
    (live_more pieces i c.args.count old.items new c.loop-piece-test.true c.loop-piece.invariant size
    (λ n. subst (λ ms. (get_or new n false ≡ true) ↔ ((get_or ms n false ≡ true) ⊎ IsHere pieces i c.args.count old.items new c.loop-piece-test.true n)) c.as_mut_slice.ensures.value (c.mark_all.ensures.marked n)))
