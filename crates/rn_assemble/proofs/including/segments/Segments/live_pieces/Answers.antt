use Rattle.std.proofs.Common.{◌≡◌, ℕ, not, List, ◌++◌, length, map, filter, take, drop, sym, ap, ◌∙◌, subst, arith, rules}
use Rattle.std.proofs.lemmas.List.{take_at}
use Rattle.std.proofs.lemmas.List.Elements.{filter_from_retain}
use Rattle.rn_assemble.specs.declared.including.pieces.Piece.{Piece}
use Rattle.rn_assemble.specs.inside.Pieces.{AreAllPieces, AreLeft, ArePieces}
use Rattle.rn_assemble.specs.inside.Runs.{marked_in}
use Rattle.rn_assemble.proofs.KeyPieces.LivePieces.{live_left_over, live_pieces, none_taken, unmarked_of}
use Rattle.rn_assemble.proofs.including.segments.Segments.live_pieces.Goals as goal

-- the list whose elements were all written is the written one
all_written : (n : ℕ) (ws ps : List Piece) → length ws ≡ n → take n (ws ++ drop (length ws) ps) ≡ ws
all_written n ws ps e = take_at ws (drop (length ws) ps) n e

pub mark_overridden-requires-clause-all : goal.mark_overridden-requires-clause-all
mark_overridden-requires-clause-all c =
    let r = c.requires in
    subst (AreAllPieces c.args.self.now.list.items c.args.row.now) (sym c.deref_mut.ensures.value) (c.in_ok-all_pieces.ensures r.modules r.key r.components r.row_is r.segments_are)

pub returns-then-mark_overridden : goal.returns-then-mark_overridden
returns-then-mark_overridden c =
    let x = c.args.self.now in
    let row = c.args.row.now in
    let bs = x.brought.items in
    let v = c.all_pieces.new.pieces in
    let ws = c.mark_overridden.new.pieces in
    let value : c.deref_mut.result.now ≡ v.items = c.deref_mut.ensures.value in
    let marked : ws ≡ map (marked_in row bs) v.items = c.mark_overridden.ensures.marked ∙ ap (map (marked_in row bs)) value in
    let size : length ws ≡ v.len = omega (arith, c.mark_overridden.auto.pieces, ap length value, v.ok.0) in
    let whole = all_written v.len ws v.items size in
    let kept : c.retain.new.self.items ≡ unmarked_of row bs v.items =
    filter_from_retain _ (λ (p : Piece). not p.is_overridden) (λ p y b q h. search rules) _ _ _ c.retain.ensures.filtered
    ∙ ap (filter (λ (p : Piece). not p.is_overridden)) (whole ∙ marked) in
    record {
      pieces = λ modules k cs is s. subst (ArePieces modules x.list.items k row cs) (sym kept) (live_pieces modules k row is x cs s v.items (c.in_ok-all_pieces.ensures modules k cs is s));
      left = λ modules k cs is s. subst (AreLeft modules x k row) (sym kept) (live_left_over modules k row is x cs s v.items (c.in_ok-all_pieces.ensures modules k cs is s));
    }

pub returns-else-mark_overridden : goal.returns-else-mark_overridden
returns-else-mark_overridden c =
    let x = c.args.self.now in
    let row = c.args.row.now in
    let bs = x.brought.items in
    let v = c.all_pieces.new.pieces in
    let ws = c.mark_overridden.new.pieces in
    let value : c.deref_mut.result.now ≡ v.items = c.deref_mut.ensures.value in
    let marked : ws ≡ map (marked_in row bs) v.items = c.mark_overridden.ensures.marked ∙ ap (map (marked_in row bs)) value in
    let size : length ws ≡ v.len = omega (arith, c.mark_overridden.auto.pieces, ap length value, v.ok.0) in
    let all : unmarked_of row bs v.items ≡ take v.len (ws ++ drop (length ws) v.items) =
    none_taken row bs v.items (c.mark_overridden.ensures.none c.if-mark_overridden.false) ∙ sym marked ∙ sym (all_written v.len ws v.items size) in
    record {
      pieces = λ modules k cs is s. subst (ArePieces modules x.list.items k row cs) all (live_pieces modules k row is x cs s v.items (c.in_ok-all_pieces.ensures modules k cs is s));
      left = λ modules k cs is s. subst (AreLeft modules x k row) all (live_left_over modules k row is x cs s v.items (c.in_ok-all_pieces.ensures modules k cs is s));
    }
