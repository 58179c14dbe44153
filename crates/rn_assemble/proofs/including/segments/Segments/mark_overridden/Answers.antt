use Rattle.std.proofs.Common.{◌≡◌, ◌<◌, true, false, [], length, get_or, sym, ap, ◌∙◌, subst, arith}
use Rattle.std.specs.Prelude.{Contains}
use Rattle.std.proofs.lemmas.Bool.{false_from_ne_true, false≢true}
use Rattle.rn_assemble.specs.declared.including.segments.FollowedInclude.{FollowedInclude}
use Rattle.rn_assemble.specs.inside.Pieces.{overrides_in}
use Rattle.rn_assemble.specs.inside.Runs.{ArePiecesIn}
use Rattle.rn_assemble.proofs.KeyPieces.Marks.{marked_rise, none_marked, step_marked, step_none, step_same}
use Rattle.rn_assemble.proofs.KeyPieces.RowOrder.{row_rises}
use Rattle.rn_assemble.proofs.including.segments.Segments.mark_overridden.Goals as goal
use Rattle.rn_assemble.proofs.including.segments.Segments.mark_overridden.Goals.{then-overrides, else-overrides}

pub returns-then-not-has_own-clause-marked : goal.returns-then-not-has_own-clause-marked
returns-then-not-has_own-clause-marked c =
    let none : (b : FollowedInclude) → Contains c.args.self.now.brought.items b → overrides_in c.args.row.now b ≡ false =
    λ b k. false_from_ne_true (overrides_in c.args.row.now b) (λ t. false≢true (sym c.if-not-has_own.true ∙ c.has_own.ensures b k t)) in
    none_marked c.args.row.now c.args.self.now.brought.items c.args.pieces.now c.requires.all.unmarked none

pub loop-brought-init : goal.loop-brought-init
loop-brought-init c = record {
  marked = none_marked c.args.row.now [] c.args.pieces.now c.requires.all.unmarked (λ b k. absurd (omega (arith, k.1)));
  none = λ _ b k. absurd (omega (arith, k.1));
}

pub overrides-requires : goal.overrides-requires
overrides-requires c = row_rises c.requires.known.modules c.requires.known.key c.args.row.now c.requires.known.row_is

pub pieces_in-from-requires-clause-rise : goal.pieces_in-from-requires-clause-rise
pieces_in-from-requires-clause-rise c = marked_rise c.args.row.now _ c.args.pieces.now c.loop-brought.pieces c.loop-brought.invariant.marked c.requires.all.rise

pub loop-brought-preserved : goal.loop-brought-preserved
loop-brought-preserved c =
    let bs = c.args.self.now.brought.items in
    let row = c.args.row.now in
    let ps = c.args.pieces.now in
    let xs = c.loop-brought.pieces in
    let i = c.loop-brought.brought-index in
    let d : FollowedInclude = record { «module» = record { 0 = 0 }; number = 0; own_from = 0; own_to = 0; from = 0; to = 0 } in
    let value : c.deref-brought-items.result.now ≡ bs = c.deref-brought-items.ensures.value in
    let b = get_or bs i d in
    let same : get_or c.deref-brought-items.result.now i d ≡ b = ap (λ ds. get_or ds i d) value in
    let l : i < length bs = subst (λ ds. i < length ds) value c.loop-brought-test.true in
    let h = c.loop-brought.invariant in
    elim c.if-overrides.branch [
      | then-overrides w ↦
          let o : overrides_in row b ≡ true = ap (overrides_in row) (sym same) ∙ sym c.overrides.ensures ∙ w.if-overrides.true in
          let from = w.pieces_in-from.result.0 in
          let to = w.pieces_in-from.result.1 in
          let are : ArePiecesIn xs b from to = subst (λ (t : FollowedInclude). ArePiecesIn xs t from to) same w.pieces_in-from.ensures in
          record {
            marked = step_marked row bs i d l ps xs c.if-overrides.pieces w.mark.new.pieces from to h.marked o are w.mark.ensures w.pieces-is;
            none = λ e. absurd (false≢true (sym e ∙ w.has_marked-is));
          }
      | else-overrides w ↦
          let o : overrides_in row b ≡ false = ap (overrides_in row) (sym same) ∙ sym c.overrides.ensures ∙ w.if-overrides.false in
          record {
            marked = w.pieces-is ∙ step_same row bs i d l ps xs h.marked o;
            none = λ e. step_none row bs i d l (h.none (sym w.has_marked-is ∙ e)) o;
          }
    ]
