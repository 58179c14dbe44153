use Rattle.std.proofs.Common.{sym, subst, arith, rules}
use Rattle.std.specs.List.Sorted.{IsStrictlyIncreasing}
use Rattle.std.proofs.lemmas.List.Sorted.{IsNonDecreasingBy-from_sort, answers_always}
use Rattle.rn_assemble.specs.declared.including.pieces.Piece.{Piece}
use Rattle.rn_assemble.specs.inside.Runs.{AddsRun}
use Rattle.rn_assemble.proofs.KeyPieces.FoundPieces.{ArePiecesBefore, all_in_order, all_sorted, first_rise, no_pieces, pieces_more, segments_of}
use Rattle.rn_assemble.proofs.KeyPieces.RowFacts.{row_in}
use Rattle.rn_assemble.proofs.including.segments.Segments.all_pieces.Goals as goal

pub loop-from-init : goal.loop-from-init
loop-from-init c =
    let e = c.clear.ensures.items in
    record {
      pieces = subst (ArePiecesBefore c.args.self.now c.args.row.now 0) (sym e) (no_pieces c.args.self.now c.args.row.now);
      none = λ _. e;
      rise = λ _. subst (λ ps. IsStrictlyIncreasing (segments_of ps)) (sym e) (λ k l. absurd (omega (arith, l)));
    }

pub loop-from-preserved : goal.loop-from-preserved
loop-from-preserved c =
    let r = c.requires in
    let x = c.args.self.now in
    let row = c.args.row.now in
    let f = row_in r.modules r.key r.components row x r.row_is r.segments_are in
    let a : AddsRun x row c.loop-from.from c.in_ok-from.from c.loop-from.pieces.items c.push_run.new.pieces.items = c.in_ok-from.ensures in
    record {
      pieces = pieces_more r.modules x r.segments_are.are row f c.loop-from.from c.in_ok-from.from c.loop-from.pieces.items c.push_run.new.pieces.items c.loop-from.invariant.pieces a;
      none = λ e. absurd (omega (arith, e));
      rise = λ l. first_rise r.modules x r.segments_are.are row f c.loop-from.from c.in_ok-from.from c.loop-from.pieces.items c.push_run.new.pieces.items (c.loop-from.invariant.none (omega (arith, l))) a;
    }

pub loop-from-smaller : goal.loop-from-smaller
loop-from-smaller c =
    let a : AddsRun c.args.self.now c.args.row.now c.loop-from.from c.in_ok-from.from c.loop-from.pieces.items c.push_run.new.pieces.items = c.in_ok-from.ensures in
    omega (arith, a.further, a.within)

pub push_run-requires : goal.push_run-requires
push_run-requires c = record { within = c.loop-from-test.true; ordered = c.requires.segments_are.ordered }

pub returns-then-runs-gt1 : goal.returns-then-runs-gt1
returns-then-runs-gt1 c = λ modules k cs is s.
    let x = c.args.self.now in
    let row = c.args.row.now in
    let rises = IsNonDecreasingBy-from_sort (λ (p : Piece). p.segment) c.sort_unstable_by_key.new.self.items (c.sort_unstable_by_key.ensures.sorted (λ (p : Piece). p.segment) (answers_always _ _ _ (λ f a r g h. search rules))) in
    all_sorted modules x s.are row (row_in modules k cs row x is s) c.loop-from.from c.loop-from.pieces.items c.loop-from.invariant.pieces c.loop-from-test.false c.sort_unstable_by_key.new.self.items c.sort_unstable_by_key.ensures.permutation rises

pub returns-else-runs-gt1 : goal.returns-else-runs-gt1
returns-else-runs-gt1 c = λ modules k cs is s.
    let x = c.args.self.now in
    let row = c.args.row.now in
    all_in_order modules x s.are row (row_in modules k cs row x is s) c.loop-from.from c.loop-from.pieces.items c.loop-from.invariant.pieces c.loop-from-test.false (c.loop-from.invariant.rise c.if-runs-gt1.false)
