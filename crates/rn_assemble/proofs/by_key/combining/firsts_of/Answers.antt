use Rattle.std.proofs.Common.{◌≡◌, ◌-◌, Some, false, get_or, length, refl, sym, ap, ◌∙◌, arith}
use Rattle.std.specs.Prelude.{slice_range}
use Rattle.rn_assemble.specs.declared.including.pieces.Piece.{Piece}
use Rattle.rn_assemble.proofs.Joining.FirstMembers.{firsts_again, firsts_end, firsts_on}
use Rattle.rn_assemble.proofs.Joining.MembersSoFar.{first_within}
use Rattle.rn_assemble.proofs.Joining.PieceBodies.{part_size, piece_at}
use Rattle.rn_assemble.proofs.by_key.combining.firsts_of.Goals as goal
use Rattle.rn_assemble.proofs.by_key.combining.firsts_of.Goals.{in-Some, in-None}

abbrev none : Piece
none = record { segment = 0; from = 0; to = 0; is_overridden = false }

pub index-requires-in-loop-piece : goal.index-requires-in-loop-piece
index-requires-in-loop-piece c =
    let known = c.requires.known in
    let h = known.segments_are in
    let within = first_within known.modules c.args.segments.now.list.items c.args.row.now c.args.pieces.now c.requires.pieces h.are.first c.loop-piece.begins.items c.loop-piece.piece-index _ _ c.index.result.now c.loop-piece-test.true refl c.index.ensures
    (c.loop-piece.invariant known.modules known.components h).size in
    omega (arith, within, c.loop-piece.begins.ok.0)

pub index_mut-requires : goal.index_mut-requires
index_mut-requires c =
    let known = c.requires.known in
    let h = known.segments_are in
    let within = first_within known.modules c.args.segments.now.list.items c.args.row.now c.args.pieces.now c.requires.pieces h.are.first c.loop-piece.begins.items c.loop-piece.piece-index _ _ c.index.result.now c.loop-piece-test.true refl c.index.ensures
    (c.loop-piece.invariant known.modules known.components h).size in
    omega (arith, within, c.loop-piece.begins.ok.0)

pub loop-piece-preserved : goal.loop-piece-preserved
loop-piece-preserved c = λ modules cs h.
    let list = c.args.segments.now.list.items in
    let row = c.args.row.now in
    let pieces = c.args.pieces.now in
    let begins = c.loop-piece.begins.items in
    let firsts = c.loop-piece.firsts.items in
    let i = c.loop-piece.piece-index in
    let p = get_or pieces i none in
    let s = c.index.result.now in
    let old = c.loop-piece.invariant modules cs h in
    let each = c.requires.pieces in
    let count : p.to - p.from ≡ length (slice_range row p.from p.to) = sym (part_size list row p (piece_at list row pieces each i p none c.loop-piece-test.true refl)) in
    let more = c.in_ok-push_indices.ensures c.if-not-branch.false in
    elim c.match-index.branch [
      | in-Some w ↦
          firsts_again modules list row pieces each h.are.first begins i p none s c.loop-piece-test.true refl c.index.ensures firsts old
          c.index-in-loop-piece.result.now c.match-index.begin (p.to - p.from) c.push_indices.new.firsts.items c.index-in-loop-piece.ensures (w.in-Some.is ∙ ap Some (sym w.begin-is)) count more
      | in-None w ↦
          firsts_on modules list row pieces each h.are.first begins i p none s c.loop-piece-test.true refl c.index.ensures firsts old
          c.match-index.begin (p.to - p.from) c.push_indices.new.firsts.items (omega (arith, w.begin-is, w.len-begin.ensures, c.loop-piece.firsts.ok.0)) count more
    ]

pub returns-then-is_repeated : goal.returns-then-is_repeated
returns-then-is_repeated c = λ modules k cs h are.
    let x = c.args.segments.now in
    firsts_end modules x.list.items c.args.row.now c.args.pieces.now c.loop-piece.begins.items c.loop-piece.firsts.items c.loop-piece.piece-index k cs are (omega (arith, c.loop-piece-test.false)) (c.loop-piece.invariant modules cs h)
