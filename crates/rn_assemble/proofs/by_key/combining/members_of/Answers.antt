use Rattle.std.proofs.Common.{◌≡◌, ℕ, ◌+◌, List, Option, false, get_or, length, map, refl, sym, subst, arith}
use Rattle.std.specs.Prelude.{Vec, slice_range}
use Rattle.std.specs.Rc.{rc_str_bytes}
use Rattle.std.specs.declared.alloc.Global.{Global}
use Rattle.std.specs.declared.rc.Rc.{Rc}
use Rattle.std.proofs.lemmas.List.{length-map}
use Rattle.rn_pattern.specs.declared.tree.Pattern.{Pattern}
use Rattle.rn_pattern.specs.View.{shared_view}
use Rattle.rn_assemble.specs.Components.{NamedModule}
use Rattle.rn_assemble.specs.declared.reading.key_rows.WrittenComponent as code
use Rattle.rn_assemble.specs.declared.including.pieces.Piece.{Piece}
use Rattle.rn_assemble.specs.declared.including.segments.Segment.{Segment}
use Rattle.rn_assemble.specs.inside.ContentsOf.{declarations_at}
use Rattle.rn_assemble.specs.inside.Patterns.{AddsResolved}
use Rattle.rn_assemble.proofs.Joining.MembersSoFar.{Membered, binds_there, body_there, first_within, members_end, members_more, members_repeat, repeat_fits}
use Rattle.rn_assemble.proofs.by_key.combining.members_of.Goals as goal
use Rattle.rn_assemble.proofs.by_key.combining.members_of.Goals.{in-Some+in_ok-repeat-in-Some, in-None+in_ok-push_resolved-in-None+else-not-branch}

abbrev none : Piece
none = record { segment = 0; from = 0; to = 0; is_overridden = false }

abbrev piece_of : List Piece → ℕ → Piece
piece_of pieces i = get_or pieces i none

-- what stands behind a branch stands where the branches join
joined : (modules : List NamedModule) (list : List Segment) (row : List code.WrittenComponent) (pieces : List Piece) (i : ℕ) (bs bs' : Vec (Option ℕ) Global) (ms ms' : Vec (Rc Pattern Global) Global) → bs ≡ bs' → ms ≡ ms'
    → Membered modules list row pieces bs'.items (map shared_view ms'.items) i → Membered modules list row pieces bs.items (map shared_view ms.items) i
joined modules list row pieces i bs bs' ms ms' b m h = subst (λ v. Membered modules list row pieces v.items (map shared_view ms.items) i) (sym b) (subst (λ v. Membered modules list row pieces bs'.items (map shared_view v.items) i) (sym m) h)

pub repeat-requires : goal.repeat-requires
repeat-requires c =
    let x = c.args.segments.now in
    let known = c.requires.known in
    let h = known.segments_are in
    let ms = c.loop-piece.members.items in
    omega (
      arith,
      length-map ms shared_view,
      repeat_fits known.modules x.list.items c.args.row.now c.args.pieces.now c.requires.pieces h.are.first c.loop-piece.begins.items c.loop-piece.piece-index _ _ c.index-segment.result.now c.loop-piece-test.true refl c.index-segment.ensures
          (map shared_view ms) c.index.result.now c.in-Some.begin (c.loop-piece.invariant known.modules known.components h) c.index.ensures c.in-Some.is,
    )

pub index_mut-requires : goal.index_mut-requires
index_mut-requires c =
    let known = c.requires.known in
    let h = known.segments_are in
    let within = first_within known.modules c.args.segments.now.list.items c.args.row.now c.args.pieces.now c.requires.pieces h.are.first c.loop-piece.begins.items c.loop-piece.piece-index _ _ c.index-segment.result.now c.loop-piece-test.true refl c.index-segment.ensures
    (c.loop-piece.invariant known.modules known.components h).size in
    omega (arith, within, c.loop-piece.begins.ok.0)

pub returns-then-not-branch : goal.returns-then-not-branch
returns-then-not-branch c = λ modules k cs h are.
    let x = c.args.segments.now in
    let row = c.args.row.now in
    let pieces = c.args.pieces.now in
    let begins = c.loop-piece.begins.items in
    let i = c.loop-piece.piece-index in
    let s = c.index-segment.result.now in
    let inherited = rc_str_bytes s.context.inherited.now in
    let ds = declarations_at modules s.module.0 in
    let binds = binds_there modules x.list.items row pieces c.requires.pieces h.are.first begins i (piece_of pieces i) none s c.loop-piece-test.true refl c.index-segment.ensures x.contents.now h.are.each in
    let broken = subst (AddsResolved inherited ds (slice_range row (piece_of pieces i).from (piece_of pieces i).to) c.loop-piece.members.items c.push_resolved.new.members.items) c.if-not-branch.true (c.in_ok-push_resolved-in-None.ensures ds binds) in
    (broken.0, body_there modules x.list.items row pieces c.requires.pieces h.are.first begins i (piece_of pieces i) none s c.loop-piece-test.true refl c.index-segment.ensures k cs broken.0 are broken.1, broken.2)

pub loop-piece-preserved : goal.loop-piece-preserved
loop-piece-preserved c = λ modules cs h.
    let x = c.args.segments.now in
    let row = c.args.row.now in
    let pieces = c.args.pieces.now in
    let begins = c.loop-piece.begins.items in
    let i = c.loop-piece.piece-index in
    let s = c.index-segment.result.now in
    let ms = c.loop-piece.members.items in
    let inherited = rc_str_bytes s.context.inherited.now in
    let ds = declarations_at modules s.module.0 in
    let old = c.loop-piece.invariant modules cs h in
    elim c.match-index.branch [
      | in-Some+in_ok-repeat-in-Some w ↦
          let more = members_repeat modules x.list.items row pieces c.requires.pieces h.are.first begins i (piece_of pieces i) none s c.loop-piece-test.true refl c.index-segment.ensures
          (map shared_view ms) (map shared_view w.repeat.new.members.items) c.index.result.now w.in-Some.begin old c.index.ensures w.in-Some.is w.in_ok-repeat-in-Some.ensures in
          joined modules x.list.items row pieces (i + 1) _ _ _ _ w.begins-is w.members-is more
      | in-None+in_ok-push_resolved-in-None+else-not-branch w ↦
          let binds = binds_there modules x.list.items row pieces c.requires.pieces h.are.first begins i (piece_of pieces i) none s c.loop-piece-test.true refl c.index-segment.ensures x.contents.now h.are.each in
          let added = subst (AddsResolved inherited ds (slice_range row (piece_of pieces i).from (piece_of pieces i).to) ms w.push_resolved.new.members.items) w.if-not-branch.false (w.in_ok-push_resolved-in-None.ensures ds binds) in
          let place : w.len-in-None.result ≡ length (map shared_view ms) = omega (arith, w.len-in-None.ensures, c.loop-piece.members.ok.0, length-map ms shared_view) in
          let more = members_more modules x.list.items row pieces c.requires.pieces h.are.first begins i (piece_of pieces i) none s c.loop-piece-test.true refl c.index-segment.ensures
          (map shared_view ms) (map shared_view w.push_resolved.new.members.items) w.len-in-None.result place old added.0 added.1 in
          joined modules x.list.items row pieces (i + 1) _ _ _ _ w.begins-is w.members-is more
    ]

pub returns : goal.returns
returns c = λ modules k cs h are.
    let x = c.args.segments.now in
    members_end modules x.list.items c.args.row.now c.args.pieces.now c.loop-piece.begins.items (map shared_view c.loop-piece.members.items) c.loop-piece.piece-index k cs are (omega (arith, c.loop-piece-test.false)) (c.loop-piece.invariant modules cs h)
