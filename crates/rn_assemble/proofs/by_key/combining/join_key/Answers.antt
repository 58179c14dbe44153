use Rattle.std.proofs.Common.{◌≡◌, ◌≢◌, ◌<◌, List, [], ◌∷◌, Some, cond, length, refl, sym, ap, ◌∙◌, subst, arith, rules}
use Rattle.std.specs.Prelude.{slice_get}
use Rattle.std.specs.List.{AllByRecursion}
use Rattle.std.specs.Rc.{rc_str_bytes}
use Rattle.std.proofs.lemmas.Option.{slice_get_read}
use Rattle.std.proofs.lemmas.Result.{IfOk-weaker}
use Rattle.rn_syntax.specs.View.{boxed_view}
use Rattle.rn_pattern.specs.Tree.{interleave, choice, trees_of}
use Rattle.rn_pattern.specs.View.{pattern_view, shared_trees}
use Rattle.rn_assemble.specs.Combine.{bodies, method_node}
use Rattle.rn_assemble.specs.Resolve.{resolved_pattern}
use Rattle.rn_assemble.specs.declared.reading.key_rows.WrittenComponent as code
use Rattle.rn_assemble.specs.declared.including.pieces.Piece.{Piece}
use Rattle.rn_assemble.specs.declared.including.segments.Segment.{Segment}
use Rattle.rn_assemble.specs.inside.ContentsOf.{declarations_at}
use Rattle.rn_assemble.specs.inside.Patterns.{AreResolved}
use Rattle.rn_assemble.specs.inside.Pieces.{ArePieces, IsOnlyComponent, IsPiece}
use Rattle.rn_assemble.proofs.Joining.KeyPatterns.{list_joined, none_joined, one_joined}
use Rattle.rn_assemble.proofs.Joining.PieceBodies.{all_bodies, bodies_are, not_one_body, one_body, segment_binds}
use Rattle.rn_assemble.proofs.by_key.combining.join_key.Goals as goal
use Rattle.rn_assemble.proofs.by_key.combining.join_key.Goals.{then-uses, else-uses}

-- the only piece is one of the row
only_piece : (list : List Segment) (row : List code.WrittenComponent) (pieces : List Piece) (p : Piece) → AllByRecursion (IsPiece list row) pieces → pieces ≡ p ∷ [] → IsPiece list row p
only_piece list row pieces p each is = (subst (AllByRecursion (IsPiece list row)) is each).0

pub index-requires : goal.index-requires
index-requires c =
    let k = c.requires in
    let list = c.args.segments.now.list in
    let pieces = c.in_ok-live_pieces.ensures.pieces k.modules k.key k.components k.row_is k.segments_are in
    let p = only_piece list.items c.args.row.now c.live_pieces.new.pieces.items c.in-Some.piece pieces.each (sym c.deref.ensures.value ∙ c.in-Some.ensures.0) in
    omega (arith, p.segment_within, list.ok.0)

pub offset_bounds-row-piece : goal.offset_bounds-row-piece
offset_bounds-row-piece c =
    let k = c.requires in
    let pieces = c.in_ok-live_pieces.ensures.pieces k.modules k.key k.components k.row_is k.segments_are in
    let p = only_piece c.args.segments.now.list.items c.args.row.now c.live_pieces.new.pieces.items c.in-Some.piece pieces.each (sym c.deref.ensures.value ∙ c.in-Some.ensures.0) in
    let w : c.in-Some.piece.from < length c.args.row.now = omega (arith, p.ordered, p.within) in
    search (rules, w)

pub bounds-row-piece : goal.bounds-row-piece
bounds-row-piece c =
    let k = c.requires in
    let pieces = c.in_ok-live_pieces.ensures.pieces k.modules k.key k.components k.row_is k.segments_are in
    let p = only_piece c.args.segments.now.list.items c.args.row.now c.live_pieces.new.pieces.items c.in-Some.piece pieces.each (sym c.deref.ensures.value ∙ c.in-Some.ensures.0) in
    omega (arith, p.ordered, p.within)

pub returns-in-Some : goal.returns-in-Some
returns-in-Some c = λ modules k cs r h.
    let list = c.args.segments.now.list.items in
    let row = c.args.row.now in
    let p = c.in-Some.piece in
    let s = c.index.result.now in
    let w = c.index-row-piece.result in
    let pieces = c.in_ok-live_pieces.ensures.pieces modules k cs r h in
    let all = c.live_pieces.new.pieces.items in
    let only = sym c.deref.ensures.value ∙ c.in-Some.ensures.0 in
    let is = only_piece list row all p pieces.each only in
    let at : slice_get list p.segment ≡ Some s = slice_get_read list (length list) p.segment s refl is.segment_within c.index.ensures in
    let inherited = rc_str_bytes s.context.inherited.now in
    let ds = declarations_at modules s.module.0 in
    let one = bodies_are modules list row k cs all pieces ∙ ap (all_bodies modules list row) only ∙ one_body modules list row p s w at c.index-row-piece.is (omega (arith, is.ordered, is.within)) c.in-Some.ensures.1 in
    IfOk-weaker c.join_one.result _ _
    (λ o found. one_joined cs k (resolved_pattern inherited ds (boxed_view w.body)) o one found)
    (c.join_one.ensures ds (segment_binds modules list c.args.segments.now.contents.now p.segment s h.are.each is.segment_within c.index.ensures))

pub members_of-requires-clause-pieces : goal.members_of-requires-clause-pieces
members_of-requires-clause-pieces c =
    let k = c.requires in
    let pieces = c.in_ok-live_pieces.ensures.pieces k.modules k.key k.components k.row_is k.segments_are in
    subst (AllByRecursion (IsPiece c.args.segments.now.list.items c.args.row.now)) (sym c.deref-2.ensures.value) pieces.each

pub returns-in_default-2 : goal.returns-in_default-2
returns-in_default-2 c = λ modules k cs r h.
    let list = c.args.segments.now.list.items in
    let row = c.args.row.now in
    let pieces = subst (ArePieces modules list k row cs) (sym c.deref-2.ensures.value) (c.in_ok-live_pieces.ensures.pieces modules k cs r h) in
    none_joined cs k (subst (AreResolved (bodies k cs)) c.in_default-2.is (c.in_ok-members.ensures modules k cs h pieces))

pub firsts_of-requires-clause-pieces : goal.firsts_of-requires-clause-pieces
firsts_of-requires-clause-pieces c =
    let k = c.requires in
    let pieces = c.in_ok-live_pieces.ensures.pieces k.modules k.key k.components k.row_is k.segments_are in
    subst (AllByRecursion (IsPiece c.args.segments.now.list.items c.args.row.now)) (sym c.deref-3.ensures.value) pieces.each

pub uses-requires : goal.uses-requires
uses-requires c =
    let k = c.requires in
    let list = c.args.segments.now.list.items in
    let pieces = c.in_ok-live_pieces.ensures.pieces k.modules k.key k.components k.row_is k.segments_are in
    (list, subst (AllByRecursion (IsPiece list c.args.row.now)) (sym c.deref-4.ensures.value) pieces.each)

pub returns : goal.returns
returns c = λ modules k cs r h.
    let list = c.args.segments.now.list.items in
    let row = c.args.row.now in
    let all = c.live_pieces.new.pieces.items in
    let pieces = c.in_ok-live_pieces.ensures.pieces modules k cs r h in
    let members = subst (AreResolved (bodies k cs)) c.in-Some-2.is (c.in_ok-members.ensures modules k cs h (subst (ArePieces modules list k row cs) (sym c.deref-2.ensures.value) pieces)) in
    let firsts = c.in_ok-firsts.ensures modules k cs h (subst (ArePieces modules list k row cs) (sym c.deref-3.ensures.value) pieces) in
    let method = c.uses.ensures modules list k cs (subst (ArePieces modules list k row cs) (sym c.deref-4.ensures.value) pieces) in
    let single = subst (IsOnlyComponent c.deref.result.now) c.in_default.is c.only_component.ensures in
    let several : length (bodies k cs) ≢ 1 = λ e. not_one_body modules list row all pieces.each (λ p is. single p (c.deref.ensures.value ∙ is)) (sym (ap length (bodies_are modules list row k cs all pieces)) ∙ e) in
    let seen = shared_trees c.in-Some-2.members.items in
    let is : pattern_view c.if-uses.pattern ≡ method_node k cs (trees_of (bodies k cs)) = elim c.if-uses.branch [
      | then-uses w ↦ ap pattern_view w.pattern-is ∙ w.interleave-pattern.ensures ∙ ap (λ ts. interleave (trees_of ts)) members.0 ∙ ap (λ b. cond b (interleave (trees_of (bodies k cs))) (choice (trees_of (bodies k cs)))) (sym w.if-uses.true ∙ method)
      | else-uses w ↦ ap pattern_view w.pattern-is ∙ w.choice-pattern.ensures ∙ ap (λ ts. choice (trees_of ts)) members.0 ∙ ap (λ b. cond b (interleave (trees_of (bodies k cs))) (choice (trees_of (bodies k cs)))) (sym w.if-uses.false ∙ method)
    ] in
    list_joined cs k (record { pattern = c.if-uses.pattern; firsts = c.in_ok-firsts.firsts }) several members.1 is firsts
