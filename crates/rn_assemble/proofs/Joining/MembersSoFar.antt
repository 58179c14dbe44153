-- The members of a key's list, piece by piece, and the first place of each.
use Rattle.std.proofs.Common.{◌≡◌, ℕ, zero, suc, ◌+◌, ◌-◌, ◌<◌, ◌≤◌, List, [], ◌∷◌, ◌++◌, append_assoc, drop, get_or, length, length-append, set, take, length-drop, Option, Some, None, Contains, refl, sym, ap, ◌∙◌, subst, arith}
use Rattle.std.specs.Prelude.{slice_get, slice_range}
use Rattle.std.specs.List.{AllByRecursion}
use Rattle.std.specs.Rc.{rc_str_bytes}
use Rattle.std.proofs.lemmas.List.{get_or-drop, get_or_append_left, get_or_default, length-map, length-set, take_all, take_more}
use Rattle.std.proofs.lemmas.List.Elements.{Contains-get_or}
use Rattle.std.proofs.lemmas.Option.{slice_get_read}
use Rattle.rn_pattern.specs.NameRules.{KeepsNameRules}
use Rattle.rn_pattern.specs.Tree.{Tree}
use Rattle.rn_pattern.proofs.Ordered.Ascending.{each_append}
use Rattle.rn_assemble.specs.Combine.{bodies}
use Rattle.rn_assemble.specs.Components.{Component, Key, NamedModule}
use Rattle.rn_assemble.specs.declared.reading.key_rows.WrittenComponent as code
use Rattle.rn_assemble.specs.declared.including.pieces.Piece.{Piece}
use Rattle.rn_assemble.specs.declared.including.segments.Segment.{Segment}
use Rattle.rn_assemble.specs.declared.reading.contents.Contents.{Contents}
use Rattle.rn_assemble.specs.inside.ContentsOf.{declarations_at}
use Rattle.rn_assemble.specs.inside.ContextBindings.{BindsAs}
use Rattle.rn_assemble.specs.inside.Patterns.{numbers_from, resolved_bodies}
use Rattle.rn_assemble.specs.inside.Pieces.{ArePieces, IsPiece}
use Rattle.rn_assemble.specs.inside.Segments.{IsFirstLike, IsSegment}
use Rattle.rn_assemble.specs.Resolve.{resolved_pattern}
use Rattle.rn_syntax.specs.View.{boxed_view}
use Rattle.rn_assemble.proofs.Joining.PieceBodies.{Held, StandAt, all_bodies, bodies_are, bodies_more, held_on, held_set, of_segment, in_segment, piece_at, piece_bodies, segment_binds, segment_binds, segment_bodies, stand_last, taken_at}
use Rattle.rn_assemble.proofs.Referring.ListMembers.{flat_contains}

-- ---- lists

-- what is taken behind a place, with the next element
pub taken_more : (ts ms : List Tree) (b i : ℕ) (t d : Tree) → b ≤ i → i < length ts → ms ≡ ts ++ take (i - b) (drop b ts) → t ≡ get_or ms i d → ms ++ t ∷ [] ≡ ts ++ take (i + 1 - b) (drop b ts)
taken_more ts ms b i t d low l e is =
    let n = i - b in
    let here : get_or ms i d ≡ get_or (drop b ts) n d = ap (λ xs. get_or xs i d) e ∙ get_or_append_left ts (take n (drop b ts)) d i l ∙ ap (λ j. get_or ts j d) (let q : i ≡ b + n = omega (arith, low) in q) ∙ sym (get_or-drop b ts n d) in
    let within : n < length (drop b ts) = omega (arith, low, l, length-drop b ts) in
    let step : n + 1 ≡ i + 1 - b = omega (arith, low) in
    (λ k. e k ++ (is ∙ here) k ∷ []) ∙ append_assoc ts (take n (drop b ts)) (get_or (drop b ts) n d ∷ []) ∙ ap (λ xs. ts ++ xs) (sym (take_more (drop b ts) n d within)) ∙ ap (λ m. ts ++ take m (drop b ts)) step

pub numbers_more : (b n : ℕ) → numbers_from b (n + 1) ≡ numbers_from b n ++ (b + n) ∷ []
numbers_more b zero = ap (λ m. m ∷ []) (let e : b ≡ b + 0 = omega arith in e)
numbers_more b (suc n) = ap (numbers_from b) (let e : suc n + 1 ≡ suc (n + 1) = omega arith in e) ∙ ap (λ ms. b ∷ ms) (numbers_more (suc b) n ∙ ap (λ m. numbers_from (suc b) n ++ m ∷ []) (let e : suc b + n ≡ b + suc n = omega arith in e))

pub count_numbers : (b n : ℕ) → length (numbers_from b n) ≡ n
count_numbers b zero = refl
count_numbers b (suc n) = ap suc (count_numbers (suc b) n)

pub number_at : (b n q d : ℕ) → q < n → get_or (numbers_from b n) q d ≡ b + q
number_at b zero q d l = absurd (omega (arith, l))
number_at b (suc n) zero d l = omega arith
number_at b (suc n) (suc q) d l = number_at (suc b) n q d (omega (arith, l)) ∙ (let e : suc b + q ≡ b + suc q = omega arith in e)

each_inside : (P : Tree → Type 0) (xs us ys : List Tree) → AllByRecursion P (xs ++ (us ++ ys)) → AllByRecursion P us
each_inside P [] [] ys h = tt
each_inside P [] (u ∷ us) ys h = (h.0, each_inside P [] us ys h.1)
each_inside P (x ∷ xs) us ys h = each_inside P xs us ys h.1

module _ (modules : List NamedModule) (list : List Segment) (row : List code.WrittenComponent) (pieces : List Piece) where
  abbrev before : ℕ → List Tree
  before i = all_bodies modules list row (take i pieces)

  -- the members of the pieces before the index, and where those of each segment begin
  pub record Membered (begins : List (Option ℕ)) (ts : List Tree) (i : ℕ) : Type 0 where
    pub size : length begins ≡ length list
    pub are : ts ≡ before i
    pub keep : AllByRecursion KeepsNameRules ts
    pub held : Held modules list row begins ts

  module _ (each : AllByRecursion (IsPiece list row) pieces) (first : (n : ℕ) (s : Segment) → slice_get list n ≡ Some s → IsFirstLike list n s) (begins : List (Option ℕ)) (i : ℕ) (p d : Piece) (s : Segment) (l : i < length pieces) (is : p ≡ get_or pieces i d) (got : s ≡ get_or list p.segment s) where
    abbrev us : List Tree
    us = segment_bodies modules list row s

    abbrev here : List Tree
    here = resolved_bodies (rc_str_bytes s.context.inherited.now) (declarations_at modules s.module.0) (slice_range row p.from p.to)

    piece : IsPiece list row p
    piece = piece_at list row pieces each i p d l is

    pub segment_at : slice_get list p.segment ≡ Some s
    segment_at = slice_get_read list (length list) p.segment s refl piece.segment_within got

    -- the segment's first one has a place among the beginnings
    pub first_within : length begins ≡ length list → s.first < length begins
    first_within e = omega (arith, (first p.segment s segment_at).before, piece.segment_within, e)

    pub begin_is : (o : Option ℕ) (b : ℕ) → length begins ≡ length list → o ≡ get_or begins s.first o → o ≡ Some b → get_or begins s.first None ≡ Some b
    begin_is o b size read is = get_or_default begins s.first None o (first_within size) ∙ sym read ∙ is

    here_are : here ≡ us
    here_are = sym (in_segment modules list row p s segment_at) ∙ of_segment modules list row p s piece segment_at

    -- how many components the piece has
    pub count_is : length (slice_range row p.from p.to) ≡ length us
    count_is = sym (length-map (slice_range row p.from p.to) (λ (w : code.WrittenComponent). resolved_pattern (rc_str_bytes s.context.inherited.now) (declarations_at modules s.module.0) (boxed_view w.body))) ∙ ap length here_are

    -- those that begin at a place are there
    pub repeat_fits : (ts : List Tree) (o : Option ℕ) (b : ℕ) → Membered begins ts i → o ≡ get_or begins s.first o → o ≡ Some b → b + length (slice_range row p.from p.to) ≤ length ts
    repeat_fits ts o b h read e =
        let stand = h.held p.segment b s segment_at (begin_is o b h.size read e) in
        omega (arith, count_is, stand.place, ap length stand.are, length-append stand.front (us ++ stand.behind), length-append us stand.behind)

    pub members_repeat : (ts ts' : List Tree) (o : Option ℕ) (b : ℕ) → Membered begins ts i → o ≡ get_or begins s.first o → o ≡ Some b → ts' ≡ ts ++ take (length (slice_range row p.from p.to)) (drop b ts) → Membered begins ts' (i + 1)
    members_repeat ts ts' o b h read e more =
        let stand = h.held p.segment b s segment_at (begin_is o b h.size read e) in
        let same : ts' ≡ ts ++ us = more ∙ ap (λ vs. ts ++ vs) (taken_at us b (length (slice_range row p.from p.to)) ts stand count_is) in
        subst (λ vs. Membered begins vs (i + 1)) (sym same) (record {
          size = h.size;
          are = bodies_more modules list row pieces i p d ts us l is h.are (sym (of_segment modules list row p s piece segment_at));
          keep = each_append KeepsNameRules ts us h.keep (each_inside KeepsNameRules stand.front us stand.behind (subst (AllByRecursion KeepsNameRules) stand.are h.keep));
          held = held_on modules list row begins ts us h.held;
        })

    pub members_more : (ts ts' : List Tree) (b : ℕ) → b ≡ length ts → Membered begins ts i → ts' ≡ ts ++ here → AllByRecursion KeepsNameRules here → Membered (set begins s.first (Some b)) ts' (i + 1)
    members_more ts ts' b place h more keep =
        let same : ts' ≡ ts ++ us = more ∙ ap (λ vs. ts ++ vs) here_are in
        subst (λ vs. Membered (set begins s.first (Some b)) vs (i + 1)) (sym same) (record {
          size = length-set begins s.first (Some b) ∙ h.size;
          are = bodies_more modules list row pieces i p d ts us l is h.are (sym (of_segment modules list row p s piece segment_at));
          keep = each_append KeepsNameRules ts us h.keep (subst (AllByRecursion KeepsNameRules) here_are keep);
          held = held_set modules list row first begins (ts ++ us) p.segment b s segment_at h.size (subst (λ n. StandAt us n (ts ++ us)) (sym place) (stand_last us ts)) (held_on modules list row begins ts us h.held);
        })

    -- what the bindings of the segment stand for
    pub binds_there : (contents : List Contents) → AllByRecursion (IsSegment modules contents) list → BindsAs s.context.bindings.now (declarations_at modules s.module.0)
    binds_there contents are = segment_binds modules list contents p.segment s are piece.segment_within got

    -- a pattern of the piece is one of the key
    pub body_there : (k : Key) (cs : List Component) (t : Tree) → ArePieces modules list k row cs pieces → Contains here t → Contains (bodies k cs) t
    body_there k cs t are c =
        let among : Contains pieces p = subst (Contains pieces) (sym is) (Contains-get_or pieces i d l) in
        subst (λ ts. Contains ts t) (sym (bodies_are modules list row k cs pieces are))
        (flat_contains (piece_bodies modules list row) pieces p t among (subst (λ ts. Contains ts t) (sym (in_segment modules list row p s segment_at)) c))

  pub members_end : (begins : List (Option ℕ)) (ts : List Tree) (i : ℕ) (k : Key) (cs : List Component) → ArePieces modules list k row cs pieces → length pieces ≤ i → Membered begins ts i → (ts ≡ bodies k cs) × AllByRecursion KeepsNameRules (bodies k cs)
  members_end begins ts i k cs are past h =
      let all : ts ≡ bodies k cs = h.are ∙ ap (all_bodies modules list row) (take_all i pieces past) ∙ sym (bodies_are modules list row k cs pieces are) in
      (all, subst (AllByRecursion KeepsNameRules) all h.keep)
