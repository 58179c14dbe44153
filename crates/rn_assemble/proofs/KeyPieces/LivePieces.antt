-- The pieces that no include overrides have what includes leave of the key.
use Rattle.std.proofs.Common.{◌≡◌, ℕ, ◌&&◌, nat_lt, not, cond, Bool, true, false, List, [], ◌∷◌, map, filter, Some, refl, sym, ap, ◌∙◌, subst, Contains}
use Rattle.std.specs.Prelude.{slice_get}
use Rattle.std.specs.List.{All, AllByRecursion, list_any}
use Rattle.std.specs.List.Sorted.{IsStrictlyIncreasing}
use Rattle.std.proofs.lemmas.Bool.{not-true, not_from_false}
use Rattle.std.proofs.lemmas.List.Elements.{All-filter, All-from_recursion, All-map, All-weaker, filter_passes, recursion_from_All}
use Rattle.std.proofs.lemmas.List.Kept.{IsStrictlyIncreasing-filter}
use Rattle.std.proofs.lemmas.Simd.{map-map}
use Rattle.rn_assemble.specs.Combine.{of_key}
use Rattle.rn_assemble.specs.Components.{Component, Key, NamedModule}
use Rattle.rn_assemble.specs.declared.reading.key_rows.WrittenComponent as code
use Rattle.rn_assemble.specs.declared.including.pieces.Piece.{Piece}
use Rattle.rn_assemble.specs.declared.including.segments.FollowedInclude.{FollowedInclude}
use Rattle.rn_assemble.specs.declared.including.segments.Segment.{Segment}
use Rattle.rn_assemble.specs.declared.including.segments.Segments.{Segments}
use Rattle.rn_assemble.specs.inside.Pieces.{AreAllPieces, AreLeft, ArePieces, IsPiece, overrides_in, parts_in}
use Rattle.rn_assemble.specs.inside.Rows.{IsRowOf}
use Rattle.rn_assemble.specs.inside.Runs.{is_overridden_in, marked_in}
use Rattle.rn_assemble.specs.inside.Segments.{AreSegmentsOf, is_overridden, overrides}
use Rattle.rn_assemble.proofs.KeyPieces.FoundPieces.{segments_of}
use Rattle.rn_assemble.proofs.KeyPieces.LackingPieces.{overrides_same}
use Rattle.rn_assemble.proofs.KeyPieces.LeftPieces.{pieces_are}
use Rattle.rn_assemble.proofs.KeyPieces.Marks.{none_overridden}
use Rattle.rn_assemble.proofs.KeyPieces.RowParts.{filter_mapped}
use Rattle.rn_assemble.proofs.Naming.KeptMembers.{kept_there}

-- ---- tests over lists

any_agree : {X : Type 0} (f g : X → Bool) → ((x : X) → f x ≡ g x) → (xs : List X) → list_any f xs ≡ list_any g xs
any_agree f g h [] = refl
any_agree f g h (x ∷ xs) = let first = h x in let rest = any_agree f g h xs in cc

filter_every : {X : Type 0} (p : X → Bool) (xs : List X) → ((x : X) → p x ≡ true) → filter p xs ≡ xs
filter_every p [] h = refl
filter_every p (x ∷ xs) h = ap (λ b. cond b (x ∷ filter p xs) (filter p xs)) (h x) ∙ ap (λ ys. x ∷ ys) (filter_every p xs h)

-- ---- the pieces that aren't marked

-- those that are left of marked pieces
abbrev pub unmarked_of : List code.WrittenComponent → List FollowedInclude → List Piece → List Piece
unmarked_of row bs ps = filter (λ (p : Piece). not p.is_overridden) (map (marked_in row bs) ps)

-- where no include overrides the key, these are all
pub none_taken : (row : List code.WrittenComponent) (bs : List FollowedInclude) (ps : List Piece) → ((b : FollowedInclude) → Contains bs b → overrides_in row b ≡ false) → unmarked_of row bs ps ≡ map (marked_in row bs) ps
none_taken row bs ps h =
    filter_mapped (λ (p : Piece). not p.is_overridden) (marked_in row bs) ps
    ∙ ap (map (marked_in row bs)) (filter_every (λ (p : Piece). not (is_overridden_in row bs p.segment)) ps (λ p. not_from_false (is_overridden_in row bs p.segment) (none_overridden row bs h p.segment)))

module _ (modules : List NamedModule) (k : Key) (row : List code.WrittenComponent) (is : IsRowOf modules k row) (x : Segments) (cs : List Component) (s : AreSegmentsOf modules x cs) (ps : List Piece) (all : AreAllPieces x.list.items row ps) where
  overridden_same : (n : ℕ) → is_overridden modules x.brought.items k n ≡ is_overridden_in row x.brought.items n
  overridden_same n =
      any_agree (λ (b : FollowedInclude). (not (nat_lt n b.from) && nat_lt n b.to) && overrides modules k b) (λ (b : FollowedInclude). (not (nat_lt n b.from) && nat_lt n b.to) && overrides_in row b)
      (λ b. ap (λ t. (not (nat_lt n b.from) && nat_lt n b.to) && t) (sym (overrides_same modules k row is b))) x.brought.items

  abbrev stays : ℕ → Bool
  stays n = not (is_overridden_in row x.brought.items n)

  abbrev kept : List Piece
  kept = filter (λ (p : Piece). stays p.segment) ps

  abbrev live : List Piece
  live = map (marked_in row x.brought.items) kept

  abbrev IsLeftAt : Piece → Type 0
  IsLeftAt p = is_overridden modules x.brought.items k p.segment ≡ false

  live_each : AllByRecursion (IsPiece x.list.items row) live
  live_each =
      let P = IsPiece x.list.items row in
      let M = marked_in row x.brought.items in
      let every : All (λ (p : Piece). P (M p)) ps =
      All-weaker P (λ (p : Piece). P (M p)) (λ p h. record { segment_within = h.segment_within; ordered = h.ordered; within = h.within; parts = h.parts }) ps (All-from_recursion P ps all.each) in
      recursion_from_All P live (All-map P M kept (All-filter (λ (p : Piece). stays p.segment) (λ (p : Piece). P (M p)) ps every))

  live_left : AllByRecursion IsLeftAt live
  live_left =
      let M = marked_in row x.brought.items in
      let passed : All (λ (p : Piece). IsLeftAt (M p)) kept =
      All-weaker (λ (p : Piece). stays p.segment ≡ true) (λ (p : Piece). IsLeftAt (M p)) (λ p e. overridden_same p.segment ∙ not-true (is_overridden_in row x.brought.items p.segment) e) kept (filter_passes (λ (p : Piece). stays p.segment) ps) in
      recursion_from_All IsLeftAt live (All-map IsLeftAt M kept passed)

  live_segments : segments_of live ≡ filter stays (segments_of ps)
  live_segments = map-map (λ (p : Piece). p.segment) (marked_in row x.brought.items) kept ∙ sym (filter_mapped stays (λ (p : Piece). p.segment) ps)

  live_rise : IsStrictlyIncreasing (segments_of live)
  live_rise = subst IsStrictlyIncreasing (sym live_segments) (IsStrictlyIncreasing-filter stays (segments_of ps) all.rise)

  live_all : (n : ℕ) (t : Segment) (w : code.WrittenComponent) → slice_get x.list.items n ≡ Some t → Contains (parts_in t row) w → is_overridden modules x.brought.items k n ≡ false → Contains (segments_of live) n
  live_all n t w e c o =
      subst (λ ns. Contains ns n) (sym live_segments)
      (kept_there stays (segments_of ps) n (all.all n t w e c) (not_from_false (is_overridden_in row x.brought.items n) (sym (overridden_same n) ∙ o)))

  live_is : live ≡ unmarked_of row x.brought.items ps
  live_is = sym (filter_mapped (λ (p : Piece). not p.is_overridden) (marked_in row x.brought.items) ps)

  pub live_pieces : ArePieces modules x.list.items k row cs (unmarked_of row x.brought.items ps)
  live_pieces =
      subst (ArePieces modules x.list.items k row cs) live_is
      (record {
        each = live_each;
        rise = live_rise;
        are = pieces_are modules k x.brought.items row is x.list.items live live_each live_rise live_left live_all ∙ ap (of_key k) s.left;
      })

  pub live_left_over : AreLeft modules x k row (unmarked_of row x.brought.items ps)
  live_left_over = subst (AreLeft modules x k row) live_is (record { each = live_left; all = live_all })
