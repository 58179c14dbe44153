-- Overrides of what isn't there, as the row and the pieces of a key tell them.
use Rattle.std.proofs.Common.{◌≡◌, ℕ, ◌+◌, ◌<◌, ◌≤◌, Bool, true, false, ◌||◌, cond, List, [], ◌∷◌, ◌++◌, length, get_or, take, map, filter, Option, Some, None, refl, sym, ap, ◌∙◌, subst, ⊎_elim, arith, min, Contains}
use Rattle.std.specs.Prelude.{slice_range}
use Rattle.std.specs.List.{list_any}
use Rattle.std.specs.Option.{option_map_or}
use Rattle.std.proofs.lemmas.Bool.{cases_lt, false≢true, false_from_ne_true}
use Rattle.std.proofs.lemmas.List.{take_more}
use Rattle.std.proofs.lemmas.List.Elements.{Contains-append_left, Contains-push, Contains-push_cases}
use Rattle.std.proofs.lemmas.List.Folds.{list_any_at}
use Rattle.std.proofs.lemmas.Option.{get_or_from_slice_get, slice_get-get_or}
use Rattle.rn_pattern.proofs.Ordered.InOrder.{contained_each, contains_front}
use Rattle.rn_assemble.specs.Components.{Component, Key, NamedModule, has_key, same_key}
use Rattle.rn_assemble.specs.declared.reading.key_rows.WrittenComponent as code
use Rattle.rn_assemble.specs.declared.including.pieces.Piece.{Piece}
use Rattle.rn_assemble.specs.declared.including.segments.FollowedInclude.{FollowedInclude}
use Rattle.rn_assemble.specs.declared.reading.named_modules.ModuleId.{ModuleId}
use Rattle.rn_assemble.specs.declared.including.segments.Segment.{Segment}
use Rattle.rn_assemble.specs.declared.including.segments.Segments.{Segments}
use Rattle.rn_assemble.specs.inside.Contained.{WrittenComponent}
use Rattle.rn_assemble.specs.inside.ContentsOf.{written_at}
use Rattle.rn_assemble.specs.inside.Pieces.{AreAllPieces, IsLeastLacking, IsPiece, component_in, overrides_in, parts_in}
use Rattle.rn_assemble.specs.inside.Rows.{IsRowOf, placed_view}
use Rattle.rn_assemble.specs.inside.Runs.{ArePiecesIn, IsLackByPieces}
use Rattle.rn_assemble.specs.inside.Segments.{IsLackOf, overrides, segment_components}
use Rattle.rn_assemble.proofs.KeyFaults.LeastLacks.{any_contained}
use Rattle.rn_assemble.proofs.KeyPieces.LeftPieces.{segment_parts}
use Rattle.rn_assemble.proofs.KeyPieces.RowFacts.{element_at}
use Rattle.rn_assemble.proofs.KeyPieces.RowParts.{is_within, row_parts}
use Rattle.rn_assemble.proofs.Joining.PieceBodies.{part_size}
use Rattle.rn_assemble.proofs.Referring.FoundReferences.{range_contained, range_contains}
use Rattle.rn_assemble.proofs.Referring.ListMembers.{map_contained}

-- whether the list has an element
abbrev has_some : {X : Type 0} → List X → Bool
has_some [] = false
has_some (x ∷ xs) = true

kept_at : {X : Type 0} (test : X → Bool) (x : X) (xs : List X) (b : Bool) → list_any test xs ≡ has_some (filter test xs) → (b || list_any test xs) ≡ has_some (cond b (x ∷ filter test xs) (filter test xs))
kept_at test x xs true h = refl
kept_at test x xs false h = h

any_kept : {X : Type 0} (test : X → Bool) (xs : List X) → list_any test xs ≡ has_some (filter test xs)
any_kept test [] = refl
any_kept test (x ∷ xs) = kept_at test x xs (test x) (any_kept test xs)

some_mapped : {X Y : Type 0} (f : X → Y) (xs : List X) → has_some (map f xs) ≡ has_some xs
some_mapped f [] = refl
some_mapped f (x ∷ xs) = refl

some_first : {X : Type 0} (xs : List X) → has_some xs ≡ true → (x : X) × Contains xs x
some_first [] h = absurd (false≢true h)
some_first (x ∷ xs) h = (x, contains_front x xs)

some_there : {X : Type 0} (xs : List X) → 0 < length xs → has_some xs ≡ true
some_there [] l = absurd (omega (arith, l))
some_there (x ∷ xs) l = refl

any_contains : {X : Type 0} (test : X → Bool) (xs : List X) (x : X) → Contains xs x → test x ≡ true → list_any test xs ≡ true
any_contains test xs x c t = list_any_at test xs c.0 x c.1 (ap test c.2 ∙ t)

-- ---- what the row and the pieces tell

module _ (modules : List NamedModule) (k : Key) (row : List code.WrittenComponent) (is : IsRowOf modules k row) where
  -- an include overrides the key where some component of the row is one of its own
  pub overrides_same : (b : FollowedInclude) → overrides_in row b ≡ overrides modules k b
  overrides_same b =
      any_kept (is_within b.module.0 b.own_from b.own_to) row
      ∙ sym (some_mapped (λ (w : code.WrittenComponent). (placed_view k w).component) (filter (is_within b.module.0 b.own_from b.own_to) row))
      ∙ sym (ap has_some (row_parts modules k row is b.module.0 b.own_from b.own_to))
      ∙ sym (any_kept (λ (w : WrittenComponent). same_key k w.key) (slice_range (written_at modules b.module.0) b.own_from b.own_to))

  segment_has : (s : Segment) → has_key k (segment_components modules s) ≡ has_some (parts_in s row)
  segment_has s =
      any_kept (λ (c : Component). same_key k c.key) (segment_components modules s)
      ∙ ap has_some (segment_parts modules k row is s)
      ∙ some_mapped (component_in modules k s) (parts_in s row)

  module _ (list : List Segment) (pieces : List Piece) (all : AreAllPieces list row pieces) (b : FollowedInclude) (o : b.from ≤ b.to) (w : b.to ≤ length list) where
    abbrev brought : List Segment
    brought = slice_range list b.from b.to

    pub lacks_pieces : IsLackOf modules list b k → IsLackByPieces row pieces b
    lacks_pieces h = record {
      overrides = overrides_same b ∙ h.0;
      none = λ p c low high.
          let i = contained_each (IsPiece list row) pieces all.each p c in
          let (s, at) = element_at list p.segment i.segment_within in
          let some = ap has_some (sym (i.parts s at)) ∙ some_there (slice_range row p.from p.to) (omega (arith, part_size list row p i, i.ordered)) in
          let found = any_contains (λ (t : Segment). has_key k (segment_components modules t)) brought s (range_contains list b.from b.to w p.segment s at low high) (segment_has s ∙ some) in
          false≢true (sym h.1 ∙ found);
    }

    pub pieces_lack : IsLackByPieces row pieces b → IsLackOf modules list b k
    pieces_lack h = (
      sym (overrides_same b) ∙ h.overrides,
      false_from_ne_true _ (λ t.
          let (s, there, has) = any_contained (λ (s : Segment). has_key k (segment_components modules s)) brought t in
          let (n, low, high, at) = range_contained list b.from b.to w o s there in
          let (v, part) = some_first (parts_in s row) (sym (segment_has s) ∙ has) in
          let (p, c, e) = map_contained (λ (q : Piece). q.segment) pieces n (all.all n s v at part) in
          h.none p c (omega (arith, e, low)) (omega (arith, e, high))),
    )

-- an include brought in none of the pieces, or some
module _ (pieces : List Piece) (b : FollowedInclude) (from to : ℕ) (h : ArePiecesIn pieces b from to) where
  pub none_inside : from ≡ to → (p : Piece) → Contains pieces p → b.from ≤ p.segment → p.segment < b.to → ⊥
  none_inside e p c low high =
      let i = (h.are c.0 p (slice_get-get_or pieces c.0 p c.1 ∙ ap Some c.2)).1 (low, high) in
      omega (arith, e, i.0, i.1)

  pub some_inside : (from ≡ to → ⊥) → ((p : Piece) → Contains pieces p → b.from ≤ p.segment → p.segment < b.to → ⊥) → ⊥
  some_inside ne none = ⊎_elim
      (λ l.
      let (p, at) = element_at pieces from (omega (arith, l, h.within)) in
      let i = (h.are from p at).0 (omega arith, l) in
      none p (from, omega (arith, l, h.within), get_or_from_slice_get pieces from p p at) i.0 i.1)
      (λ l. ne (omega (arith, l, h.ordered)))
      (cases_lt from to)

-- ---- the least module of which something holds

-- the least module of an include among these of which P holds, if there is one
abbrev pub IsLeastOf : (FollowedInclude → Type 0) → List FollowedInclude → Option ModuleId → Type 0
IsLeastOf P bs None = (b : FollowedInclude) → Contains bs b → ¬ P b
IsLeastOf P bs (Some m) = ((b : FollowedInclude) × Contains bs b × (b.module.0 ≡ m.0) × P b) × ((b : FollowedInclude) → Contains bs b → P b → m.0 ≤ b.module.0)

module _ (P : FollowedInclude → Type 0) where
  module _ (bs : List FollowedInclude) (b : FollowedInclude) where
    pub least_passed : (o : Option ModuleId) → IsLeastOf P bs o → ¬ P b → IsLeastOf P (bs ++ b ∷ []) o
    least_passed None h n = λ d c p. ⊎_elim (λ k. h d k p) (λ e. n (subst P (sym e) p)) (Contains-push_cases bs b d c)
    least_passed (Some m) h n = (
      (h.0.0, Contains-append_left bs (b ∷ []) h.0.0 h.0.1, h.0.2, h.0.3),
      λ d c p. ⊎_elim (λ k. h.1 d k p) (λ e. absurd (n (subst P (sym e) p))) (Contains-push_cases bs b d c),
    )

    pub least_met : (o : Option ModuleId) (m : ModuleId) → IsLeastOf P bs o → P b → m.0 ≡ option_map_or (λ (n : ModuleId). min n.0 b.module.0) o b.module.0 → IsLeastOf P (bs ++ b ∷ []) (Some m)
    least_met None m h p e = (
      (b, Contains-push bs b, sym e, p),
      λ d c q. ⊎_elim (λ k. absurd (h d k q)) (λ s. let same = ap (λ (v : FollowedInclude). v.module.0) s in omega (arith, e, same)) (Contains-push_cases bs b d c),
    )
    least_met (Some n) m h p e =
        let below : (d : FollowedInclude) → Contains (bs ++ b ∷ []) d → P d → m.0 ≤ d.module.0 =
        λ d c q. ⊎_elim (λ k. let l = h.1 d k q in omega (arith, e, l)) (λ s. let same = ap (λ (v : FollowedInclude). v.module.0) s in omega (arith, e, same)) (Contains-push_cases bs b d c) in
        ⊎_elim
        (λ l. let is : b.module.0 ≡ m.0 = omega (arith, e, l) in ((b, Contains-push bs b, is, p), below))
        (λ l. let is : h.0.0.module.0 ≡ m.0 = omega (arith, e, l, h.0.2) in ((h.0.0, Contains-append_left bs (b ∷ []) h.0.0 h.0.1, is, h.0.3), below))
        (cases_lt b.module.0 n.0)

-- where P is to lack the key
pub least_lacking : (modules : List NamedModule) (x : Segments) (k : Key) (P : FollowedInclude → Type 0) → ((b : FollowedInclude) → Contains x.brought.items b → P b → IsLackOf modules x.list.items b k) → ((b : FollowedInclude) → Contains x.brought.items b → IsLackOf modules x.list.items b k → P b)
    → (o : Option ModuleId) → IsLeastOf P x.brought.items o → IsLeastLacking modules x k o
least_lacking modules x k P f g None h = λ b c l. h b c (g b c l)
least_lacking modules x k P f g (Some m) h = ((h.0.0, h.0.1, h.0.2, f h.0.0 h.0.1 h.0.3), λ b c l. h.1 b c (g b c l))

-- the same, for the elements of a list up to an index
module _ (P : FollowedInclude → Type 0) (bs : List FollowedInclude) (i : ℕ) (d : FollowedInclude) (l : i < length bs) (o : Option ModuleId) (h : IsLeastOf P (take i bs) o) where
  pub passed_at : ¬ P (get_or bs i d) → IsLeastOf P (take (i + 1) bs) o
  passed_at n = subst (λ cs. IsLeastOf P cs o) (sym (take_more bs i d l)) (least_passed P (take i bs) (get_or bs i d) o h n)

  pub met_at : (m : ModuleId) → P (get_or bs i d) → m.0 ≡ option_map_or (λ (n : ModuleId). min n.0 (get_or bs i d).module.0) o (get_or bs i d).module.0 → IsLeastOf P (take (i + 1) bs) (Some m)
  met_at m p e = subst (λ cs. IsLeastOf P cs (Some m)) (sym (take_more bs i d l)) (least_met P (take i bs) (get_or bs i d) o m h p e)
