-- The members of a joined list, and the first place of each, piece by piece.
use Rattle.std.proofs.Common.{◌≡◌, ◌≢◌, ℕ, ◌<◌, Bool, true, false, cond, List, [], ◌∷◌, length, get_or, Some, None, Vec, refl, sym, ap, ◌∙◌, ◌+◌, ◌-◌, ◌≤◌, inl, inr, ◌++◌, length-append, set, take, Option, subst, arith}
use Rattle.std.proofs.lemmas.Cmp.{tied_itself}
use Rattle.std.proofs.lemmas.List.{get_or-map, get_or-append-add, get_or-append_right, get_or_append_left, length-set, take_all}
use Rattle.std.specs.declared.alloc.Global.{Global}
use Rattle.rn_graph.specs.Graph.{row}
use Rattle.rn_pattern.specs.Opened.{one_or_node}
use Rattle.rn_pattern.specs.Order.{tree_cmp}
use Rattle.rn_pattern.specs.Tree.{Tree, interleave, choice, trees_of}
use Rattle.rn_pattern.proofs.Matches.StepsKeep.{list_of-trees_of}
use Rattle.rn_pattern.proofs.Ordered.Orders.{tree_same}
use Rattle.rn_pattern.proofs.Ordered.TotalOrder.{tree_cmp_total}
use Rattle.rn_assemble.specs.Firsts.{AreFirsts, joined_members}
use Rattle.rn_assemble.specs.inside.Tied.{AreTied, firsts_of}
use Rattle.std.specs.Prelude.{slice_get, slice_range}
use Rattle.std.specs.List.{AllByRecursion}
use Rattle.std.proofs.lemmas.Bool.{cases_lt}
use Rattle.std.proofs.lemmas.Option.{get_or_from_slice_get, slice_get-get_or, slice_get_within}
use Rattle.rn_assemble.specs.Combine.{bodies}
use Rattle.rn_assemble.specs.Components.{Component, Key, NamedModule}
use Rattle.rn_assemble.specs.declared.reading.key_rows.WrittenComponent as code
use Rattle.rn_assemble.specs.declared.including.pieces.Piece.{Piece}
use Rattle.rn_assemble.specs.declared.including.segments.Segment.{Segment}
use Rattle.rn_assemble.specs.inside.Patterns.{numbers_from}
use Rattle.rn_assemble.specs.inside.Pieces.{ArePieces, IsPiece}
use Rattle.rn_assemble.specs.inside.Segments.{IsFirstLike}
use Rattle.rn_assemble.proofs.Joining.MembersSoFar.{begin_is, count_is, count_numbers, number_at, segment_at}
use Rattle.rn_assemble.proofs.Joining.PieceBodies.{Held, StandAt, all_bodies, bodies_are, bodies_more, held_on, held_set, of_segment, piece_at, segment_bodies, stand_last, stand_on}

node_members : (b : Bool) (ps : List Tree) → joined_members (cond b (interleave (trees_of ps)) (choice (trees_of ps))) ≡ ps
node_members true ps = list_of-trees_of ps
node_members false ps = list_of-trees_of ps

pub members_are : (b : Bool) (ps : List Tree) → length ps ≢ 1 → joined_members (one_or_node (λ ts. cond b (interleave ts) (choice ts)) (trees_of ps)) ≡ ps
members_are b [] n = node_members b []
members_are b (p ∷ []) n = absurd (n refl)
members_are b (p ∷ q ∷ ps) n = node_members b (p ∷ q ∷ ps)

-- the row of a vector that is there
pub row_there : (fs : List (Vec ℕ Global)) (n : ℕ) (v : Vec ℕ Global) → v ≡ get_or fs n v → n < length fs → row (firsts_of fs) n ≡ v.items
row_there fs n v e l = get_or-map (λ (w : Vec ℕ Global). w.items) fs n v [] l ∙ ap (λ (w : Vec ℕ Global). w.items) (sym e)

pub none_tied : (members : List Tree) → AreTied [] members
none_tied members i j p at is = let wrong : None ≡ Some j = at in cc

-- what is tied is the same, and what is the same is tied
pub tied_same : (firsts : List ℕ) (members : List Tree) → AreTied firsts members → AreFirsts firsts members
tied_same firsts members h i j p at is = let r = h i j p at is in (r.0, tree_same (get_or members j p) p r.1)

pub same_tied : (firsts : List ℕ) (members : List Tree) → AreFirsts firsts members → AreTied firsts members
same_tied firsts members h i j p at is = let r = h i j p at is in (r.0, ap (λ q. tree_cmp q p) r.1 ∙ tied_itself tree_cmp_total p)

-- ---- members that stand again

-- what is read before an end is before it
read_front : {X : Type 0} (xs ys : List X) (i : ℕ) (x : X) → i < length xs → slice_get (xs ++ ys) i ≡ Some x → get_or xs i x ≡ x
read_front xs ys i x l e = sym (get_or_append_left xs ys x i l) ∙ get_or_from_slice_get (xs ++ ys) i x x e

read_behind : {X : Type 0} (xs ys : List X) (i : ℕ) (x : X) → length xs ≤ i → slice_get (xs ++ ys) i ≡ Some x → get_or ys (i - length xs) x ≡ x
read_behind xs ys i x l e = sym (get_or-append_right xs ys (length xs) i x refl l) ∙ get_or_from_slice_get (xs ++ ys) i x x e

-- what stands there is read there
stands_at : (us ts : List Tree) (b q : ℕ) (d : Tree) → StandAt us b ts → q < length us → get_or ts (b + q) d ≡ get_or us q d
stands_at us ts b q d h l =
    ap (λ xs. get_or xs (b + q) d) h.are ∙ ap (λ n. get_or (h.front ++ (us ++ h.behind)) (n + q) d) (sym h.place) ∙ get_or-append-add h.front (us ++ h.behind) q d ∙ get_or_append_left us h.behind d q l

-- the members us, which stand at b, stand again at the end: the first places of these are the places there
pub firsts_more : (ts us : List Tree) (firsts : List ℕ) (b : ℕ) → AreFirsts firsts ts → length firsts ≡ length ts → b ≤ length ts → StandAt us b (ts ++ us) → AreFirsts (firsts ++ numbers_from b (length us)) (ts ++ us)
firsts_more ts us firsts b h size low stand i j p at is = elim (cases_lt i (length ts)) [
  | inl earlier ↦
      let first : get_or firsts i j ≡ j = read_front firsts (numbers_from b (length us)) i j (omega (arith, earlier, size)) at in
      let member : get_or ts i p ≡ p = read_front ts us i p earlier is in
      let r = h i j p (slice_get-get_or firsts i j (omega (arith, earlier, size)) ∙ ap Some first) (slice_get-get_or ts i p earlier ∙ ap Some member) in
      (r.0, get_or_append_left ts us p j (omega (arith, r.0, earlier)) ∙ r.1)
  | inr late ↦
      let q = i - length ts in
      let l : q < length us = omega (arith, late, slice_get_within (ts ++ us) i p is, length-append ts us) in
      let first : get_or (numbers_from b (length us)) (i - length firsts) j ≡ j = read_behind firsts (numbers_from b (length us)) i j (omega (arith, late, size)) at in
      let same : i - length firsts ≡ q = ap (λ n. i - n) size in
      let is_there : b + q ≡ j = sym (number_at b (length us) q j l) ∙ ap (λ n. get_or (numbers_from b (length us)) n j) (sym same) ∙ first in
      let member : get_or us q p ≡ p = read_behind ts us i p late is in
      let upto : j ≤ i = omega (arith, is_there, low, late) in
      (upto, ap (λ n. get_or (ts ++ us) n p) (sym is_there) ∙ stands_at us (ts ++ us) b q p stand l ∙ member)
]

module _ (modules : List NamedModule) (list : List Segment) (row : List code.WrittenComponent) (pieces : List Piece) where
  abbrev before : ℕ → List Tree
  before i = all_bodies modules list row (take i pieces)

  -- the first places of the members of the pieces before the index
  pub record Placed (begins : List (Option ℕ)) (firsts : List ℕ) (i : ℕ) : Type 0 where
    pub size : length begins ≡ length list
    pub count : length firsts ≡ length (before i)
    pub are : AreFirsts firsts (before i)
    pub held : Held modules list row begins (before i)

  module _ (each : AllByRecursion (IsPiece list row) pieces) (first : (n : ℕ) (s : Segment) → slice_get list n ≡ Some s → IsFirstLike list n s) (begins : List (Option ℕ)) (i : ℕ) (p d : Piece) (s : Segment) (l : i < length pieces) (is : p ≡ get_or pieces i d) (got : s ≡ get_or list p.segment s) (firsts : List ℕ) (h : Placed begins firsts i) where
    abbrev us : List Tree
    us = segment_bodies modules list row s

    at : slice_get list p.segment ≡ Some s
    at = segment_at modules list row pieces each first begins i p d s l is got

    next_are : before i ++ us ≡ before (i + 1)
    next_are = bodies_more modules list row pieces i p d (before i) us l is refl (sym (of_segment modules list row p s (piece_at list row pieces each i p d l is) at))

    placed_at : (b count : ℕ) (firsts' : List ℕ) → b ≤ length (before i) → StandAt us b (before i ++ us) → count ≡ length us → firsts' ≡ firsts ++ numbers_from b count → Placed (set begins s.first (Some b)) firsts' (i + 1)
    placed_at b count firsts' low stand size more =
        let added : firsts' ≡ firsts ++ numbers_from b (length us) = more ∙ ap (λ n. firsts ++ numbers_from b n) size in
        let next = ap length next_are in
        record {
          size = length-set begins s.first (Some b) ∙ h.size;
          count = ap length added ∙ (let e : length (firsts ++ numbers_from b (length us)) ≡ length (before (i + 1)) = omega (arith, next, h.count, count_numbers b (length us), length-append firsts (numbers_from b (length us)), length-append (before i) us) in e);
          are = subst (λ ts. AreFirsts firsts' ts) next_are (subst (λ fs. AreFirsts fs (before i ++ us)) (sym added) (firsts_more (before i) us firsts b h.are h.count low stand));
          held = subst (λ ts. Held modules list row (set begins s.first (Some b)) ts) next_are
              (held_set modules list row first begins (before i ++ us) p.segment b s at h.size stand (held_on modules list row begins (before i) us h.held));
        }

    -- the piece has the members that begin there
    pub firsts_again : (o : Option ℕ) (b count : ℕ) (firsts' : List ℕ) → o ≡ get_or begins s.first o → o ≡ Some b → count ≡ length (slice_range row p.from p.to) → firsts' ≡ firsts ++ numbers_from b count → Placed (set begins s.first (Some b)) firsts' (i + 1)
    firsts_again o b count firsts' read some size more =
        let stand = h.held p.segment b s at (begin_is modules list row pieces each first begins i p d s l is got o b h.size read some) in
        let low : b ≤ length (before i) = omega (arith, stand.place, ap length stand.are, length-append stand.front (us ++ stand.behind)) in
        placed_at b count firsts' low (stand_on us b (before i) us stand) (size ∙ count_is modules list row pieces each first begins i p d s l is got) more

    -- it has new ones
    pub firsts_on : (b count : ℕ) (firsts' : List ℕ) → b ≡ length firsts → count ≡ length (slice_range row p.from p.to) → firsts' ≡ firsts ++ numbers_from b count → Placed (set begins s.first (Some b)) firsts' (i + 1)
    firsts_on b count firsts' place size more =
        let here : length (before i) ≡ b = sym (place ∙ h.count) in
        placed_at b count firsts' (omega (arith, here)) (subst (λ n. StandAt us n (before i ++ us)) here (stand_last us (before i))) (size ∙ count_is modules list row pieces each first begins i p d s l is got) more

  pub firsts_end : (begins : List (Option ℕ)) (firsts : List ℕ) (i : ℕ) (k : Key) (cs : List Component) → ArePieces modules list k row cs pieces → length pieces ≤ i → Placed begins firsts i → AreTied firsts (bodies k cs)
  firsts_end begins firsts i k cs are past h =
      let all : before i ≡ bodies k cs = ap (all_bodies modules list row) (take_all i pieces past) ∙ sym (bodies_are modules list row k cs pieces are) in
      same_tied firsts (bodies k cs) (subst (AreFirsts firsts) all h.are)
