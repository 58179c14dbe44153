-- The keys that start reaches, sorted by ranks that fall along references outside elements: each comes behind those that it refers to so.
use Rattle.std.proofs.Common.{◌≡◌, ◌⊎◌, inl, inr, ℕ, suc, ◌<◌, ◌≤◌, Bool, cond, nat_eq, List, [], length, take, get_or, Option, Some, None, refl, sym, ◌∙◌, subst, arith, Contains}
use Rattle.std.specs.Prelude.{Decides, bytes_eq}
use Rattle.std.specs.List.Sorted.{IsStrictlySortedBy, IsNonDecreasingBy, IsPermutation}
use Rattle.std.specs.Cmp.Lexicographic.{bytes_decides}
use Rattle.std.proofs.lemmas.Bool.{cases_lt}
use Rattle.std.proofs.lemmas.Cmp.{nat_eq_equiv}
use Rattle.std.proofs.lemmas.List.{get_or-take, get_or_default, length-take-le}
use Rattle.std.proofs.lemmas.List.Sorted.{Contains-permutation, IsPermutation-sym}
use Rattle.std.proofs.lemmas.Map.Keys.{IsDistinct-IsPermutation}
use Rattle.std.proofs.lemmas.Map.Views.{Contains-from_lookup}
use Rattle.rn_text.specs.Texts.{Text, text_cmp}
use Rattle.rn_pattern.specs.Tree.{Tree}
use Rattle.rn_pattern.specs.Matching.{Grammar, definition_of}
use Rattle.rn_pattern.specs.Reached.{RefersTo, IsReached, by_start, by_definition}
use Rattle.rn_pattern.specs.References.{RefersOutside}
use Rattle.rn_graph.specs.Graph.{row, is_marked, Reached, along}
use Rattle.rn_graph.specs.Ranks.{Leads, by_edge, and_edge, HasNoLoop, IsRanking, rank_of}
use Rattle.rn_graph.proofs.Graphs.FirstLoop.{source_within}
use Rattle.rn_assemble.specs.Components.{Component, name_key}
use Rattle.rn_assemble.specs.Combine.{joined_grammar, joined_pattern}
use Rattle.rn_assemble.specs.inside.Keyed.{IsNameNumber}
use Rattle.rn_assemble.specs.inside.Referred.{AreAllReferences}
use Rattle.rn_assemble.specs.inside.ReferenceOrder.{ArePlaces, IsOrderBy, IsReferenceOrder}
use Rattle.rn_assemble.proofs.Referring.KeyNumbers.{same_number}
use Rattle.rn_assemble.proofs.Referring.NumberedReferences.{found, reached, inner, edge_kept}

-- a name that is reached is referred to, by the start or by a definition
pub reached_refers : (G : Grammar) (x : Text) → IsReached G x → RefersTo x G.start ⊎ ((y : Text) × (p : Tree) × Contains G.definitions (y, p) × RefersTo x p)
reached_refers G x (by_start h) = inl h
reached_refers G x (by_definition {y = y} p r e h) = inr (y, p, Contains-from_lookup {eq = bytes_eq} (λ a b k. (bytes_decides a b).0 k) y p G.definitions e, h)

-- the element at a place before i, and back
pub taken_at : (xs : List ℕ) (i j v : ℕ) → i ≤ length xs → j < i → get_or xs j v ≡ v → Contains (take i xs) v
taken_at xs i j v l h e = (j, omega (arith, length-take-le i xs l, h), get_or-take i xs j v h ∙ e)

pub before_taken : (xs : List ℕ) (i v : ℕ) → i ≤ length xs → Contains (take i xs) v → (j : ℕ) × (j < i) × (get_or xs j v ≡ v)
before_taken xs i v l (j, h, e) = let m : j < i = omega (arith, length-take-le i xs l, h) in (j, m, sym (get_or-take i xs j v m) ∙ e)

-- the places that have a mark, sorted
pub places_in_order : (marks : List Bool) (rank : ℕ → ℕ) (places order : List ℕ) → ArePlaces marks places → IsPermutation places order → IsNonDecreasingBy rank order → IsOrderBy marks rank order
places_in_order marks rank places order pl perm up = record {
  places = record {
    listed = λ k m. Contains-permutation places order k perm (pl.listed k m);
    only = λ k c. pl.only k (Contains-permutation order places k (IsPermutation-sym places order perm) c);
    once = IsDistinct-IsPermutation nat_eq nat_eq_equiv.symm places order perm pl.once;
  };
  rises = up;
}

-- ranks fall along edges, so no node comes back to itself
module _ (rows : List (List ℕ)) (ranks : List ℕ) (ranking : IsRanking rows ranks) where
  rank_falls : {x y : ℕ} → Leads rows x y → rank_of ranks y < rank_of ranks x
  rank_falls (by_edge {x = x} {y = y} c) = ranking.falls x y (source_within rows x y c) c
  rank_falls (and_edge {x = x} {y = y} {z = z} l c) = let h = rank_falls l in let k = ranking.falls y z (source_within rows y z c) c in omega (arith, h, k)

  pub ranked_no_loop : HasNoLoop rows
  ranked_no_loop x l = let h = rank_falls l in omega (arith, h)

-- ---- facts of calls, at the values that those have

pub marked_from : (all : List (List ℕ)) (first : List ℕ) (seen : List Bool) → first ≡ row all 0 → ((n : ℕ) → Decides (is_marked seen n) (Reached all first n)) → (n : ℕ) → Decides (is_marked seen n) (Reached all (row all 0) n)
marked_from all first seen e h n = subst (λ xs. Decides (is_marked seen n) (Reached all xs n)) e (h n)

pub order_shown : (shown seen : List Bool) (given ranks order : List ℕ) → shown ≡ seen → given ≡ ranks → IsOrderBy shown (rank_of given) order → IsOrderBy seen (rank_of ranks) order
order_shown shown seen given ranks order e f h = subst (λ rs. IsOrderBy seen (rank_of rs) order) f (subst (λ ms. IsOrderBy ms (rank_of given) order) e h)

-- ---- the order of keys

module _ (names : List Text) (sorted : IsStrictlySortedBy text_cmp names) (cs : List Component) (all outer : List (List ℕ)) (refs : AreAllReferences names cs all outer) where
  reached_number : (x : Text) (k : ℕ) → IsReached (joined_grammar cs) x → IsNameNumber names x k → Reached all (row all 0) k
  reached_number x k r i = let n = found names sorted cs all outer refs x r in subst (Reached all (row all 0)) (same_number names sorted x n.0 k n.1 i) n.2

  defined_at : (x : Text) (o : Option Tree) → definition_of (joined_grammar cs) x ≡ o → IsReached (joined_grammar cs) x → (p : Tree) × (definition_of (joined_grammar cs) x ≡ Some p)
  defined_at x None e r = absurd (refs.defined x (reached_refers (joined_grammar cs) x r, e))
  defined_at x (Some p) e r = (p, e)

  module _ (seen : List Bool) (marked : (n : ℕ) → Decides (is_marked seen n) (Reached all (row all 0) n)) (kept : List (List ℕ)) (rows : (n : ℕ) → row kept n ≡ cond (is_marked seen n) (row outer n) []) (ranks : List ℕ) (ranking : IsRanking kept ranks) (order : List ℕ) (by_rank : IsOrderBy seen (rank_of ranks) order) where
    listed_number : (k : ℕ) → Reached all (row all 0) k → Contains order k
    listed_number k r = by_rank.places.listed k ((marked k).1 r)

    number_listed : (k : ℕ) → Contains order k → Reached all (row all 0) k
    number_listed k c = (marked k).0 (by_rank.places.only k c)

    edge : (a k : ℕ) (x y : Text) → IsNameNumber names x a → RefersOutside y (joined_pattern cs (name_key x)) → IsNameNumber names y k → Contains (row outer a) k
    edge a k x y n r m =
        let w = refs.outside.all a y n.within (subst (λ z. RefersOutside y (joined_pattern cs z)) (sym n.is) r) in
        subst (Contains (row outer a)) (same_number names sorted y w.0 k w.1 m) w.2

    behind_number : (i k : ℕ) → i < length order → get_or order i 0 < suc (length names) → Contains (row outer (get_or order i 0)) k → Contains (take i order) k
    behind_number i k l h c =
        let a = get_or order i 0 in
        let r = number_listed a (i, l, get_or_default order i a 0 l) in
        let e = edge_kept names sorted cs all outer refs seen marked kept rows a k r c in
        let less = ranking.falls a k (source_within kept a k e) e in
        let (j, within, is) = listed_number k (along r (inner names sorted cs all outer refs a k h c)) in
        let here : get_or order j 0 ≡ k = get_or_default order j 0 k within ∙ is in
        elim (cases_lt j i) [
          | inl before ↦ taken_at order i j k (omega (arith, l)) before is
          | inr later ↦ let far = by_rank.rises i j 0 later within in absurd (omega (arith, less, subst (λ z. rank_of ranks a ≤ rank_of ranks z) here far))
        ]

    pub reference_order : IsReferenceOrder names cs order
    reference_order = record {
      reached = λ k c. reached names sorted cs all outer refs k (number_listed k c);
      listed = λ x k r n. listed_number k (reached_number x k r n);
      defined = λ x r. defined_at x (definition_of (joined_grammar cs) x) refl r;
      once = by_rank.places.once;
      behind = λ i k x y l n r m. behind_number i k l n.within (edge (get_or order i 0) k x y n r m);
    }
