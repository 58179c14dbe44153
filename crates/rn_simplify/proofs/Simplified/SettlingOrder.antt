-- The order in which definitions can be settled: what it holds, and the ranks of names by it.
use Rattle.std.proofs.Common.{◌≡◌, ◌<◌, ◌≤◌, ℕ, zero, suc, Bool, true, false, cond, ◌||◌, nat_eq, List, [], ◌∷◌, length, take, get_or, Option, Some, None, refl, sym, ap, ◌∙◌, subst, arith}
use Rattle.std.specs.Prelude.{Contains}
use Rattle.std.specs.Option.{option_map_or}
use Rattle.std.proofs.lemmas.Bool.{false≢true}
use Rattle.std.proofs.lemmas.Bool.Decides.{Decides-eqb}
use Rattle.std.proofs.lemmas.List.{get_or_default}
use Rattle.std.proofs.lemmas.Map.Keys.{IsDistinct-from_apart}
use Rattle.std.proofs.lemmas.Map.Steps.{length-le_from_distinct_below}
use Rattle.std.proofs.lemmas.Map.Views.{Contains-from_any}
use Rattle.rn_graph.specs.Graph.{AllBelow}
use Rattle.rn_pattern.specs.Matching.{Grammar, definition_of}
use Rattle.rn_pattern.specs.Reached.{IsReached, by_definition}
use Rattle.rn_pattern.specs.References.{RefersOutside}
use Rattle.rn_pattern.specs.Tree.{Tree}
use Rattle.rn_text.specs.Texts.{Text}
use Rattle.rn_assemble.specs.SettlingOrder.{IsSettlingOrder, holds, number_of}
use Rattle.rn_assemble.specs.WellFormed.{IsWellFormed}
use Rattle.rn_assemble.proofs.Referring.DefinitionNumbers.{number_some}
use Rattle.rn_assemble.proofs.Referring.JoinedReferences.{outside_anywhere}
use Rattle.rn_assemble.proofs.Referring.KeyOrders.{before_taken, reached_refers}
use Rattle.rn_assemble.proofs.Referring.MarkedPlaces.{different}
use Rattle.rn_simplify.specs.Settling.{AreRanks}
use Rattle.rn_simplify.specs.inside.SettlingOrder.{IsInOrder}

held_in : (ns : List ℕ) (k : ℕ) → holds ns k ≡ true → Contains ns k
held_in ns k h = Contains-from_any (λ x y. (Decides-eqb x y).0) k ns h

-- the place of a number among others
abbrev place_in : List ℕ → ℕ → ℕ
place_in [] k = 0
place_in (n ∷ ns) k = cond (nat_eq k n) 0 (suc (place_in ns k))

-- it is that of an element, and before i where the first i hold the number
first_place : (b : Bool) (n k m i : ℕ) → nat_eq k n ≡ b → (b ≡ false → m < i) → cond b 0 (suc m) < suc i
first_place true n k m i e f = omega arith
first_place false n k m i e f = let l = f refl in omega (arith, l)

other_held : (b r : Bool) → (b || r) ≡ true → b ≡ false → r ≡ true
other_held true r h e = absurd (false≢true (sym e))
other_held false r h e = h

place_before : (ns : List ℕ) (i k : ℕ) → holds (take i ns) k ≡ true → place_in ns k < i
place_before ns zero k h = absurd (false≢true h)
place_before [] (suc i) k h = absurd (false≢true h)
place_before (n ∷ ns) (suc i) k h = first_place (nat_eq k n) n k (place_in ns k) i refl (λ e. place_before ns i k (other_held (nat_eq k n) (holds (take i ns) k) h e))

-- what stands at the place of a number that is held
record IsPlaced (ns : List ℕ) (k : ℕ) : Type 0 where
  within : place_in ns k < length ns
  is : get_or ns (place_in ns k) 0 ≡ k

placed_at : (b : Bool) (n k : ℕ) (ns : List ℕ) → nat_eq k n ≡ b → (b ≡ false → IsPlaced ns k) → (cond b 0 (suc (place_in ns k)) < length (n ∷ ns)) × (get_or (n ∷ ns) (cond b 0 (suc (place_in ns k))) 0 ≡ k)
placed_at true n k ns e f = (omega arith, sym ((Decides-eqb k n).0 e))
placed_at false n k ns e f = let p = f refl in let l = p.within in (omega (arith, l), p.is)

placed : (ns : List ℕ) (k : ℕ) → holds ns k ≡ true → IsPlaced ns k
placed [] k h = absurd (false≢true h)
placed (n ∷ ns) k h = let p = placed_at (nat_eq k n) n k ns refl (λ e. placed ns k (other_held (nat_eq k n) (holds ns k) h e)) in record { within = p.0; is = p.1 }

module _ (G : Grammar) (order : List ℕ) (o : IsSettlingOrder G order) where
  abbrev ds : List (Text × Tree)
  ds = G.definitions

  pub all_below : AllBelow (length ds) order
  all_below k (i, l, e) = subst (λ n. n < length ds) (get_or_default order i 0 k l ∙ e) (o.within i l)

  pub in_order : IsInOrder ds order
  in_order = record {
    once = λ i l c. let b = before_taken order i (get_or order i 0) (omega (arith, l)) c in
        o.once b.0 i b.1 l (get_or_default order b.0 0 (get_or order i 0) (let m = b.1 in omega (arith, m, l)) ∙ b.2);
    behind = λ i k x y p l e d r f. held_in (take i order) k (o.behind i k x y p l e d r f);
  }

  pub listed : (x : Text) (k : ℕ) → IsReached G x → number_of ds x ≡ Some k → Contains order k
  listed x k r e = held_in order k (o.listed x k r e)

  -- ---- ranks

  pub rank : Text → ℕ
  rank x = option_map_or (place_in order) (number_of ds x) 0

  rank_is : (x : Text) (k : ℕ) → number_of ds x ≡ Some k → rank x ≡ place_in order k
  unfolding rank
  rank_is x k e = ap (λ n. option_map_or (place_in order) n 0) e

  no_longer : length order ≤ length ds
  no_longer = length-le_from_distinct_below order (length ds)
      (IsDistinct-from_apart nat_eq order (λ i j d l m. different (nat_eq (get_or order i d) (get_or order j d)) (get_or order i d) (get_or order j d) refl
      (λ e. o.once i j l m (get_or_default order i 0 d (omega (arith, l, m)) ∙ e ∙ get_or_default order j d 0 m))))
      (λ q h. all_below q (held_in order q h))

  module _ (w : IsWellFormed G) where
    number_at : (x : Text) (q : Option Tree) → definition_of G x ≡ q → IsReached G x → (k : ℕ) × (number_of ds x ≡ Some k)
    number_at x None e r = absurd (w.defined x (reached_refers G x r, e))
    number_at x (Some p) e r = number_some ds x p e

    numbered : (x : Text) → IsReached G x → (k : ℕ) × (number_of ds x ≡ Some k)
    numbered x r = number_at x (definition_of G x) refl r

    falls : (x y : Text) (p : Tree) → IsReached G x → definition_of G x ≡ Some p → RefersOutside y p → rank y < rank x
    falls x y p r e h =
        let a = number_some ds x p e in
        let b = numbered y (by_definition p r e (outside_anywhere y p h)) in
        let here = placed order a.0 (o.listed x a.0 r a.1) in
        let less = place_before order (place_in order a.0) b.0 (o.behind (place_in order a.0) b.0 x y p here.within (a.1 ∙ ap Some (sym here.is)) e h b.1) in
        omega (arith, less, rank_is x a.0 a.1, rank_is y b.0 b.1)

    below : (x : Text) → IsReached G x → rank x < length ds
    below x r =
        let a = numbered x r in
        let here = placed order a.0 (o.listed x a.0 r a.1) in
        let l = here.within in
        omega (arith, l, no_longer, rank_is x a.0 a.1)

    pub ranks : AreRanks G rank
    ranks = record { falls = falls; below = below }
