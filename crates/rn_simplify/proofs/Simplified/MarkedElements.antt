-- A list of which those elements are retained that have a mark.
use Rattle.std.proofs.Common.{◌≡◌, Bool, true, false, cond, List, [], ◌∷◌, length, drop, refl, ap, ◌∙◌, arith}
use Rattle.std.specs.List.{items_where_true}
use Rattle.std.specs.List.Retain.{ReturnsInTurn, IsFiltered}
use Rattle.rn_graph.specs.Graph.{is_marked}
use Rattle.rn_simplify.specs.inside.MarkedElements.{marked_elements}

-- a test that reads the marks one by one, and says `false` where none is left
module _ {X S : Type 0} (R : S → X → Bool → S → Type 0) (marks : S → List Bool) (says : (s : S) (x : X) (b : Bool) (s' : S) → R s x b s' → (b ≡ is_marked (marks s) 0) × (marks s' ≡ drop 1 (marks s))) where
  first_marked : (ms : List Bool) (b : Bool) (x : X) (xs : List X) → b ≡ is_marked ms 0 → cond b (x ∷ marked_elements (drop 1 ms) xs) (marked_elements (drop 1 ms) xs) ≡ marked_elements ms (x ∷ xs)
  first_marked [] b x xs e = ap (λ c. cond c (x ∷ []) []) e
  first_marked (m ∷ ms) b x xs e = ap (λ c. cond c (x ∷ marked_elements ms xs) (marked_elements ms xs)) e

  chosen : (b : Bool) (x : X) (bs : List Bool) (xs : List X) → items_where_true (b ∷ bs) (x ∷ xs) ≡ cond b (x ∷ items_where_true bs xs) (items_where_true bs xs)
  chosen true x bs xs = refl
  chosen false x bs xs = refl

  none_left : (ms : List Bool) → [] ≡ marked_elements {X = X} ms []
  none_left [] = refl
  none_left (m ∷ ms) = refl

  told : (bs : List Bool) (xs : List X) (s q : S) → length bs ≡ length xs → ReturnsInTurn R s bs xs q → items_where_true bs xs ≡ marked_elements (marks s) xs
  told [] [] s q e t = none_left (marks s)
  told [] (x ∷ xs) s q e t = absurd (omega (arith, e))
  told (b ∷ bs) [] s q e t = absurd (omega (arith, e))
  told (b ∷ bs) (x ∷ xs) s q e t =
      let one = says s x b t.0 t.1 in
      let rest = told bs xs t.0 q (omega (arith, e)) t.2 ∙ ap (λ ms. marked_elements ms xs) one.1 in
      chosen b x bs xs ∙ ap (λ ys. cond b (x ∷ ys) ys) rest ∙ first_marked (marks s) b x xs one.0

  pub retained : (s : S) (xs ys : List X) → IsFiltered R s xs ys → ys ≡ marked_elements (marks s) xs
  retained s xs ys k = k.4 ∙ told k.0 xs s k.1 k.2 k.3
