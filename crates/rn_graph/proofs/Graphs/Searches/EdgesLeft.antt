-- How many edges of each node are left, and the next of them.
use Rattle.std.proofs.Common.{◌≡◌, ℕ, ◌+◌, ◌-◌, ◌<◌, ◌≤◌, ◌∙◌, List, [], ◌∷◌, ◌++◌, length, get_or, take, sym, ap, subst, arith, map}
use Rattle.std.specs.Prelude.{Contains}
use Rattle.std.proofs.lemmas.List.Elements.{Contains-get_or}
use Rattle.std.proofs.lemmas.List.{map-append, take_more, take_all}
use Rattle.rn_graph.specs.Graph.{row, IsGraph}
use Rattle.rn_graph.specs.inside.Searching.{IsNextNode}

pub length_more : (rows : List (List ℕ)) (k : ℕ) (ls ls' xs : List ℕ) → k < length rows → ls ≡ map (λ (r : List ℕ). length r) (take k rows) → xs ≡ row rows k → ls' ≡ ls ++ length xs ∷ [] → ls' ≡ map (λ (r : List ℕ). length r) (take (k + 1) rows)
length_more rows k ls ls' xs h e r q =
    q ∙ ap (λ (zs : List ℕ). zs ++ length xs ∷ []) e ∙ ap (λ (ys : List ℕ). map (λ (z : List ℕ). length z) (take k rows) ++ length ys ∷ []) r
    ∙ sym (map-append (λ (z : List ℕ). length z) (take k rows) (row rows k ∷ [])) ∙ ap (λ (rs : List (List ℕ)). map (λ (z : List ℕ). length z) rs) (sym (take_more rows k [] h))

pub lengths_all : (rows : List (List ℕ)) (k : ℕ) (ls : List ℕ) → length rows ≤ k → ls ≡ map (λ (r : List ℕ). length r) (take k rows) → ls ≡ map (λ (r : List ℕ). length r) rows
lengths_all rows k ls h e = e ∙ ap (λ (rs : List (List ℕ)). map (λ (z : List ℕ). length z) rs) (take_all k rows h)

pub next_is : (rows : List (List ℕ)) (left xs : List ℕ) (x l : ℕ) → IsGraph rows → l ≡ get_or left x 0 → (l ≡ 0 → ⊥) → xs ≡ row rows x → get_or left x 0 ≤ length (row rows x) → IsNextNode rows left x (get_or xs (l - 1) 0)
next_is rows left xs x l g e n r w =
    let is : get_or xs (l - 1) 0 ≡ get_or (row rows x) (get_or left x 0 - 1) 0 = (λ i. get_or (r i) (e i - 1) 0) in
    let here = Contains-get_or (row rows x) (get_or left x 0 - 1) 0 (omega (arith, e, n, w)) in
    let edge : Contains (row rows x) (get_or xs (l - 1) 0) = subst (λ (y : ℕ). Contains (row rows x) y) (sym is) here in
    record { some_left = omega (arith, e, n); is = is; edge = edge; within = g x (get_or xs (l - 1) 0) edge }
