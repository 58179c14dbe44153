-- Two lists compared one by one, along what their entries stand for.
use Rattle.std.proofs.Common.{◌≡◌, ◌<◌, ◌+◌, ℕ, List, [], ◌∷◌, map, length, drop, get_or, refl, sym, ap, ◌∙◌, arith, min, Ordering, Less, Equal, Greater, nat_cmp}
use Rattle.std.proofs.lemmas.List.{drop_all, drop_more, length-drop}
use Rattle.rn_pattern.proofs.Ordered.Orders.{then-Equal}
use Rattle.std.specs.Cmp.{nat_cmp_is}
use Rattle.std.specs.Ordering.{ordering_then}
use Rattle.std.specs.Cmp.Lexicographic.{slice_cmp}
use Rattle.rn_pattern.specs.Tree.{NameTree, Tree, trees_of, name_trees_of}
use Rattle.rn_pattern.specs.Order.{name_cmp, names_cmp, tree_cmp, trees_cmp}

pub names_cmp-name_trees_of : (ps qs : List NameTree) → names_cmp (name_trees_of ps) (name_trees_of qs) ≡ slice_cmp name_cmp ps qs
names_cmp-name_trees_of [] [] = refl
names_cmp-name_trees_of [] (q ∷ qs) = refl
names_cmp-name_trees_of (p ∷ ps) [] = refl
names_cmp-name_trees_of (p ∷ ps) (q ∷ qs) = ap (ordering_then (name_cmp p q)) (names_cmp-name_trees_of ps qs)

pub trees_cmp-trees_of : (ps qs : List Tree) → trees_cmp (trees_of ps) (trees_of qs) ≡ slice_cmp tree_cmp ps qs
trees_cmp-trees_of [] [] = refl
trees_cmp-trees_of [] (q ∷ qs) = refl
trees_cmp-trees_of (p ∷ ps) [] = refl
trees_cmp-trees_of (p ∷ ps) (q ∷ qs) = ap (ordering_then (tree_cmp p q)) (trees_cmp-trees_of ps qs)

pub then_settled : (o m : Ordering) → ¬ (o ≡ Equal) → ordering_then o m ≡ o
then_settled Less m h = refl
then_settled Equal m h = absurd (h refl)
then_settled Greater m h = refl

pub then_tied : (o m : Ordering) → o ≡ Equal → ordering_then o m ≡ m
then_tied o m e = ap (λ t. ordering_then t m) e

module _ {X Y : Type 0} (R : X → X → Ordering) (at : Y → X) (xs ys : List Y) (k : ℕ) where
  abbrev pub rest_cmp : Ordering
  rest_cmp = slice_cmp R (map at (drop k xs)) (map at (drop k ys))

  pub rest_step : (d e : Y) → k < length xs → k < length ys → rest_cmp ≡ ordering_then (R (at (get_or xs k d)) (at (get_or ys k e))) (slice_cmp R (map at (drop (k + 1) xs)) (map at (drop (k + 1) ys)))
  rest_step d e l g = λ i. slice_cmp R (map at (drop_more xs k d l i)) (map at (drop_more ys k e g i))

  ended_by : (us vs : List Y) (m n : ℕ) → m ≡ length us + k → n ≡ length vs + k → k ≡ min m n → slice_cmp R (map at us) (map at vs) ≡ nat_cmp m n
  ended_by [] [] m n e f g = nat_cmp_is m n Equal (omega arith)
  ended_by [] (v ∷ vs) m n e f g = nat_cmp_is m n Less (omega arith)
  ended_by (u ∷ us) [] m n e f g = nat_cmp_is m n Greater (omega arith)
  ended_by (u ∷ us) (v ∷ vs) m n e f g = absurd (omega arith)

  -- where one list ends, their lengths decide
  pub rest_ended : k ≡ min (length xs) (length ys) → rest_cmp ≡ nat_cmp (length xs) (length ys)
  rest_ended e =
      ended_by (drop k xs) (drop k ys) (length xs) (length ys) (omega (arith, e, length-drop k xs)) (omega (arith, e, length-drop k ys)) e

  pub rest_settled : (d e : Y) (r : Ordering) → k < length xs → k < length ys → r ≡ R (at (get_or xs k d)) (at (get_or ys k e)) → ¬ (r ≡ Equal) → rest_cmp ≡ r
  rest_settled d e r l g is h = rest_step d e l g ∙ then_settled (R (at (get_or xs k d)) (at (get_or ys k e))) _ (λ f. h (is ∙ f)) ∙ sym is

  -- where both lists end behind it, this entry decides
  pub rest_last : (d e : Y) → k + 1 ≡ length xs → k + 1 ≡ length ys → rest_cmp ≡ R (at (get_or xs k d)) (at (get_or ys k e))
  rest_last d e l g =
      rest_step d e (omega (arith, l)) (omega (arith, g))
      ∙ (λ i. ordering_then (R (at (get_or xs k d)) (at (get_or ys k e))) (slice_cmp R (map at (drop_all (k + 1) xs (omega (arith, l)) i)) (map at (drop_all (k + 1) ys (omega (arith, g)) i))))
      ∙ then-Equal (R (at (get_or xs k d)) (at (get_or ys k e)))

  pub rest_tied : (d e : Y) (r : Ordering) → k < length xs → k < length ys → r ≡ R (at (get_or xs k d)) (at (get_or ys k e)) → r ≡ Equal → rest_cmp ≡ slice_cmp R (map at (drop (k + 1) xs)) (map at (drop (k + 1) ys))
  rest_tied d e r l g is h = rest_step d e l g ∙ then_tied (R (at (get_or xs k d)) (at (get_or ys k e))) _ (sym is ∙ h)
