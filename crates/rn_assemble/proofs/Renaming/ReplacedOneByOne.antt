-- What holds of each thing that a loop goes through, and things that are replaced one by one.
use Rattle.std.proofs.Common.{◌≡◌, List, [], ◌∷◌, ◌++◌, map, length, append-nil, refl, sym, ap, ◌∙◌, subst}
use Rattle.std.specs.List.{AllByRecursion, AllZip}
use Rattle.std.proofs.lemmas.List.{nil_from_length}
use Rattle.rn_pattern.proofs.Ordered.Ascending.{each_behind}

module _ {X Y : Type 0} (P : Y → Type 0) (f : X → Y) where
  -- what holds of all that the things are seen as
  pub of_views : (xs : List X) → AllByRecursion P (map f xs) → AllByRecursion (λ x. P (f x)) xs
  of_views [] h = tt
  of_views (x ∷ xs) h = (h.0, of_views xs h.1)

-- the one that comes behind those so far
pub of_next : {X : Type 0} (P : X → Type 0) (zs xs : List X) (x : X) (ys : List X) → xs ++ x ∷ ys ≡ zs → AllByRecursion P zs → P x
of_next P zs xs x ys e h = (each_behind P xs (x ∷ ys) (subst (AllByRecursion P) (sym e) h)).0

-- none comes behind those so far
pub all_yielded : {X : Type 0} (xs ys zs : List X) → xs ++ ys ≡ zs → length ys ≡ 0 → xs ≡ zs
all_yielded xs ys zs e l = sym (append-nil xs) ∙ ap (λ ws. xs ++ ws) (sym (nil_from_length ys l)) ∙ e

-- each is replaced by one of a kind from which g makes it again
module _ {X Y : Type 0} (f : X → Y) (g : Y → Y) (K : Y → Type 0) where
  pub made_again : (xs ys : List X) → AllZip (λ x y. (g (f y) ≡ f x) × K (f y)) xs ys → map g (map f ys) ≡ map f xs
  made_again [] [] h = refl
  made_again [] (y ∷ ys) h = absurd h
  made_again (x ∷ xs) [] h = absurd h
  made_again (x ∷ xs) (y ∷ ys) h = λ i. h.0.0 i ∷ made_again xs ys h.1 i

  pub of_a_kind : (xs ys : List X) → AllZip (λ x y. (g (f y) ≡ f x) × K (f y)) xs ys → AllByRecursion K (map f ys)
  of_a_kind [] [] h = tt
  of_a_kind [] (y ∷ ys) h = absurd h
  of_a_kind (x ∷ xs) [] h = absurd h
  of_a_kind (x ∷ xs) (y ∷ ys) h = (h.0.1, of_a_kind xs ys h.1)
