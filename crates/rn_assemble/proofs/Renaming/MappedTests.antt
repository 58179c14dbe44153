-- Lists whose members are changed: a test that does not see the change keeps, finds and counts the same.
use Rattle.std.proofs.Common.{◌≡◌, Bool, true, false, ◌||◌, cond, List, [], ◌∷◌, ◌++◌, map, filter, flat_map, refl, sym, ap, ◌∙◌}
use Rattle.std.specs.Prelude.{⊤}
use Rattle.std.specs.List.{AllByRecursion, list_any}
use Rattle.std.proofs.lemmas.List.{map-append}
use Rattle.rn_assemble.proofs.WellFormed.ComponentExcepts.{all_true}

-- what is done to both is done to the one that is chosen
pub cond_inside : {A B : Type 0} (f : A → B) (b : Bool) (x y : A) → cond b (f x) (f y) ≡ f (cond b x y)
cond_inside f true x y = refl
cond_inside f false x y = refl

-- a test that does not tell the images of some members from these
module _ {A B : Type 0} (f : A → B) (t : A → Bool) (s : B → Bool) (P : A → Type 0) (same : (x : A) → P x → s (f x) ≡ t x) where
  pub filter-mapped : (xs : List A) → AllByRecursion P xs → filter s (map f xs) ≡ map f (filter t xs)
  filter-mapped [] a = refl
  filter-mapped (x ∷ xs) a =
      let more : filter s (map f xs) ≡ map f (filter t xs) = filter-mapped xs a.1 in
      (λ i. cond (same x a.0 i) (f x ∷ more i) (more i)) ∙ cond_inside (map f) (t x) (x ∷ filter t xs) (filter t xs)

  pub list_any-mapped : (xs : List A) → AllByRecursion P xs → list_any s (map f xs) ≡ list_any t xs
  list_any-mapped [] a = refl
  list_any-mapped (x ∷ xs) a = λ i. same x a.0 i || list_any-mapped xs a.1 i

module _ {A B : Type 0} (f : A → B) where
  pub flat_map_inside : {X : Type 0} (g : X → List A) (xs : List X) → flat_map (λ x. map f (g x)) xs ≡ map f (flat_map g xs)
  flat_map_inside g [] = refl
  flat_map_inside g (x ∷ xs) = ap (λ l. map f (g x) ++ l) (flat_map_inside g xs) ∙ sym (map-append f (g x) (flat_map g xs))

  -- one that does not tell any image from its member
  module _ (p : A → Bool) (q : B → Bool) (same : (a : A) → q (f a) ≡ p a) where
    pub filter_inside : (xs : List A) → filter q (map f xs) ≡ map f (filter p xs)
    filter_inside xs = filter-mapped f p q (λ a. ⊤) (λ a k. same a) xs (all_true xs)

    pub any_inside : (xs : List A) → list_any q (map f xs) ≡ list_any p xs
    any_inside xs = list_any-mapped f p q (λ a. ⊤) (λ a k. same a) xs (all_true xs)
