-- Lists whose members are mapped: put in order, each opened into a list, and entries by their names.
use Rattle.std.proofs.Common.{◌≡◌, ◌⊎◌, inl, inr, List, [], ◌∷◌, ◌++◌, map, refl, sym, ap, ◌∙◌, subst, arith, Contains, Ordering, Less, Equal, Greater}
use Rattle.std.specs.Prelude.{flat_map}
use Rattle.std.specs.Ordering.{match_ordering}
use Rattle.std.specs.List.{AllByRecursion}
use Rattle.std.proofs.lemmas.List.{map-append}
use Rattle.rn_pattern.specs.Canonical.{put, put_once, sorted, sorted_once}
use Rattle.rn_pattern.proofs.Ordered.Ascending.{each_sorted, each_sorted_once}
use Rattle.rn_pattern.proofs.Ordered.InOrder.{contains_front, contains_behind, contains_cases}

-- what opens mapped members opens them to mapped ones
pub flat_map-mapped : {X : Type 0} (f : X → X) (g : X → List X) → ((x : X) → g (f x) ≡ map f (g x))
    → (xs : List X) → flat_map g (map f xs) ≡ map f (flat_map g xs)
flat_map-mapped f g same [] = refl
flat_map-mapped f g same (x ∷ xs) =
    let e = same x in
    let more = flat_map-mapped f g same xs in
    (λ i. e i ++ more i) ∙ sym (map-append f (g x) (flat_map g xs))

-- f keeps the order of all that P holds of
module _ {X : Type 0} (cmp : X → X → Ordering) (f : X → X) (P : X → Type 0)
    (kept : (x y : X) → P x → P y → cmp (f x) (f y) ≡ cmp x y) where
  put_once_at : (o : Ordering) (x y : X) (ys zs : List X)
      → match_ordering o (f x ∷ f y ∷ map f ys) (f y ∷ map f ys) (f y ∷ map f zs)
      ≡ map f (match_ordering o (x ∷ y ∷ ys) (y ∷ ys) (y ∷ zs))
  put_once_at Less x y ys zs = refl
  put_once_at Equal x y ys zs = refl
  put_once_at Greater x y ys zs = refl

  put_once-mapped : (x : X) (ys : List X) → P x → AllByRecursion P ys
      → put_once cmp (f x) (map f ys) ≡ map f (put_once cmp x ys)
  put_once-mapped x [] h k = refl
  put_once-mapped x (y ∷ ys) h k =
      let e = kept x y h k.0 in
      let more = put_once-mapped x ys h k.1 in
      (λ i. match_ordering (e i) (f x ∷ f y ∷ map f ys) (f y ∷ map f ys) (f y ∷ more i))
      ∙ put_once_at (cmp x y) x y ys (put_once cmp x ys)

  pub sorted_once-mapped : (xs : List X) → AllByRecursion P xs → sorted_once cmp (map f xs) ≡ map f (sorted_once cmp xs)
  sorted_once-mapped [] h = refl
  sorted_once-mapped (x ∷ xs) h =
      ap (put_once cmp (f x)) (sorted_once-mapped xs h.1)
      ∙ put_once-mapped x (sorted_once cmp xs) h.0 (each_sorted_once P cmp xs h.1)

  put_at : (o : Ordering) (x y : X) (ys zs : List X)
      → match_ordering o (f x ∷ f y ∷ map f ys) (f x ∷ f y ∷ map f ys) (f y ∷ map f zs)
      ≡ map f (match_ordering o (x ∷ y ∷ ys) (x ∷ y ∷ ys) (y ∷ zs))
  put_at Less x y ys zs = refl
  put_at Equal x y ys zs = refl
  put_at Greater x y ys zs = refl

  put-mapped : (x : X) (ys : List X) → P x → AllByRecursion P ys → put cmp (f x) (map f ys) ≡ map f (put cmp x ys)
  put-mapped x [] h k = refl
  put-mapped x (y ∷ ys) h k =
      let e = kept x y h k.0 in
      let more = put-mapped x ys h k.1 in
      (λ i. match_ordering (e i) (f x ∷ f y ∷ map f ys) (f x ∷ f y ∷ map f ys) (f y ∷ more i))
      ∙ put_at (cmp x y) x y ys (put cmp x ys)

  pub sorted-mapped : (xs : List X) → AllByRecursion P xs → sorted cmp (map f xs) ≡ map f (sorted cmp xs)
  sorted-mapped [] h = refl
  sorted-mapped (x ∷ xs) h =
      ap (put cmp (f x)) (sorted-mapped xs h.1) ∙ put-mapped x (sorted cmp xs) h.0 (each_sorted P cmp xs h.1)

-- entries whose values are mapped
module _ {K V W : Type 0} (f : V → W) where
  abbrev Has : List (K × V) → K → V → Type 0
  Has ds x v = Contains {X = K × V} ds (x, v)

  abbrev Shows : List (K × W) → K → W → Type 0
  Shows es x w = Contains {X = K × W} es (x, w)

  abbrev entry : K × V → K × W
  entry d = (d.0, f d.1)

  pub entry_mapped : (ds : List (K × V)) (x : K) (v : V) → Has ds x v → Shows (map entry ds) x (f v)
  entry_mapped [] x v c = absurd (omega (arith, c.1))
  entry_mapped (d ∷ ds) x v c = by_case (contains_cases d (x, v) ds c) (entry_mapped ds x v)
    where
      by_case : (◌≡◌ {A = K × V} d (x, v)) ⊎ Has ds x v → (Has ds x v → Shows (map entry ds) x (f v))
          → Shows (map entry (d ∷ ds)) x (f v)
      by_case (inl e) ih =
          let front = contains_front (entry d) (map entry ds) in
          subst (λ (t : K × V). Contains {X = K × W} (map entry (d ∷ ds)) (entry t)) e front
      by_case (inr k) ih = contains_behind (entry d) (x, f v) (map entry ds) (ih k)

  abbrev IsBefore : List (K × V) → K → W → Type 0
  IsBefore ds x w = (v : V) × Has ds x v × (f v ≡ w)

  pub entry_before : (ds : List (K × V)) (x : K) (w : W) → Shows (map entry ds) x w → IsBefore ds x w
  entry_before [] x w c = absurd (omega (arith, c.1))
  entry_before (d ∷ ds) x w c = by_case (contains_cases (entry d) (x, w) (map entry ds) c) (entry_before ds x w)
    where
      by_case : (◌≡◌ {A = K × W} (entry d) (x, w)) ⊎ Shows (map entry ds) x w
          → (Shows (map entry ds) x w → IsBefore ds x w) → IsBefore (d ∷ ds) x w
      by_case (inl e) ih =
          let name : d.0 ≡ x = ap (λ (t : K × W). t.0) e in
          (d.1, subst (λ y. Has (d ∷ ds) y d.1) name (contains_front d ds), ap (λ (t : K × W). t.1) e)
      by_case (inr k) ih = let (v, has, is) = ih k in (v, contains_behind d (x, v) ds has, is)

pub map_joined : {X Y : Type 0} (f : X → Y) (xs ys : List X) {us vs : List Y}
    → us ≡ map f xs → vs ≡ map f ys → us ++ vs ≡ map f (xs ++ ys)
map_joined f xs ys p q = (λ i. p i ++ q i) ∙ sym (map-append f xs ys)
