-- Elements of mapped lists.
use Rattle.std.proofs.Common.{◌≡◌, ⊎_elim, List, [], ◌∷◌, map, flat_map, sym, subst, arith, Contains}
use Rattle.std.proofs.lemmas.List.Elements.{Contains-append_left, Contains-append_right, Contains-append_cases}
use Rattle.rn_pattern.proofs.Ordered.InOrder.{contains_behind, contains_front, contains_cases}

pub map_contains : {X Y : Type 0} (f : X → Y) (xs : List X) (x : X) → Contains xs x → Contains (map f xs) (f x)
map_contains f [] x c = absurd (omega (arith, c.1))
map_contains f (y ∷ xs) x c = ⊎_elim (λ e. subst (λ z. Contains (f y ∷ map f xs) (f z)) e (contains_front (f y) (map f xs))) (λ k. contains_behind (f y) (f x) (map f xs) (map_contains f xs x k)) (contains_cases y x xs c)

pub map_contained : {X Y : Type 0} (f : X → Y) (xs : List X) (y : Y) → Contains (map f xs) y → (x : X) × Contains xs x × (f x ≡ y)
map_contained f [] y c = absurd (omega (arith, c.1))
map_contained f (x ∷ xs) y c = ⊎_elim (λ e. (x, contains_front x xs, e)) (λ k. let r = map_contained f xs y k in (r.0, contains_behind x r.0 xs r.1, r.2)) (contains_cases (f x) y (map f xs) c)

pub flat_contains : {X Y : Type 0} (f : X → List Y) (xs : List X) (x : X) (y : Y) → Contains xs x → Contains (f x) y → Contains (flat_map f xs) y
flat_contains f [] x y c d = absurd (omega (arith, c.1))
flat_contains f (z ∷ xs) x y c d = ⊎_elim (λ e. Contains-append_left (f z) (flat_map f xs) y (subst (λ w. Contains (f w) y) (sym e) d)) (λ k. Contains-append_right (f z) (flat_map f xs) y (flat_contains f xs x y k d)) (contains_cases z x xs c)

pub flat_contained : {X Y : Type 0} (f : X → List Y) (xs : List X) (y : Y) → Contains (flat_map f xs) y → (x : X) × Contains xs x × Contains (f x) y
flat_contained f [] y c = absurd (omega (arith, c.1))
flat_contained f (x ∷ xs) y c = ⊎_elim (λ d. (x, contains_front x xs, d)) (λ k. let r = flat_contained f xs y k in (r.0, contains_behind x r.0 xs r.1, r.2)) (Contains-append_cases (f x) (flat_map f xs) y c)
