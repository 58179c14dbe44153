-- Where no module comes back to itself, each is a root or reached from one.
use Rattle.std.proofs.Common.{◌≡◌, ◌⊎◌, inl, inr, ⊎_elim, ℕ, zero, suc, ◌<◌, ◌≤◌, Bool, true, false, cond, not, List, [], ◌∷◌, length, map, flat_map, filter, refl, sym, ap, ◌∙◌, subst, arith, Contains}
use Rattle.std.specs.Prelude.{bytes_eq}
use Rattle.std.specs.List.{list_any}
use Rattle.std.proofs.lemmas.Bool.{cases_Bool}
use Rattle.std.proofs.lemmas.Cmp.{nat_list_eq_equiv}
use Rattle.std.proofs.lemmas.List.Elements.{All-contains, All-contains_itself, All-filter, filter_passes}
use Rattle.std.proofs.lemmas.Map.Views.{Contains-from_any, list_any-from_Contains}
use Rattle.std.proofs.lemmas.Slice.Eq.{bytes_eq-Decides}
use Rattle.rn_text.specs.Texts.{Text}
use Rattle.rn_pattern.specs.References.{Reaches, by_one, by_more}
use Rattle.rn_pattern.proofs.Ordered.InOrder.{contains_behind, contains_cases, contains_front}
use Rattle.rn_assemble.specs.Components.{NamedModule, Includes, included_by, modules_named, roots}
use Rattle.rn_syntax.specs.Tree.{includes}
use Rattle.rn_assemble.proofs.Referring.ListMembers.{flat_contains, flat_contained, map_contains}
use Rattle.rn_assemble.proofs.Expansion.LongerPaths.{reach_last}

module _ {X : Type 0} where
  -- what passes a test, in what a filter keeps
  passed_at : (b : Bool) (y x : X) (ys : List X) → Contains ys x → Contains (cond b (y ∷ ys) ys) x
  passed_at true y x ys c = contains_behind y x ys c
  passed_at false y x ys c = c

  passed : (p : X → Bool) (xs : List X) (x : X) → Contains xs x → p x ≡ true → Contains (filter p xs) x
  passed p [] x c e = absurd (omega (arith, c.1))
  passed p (y ∷ ys) x c e =
      let rest = filter p ys in
      ⊎_elim (λ s. subst (λ b. Contains (cond b (y ∷ rest) rest) x) (sym (ap p s ∙ e)) (subst (λ z. Contains (y ∷ rest) z) s (contains_front y rest)))
      (λ k. passed_at (p y) y x rest (passed p ys x k e)) (contains_cases y x ys c)

  pub kept : (p : X → Bool) (xs : List X) (x : X) → Contains (filter p xs) x → Contains xs x × (p x ≡ true)
  kept p xs x c = (All-contains (Contains xs) (filter p xs) x (All-filter p (Contains xs) xs (All-contains_itself xs)) c, All-contains (λ y. p y ≡ true) (filter p xs) x (filter_passes p xs) c)

  -- a shorter list that still has the others
  without : (x : X) (xs : List X) → Contains xs x → (ys : List X) × (length ys < length xs) × ((y : X) → ¬ (y ≡ x) → Contains xs y → Contains ys y)
  without x [] c = absurd (omega (arith, c.1))
  without x (z ∷ zs) c = elim (contains_cases z x zs c) [
    | inl e ↦ (zs, omega arith, λ y other d. ⊎_elim (λ s. absurd (other (sym s ∙ e))) (λ k. k) (contains_cases z y zs d))
    | inr k ↦
        let r = without x zs k in
        (z ∷ r.0, omega (arith, r.1), λ y other d. ⊎_elim (λ s. subst (λ w. Contains (z ∷ r.0) w) s (contains_front z r.0)) (λ j. contains_behind z y r.0 (r.2 y other j)) (contains_cases z y zs d))
  ]

module _ (modules : List NamedModule) where
  -- the module by which x includes y
  pub includer : (x y : Text) → Includes modules x y → (m : NamedModule) × Contains modules m × (m.name ≡ x) × Contains (modules_named x modules) m × Contains (includes m.tree.items) y
  includer x y h =
      let r = flat_contained (λ (m : NamedModule). includes m.tree.items) (modules_named x modules) y (Contains-from_any {eq = bytes_eq} (λ a b e. (bytes_eq-Decides a b).0 e) y (included_by modules x) h) in
      let k = kept (λ (m : NamedModule). bytes_eq x m.name) modules r.0 r.1 in
      (r.0, k.0, sym ((bytes_eq-Decides x r.0.name).0 k.1), r.1, r.2)

  includes_named : (m : NamedModule) (y : Text) → Contains modules m → Contains (includes m.tree.items) y → Includes modules m.name y
  includes_named m y c d =
      let named = passed (λ (n : NamedModule). bytes_eq m.name n.name) modules m c ((bytes_eq-Decides m.name m.name).1 refl) in
      list_any-from_Contains {eq = bytes_eq} nat_list_eq_equiv y (included_by modules m.name) (flat_contains (λ (n : NamedModule). includes n.tree.items) (modules_named m.name modules) m y named d)

  abbrev names : List Text
  names = map (λ (m : NamedModule). m.name) modules

  named : (x y : Text) → Includes modules x y → Contains names x
  named x y h = let m = includer x y h in subst (λ z. Contains names z) m.2 (map_contains (λ (n : NamedModule). n.name) modules m.0 m.1)

  begins : (x y : Text) → Reaches (Includes modules) x y → Contains names x
  begins x y (by_one s) = named x y s
  begins x y (by_more {b = b} s r) = named x b s

  abbrev pub IsRooted : Text → Type 0
  IsRooted y = (r : NamedModule) × Contains (roots modules) r × ((r.name ≡ y) ⊎ Reaches (Includes modules) r.name y)

  abbrev is_included : NamedModule → Bool
  is_included r = list_any (bytes_eq r.name) (flat_map (λ (m : NamedModule). includes m.tree.items) modules)

  included_in : (m : NamedModule) → is_included m ≡ true → (n : NamedModule) × Contains modules n × Includes modules n.name m.name
  included_in m e =
      let r = flat_contained (λ (n : NamedModule). includes n.tree.items) modules m.name (Contains-from_any {eq = bytes_eq} (λ a b d. (bytes_eq-Decides a b).0 d) m.name (flat_map (λ (n : NamedModule). includes n.tree.items) modules) e) in
      (r.0, r.1, includes_named r.0 m.name r.1 r.2)

  root : (m : NamedModule) → Contains modules m → is_included m ≡ false → IsRooted m.name
  root m c e = (m, passed (λ (r : NamedModule). not (is_included r)) modules m c (ap not e), inl refl)

  onward : (x y : Text) → Includes modules x y → IsRooted x → IsRooted y
  onward x y s (r, c, inl e) = (r, c, inr (by_one (subst (λ z. Includes modules z y) (sym e) s)))
  onward x y s (r, c, inr p) = (r, c, inr (reach_last p s))

  module _ (no_cycle : (x : Text) → ¬ Reaches (Includes modules) x x) where
    -- each includer is one of fewer names
    climb : (fuel : ℕ) (xs : List Text) → length xs ≤ fuel → (m : NamedModule) → Contains modules m → ((x : Text) → Reaches (Includes modules) x m.name → Contains xs x) → IsRooted m.name
    climb zero xs l m c all = ⊎_elim (λ e. let n = included_in m e in let d = all n.0.name (by_one n.2) in absurd (omega (arith, d.1, l))) (root m c) (cases_Bool (is_included m))
    climb (suc fuel) xs l m c all =
        ⊎_elim
        (λ e.
        let n = included_in m e in
        let x = n.0.name in
        let less = without x xs (all x (by_one n.2)) in
        onward x m.name n.2 (climb fuel less.0 (omega (arith, less.1, l)) n.0 n.1 (λ y r. less.2 y (λ s. no_cycle x (subst (λ z. Reaches (Includes modules) z x) s r)) (all y (reach_last r n.2)))))
        (root m c) (cases_Bool (is_included m))

    pub rooted : (m : NamedModule) → Contains modules m → IsRooted m.name
    rooted m c = climb (length names) names (omega arith) m c (λ x r. begins x m.name r)
