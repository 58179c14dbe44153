-- What holds of no least value holds of none, where it holds of values in some list alone.
use Rattle.std.proofs.Common.{◌≡◌, ◌≢◌, ◌⊎◌, inl, inr, ⊎_elim, List, [], ◌∷◌, refl, sym, ap, ◌∙◌, subst, arith, Contains, Ordering, Less, Equal, Greater}
use Rattle.std.specs.Ordering.{ordering_reverse}
use Rattle.std.specs.Cmp.{IsTotalOrder}
use Rattle.std.specs.List.{AllByRecursion}
use Rattle.std.specs.List.Sorted.{IsStrictlySortedBy}
use Rattle.std.proofs.lemmas.Cmp.{nat_list_cmp_total}
use Rattle.rn_text.specs.Texts.{Text, text_cmp}
use Rattle.rn_pattern.specs.Canonical.{sorted_once}
use Rattle.rn_pattern.proofs.Ordered.Ascending.{each_unsorted_once, climbs_sorted_once}
use Rattle.rn_pattern.proofs.Ordered.InOrder.{contains_cases, each_contained, contained_each}
use Rattle.rn_pattern.proofs.Ordered.Orders.{text_same}
use Rattle.rn_assemble.specs.Components.{Key, start_key, name_key}
use Rattle.rn_assemble.specs.Least.{IsLeast, key_cmp}
use Rattle.rn_assemble.proofs.Refusals.OneRefusal.{key_back, key_same}

module _ {X : Type 0} (cmp : X → X → Ordering) (o : IsTotalOrder cmp) (one : (x y : X) → cmp x y ≡ Equal → x ≡ y) (P : X → Type 0) where
  no_less : (x y : X) → cmp x y ≡ Less → ¬ (cmp y x ≡ Less)
  no_less x y h k = let e : Less ≡ Greater = sym h ∙ o.antisymm x y ∙ ap ordering_reverse k in cc

  least_front : (c : X) (cs : List X) → AllByRecursion (λ y. cmp c y ≡ Less) cs → (y : X) → (c ≡ y) ⊎ Contains cs y → cmp y c ≢ Less
  least_front c cs h y (inl e) l = let less : cmp c c ≡ Less = ap (λ z. cmp z c) e ∙ l in no_less c c less less
  least_front c cs h y (inr k) l = no_less c y (contained_each (λ z. cmp c z ≡ Less) cs h y k) l

  none_sorted : (cs : List X) → IsStrictlySortedBy cmp cs → ((x : X) → P x → Contains cs x) → ((x : X) → ¬ IsLeast cmp P x) → (x : X) → ¬ P x
  unfolding IsStrictlySortedBy
  none_sorted [] h within none x p = let (i, l, is) = within x p in absurd (omega (arith, l))
  none_sorted (c ∷ cs) h within none x p =
      let not_front : ¬ P c = λ p. none c (record { holds = p; least = λ y q. least_front c cs h.0 y (contains_cases c y cs (within y q)) }) in
      none_sorted cs h.1 (λ y q. ⊎_elim (λ e. absurd (not_front (subst P (sym e) q))) (λ k. k) (contains_cases c y cs (within y q))) none x p

  sorted_contains : (xs : List X) (x : X) → Contains xs x → Contains (sorted_once cmp xs) x
  sorted_contains xs x c =
      let kept = sorted_once cmp xs in
      contained_each (Contains kept) xs (each_unsorted_once (Contains kept) cmp one xs (each_contained (Contains kept) kept (λ e k. k))) x c

  pub none_holds : (xs : List X) → ((x : X) → P x → Contains xs x) → ((x : X) → ¬ IsLeast cmp P x) → (x : X) → ¬ P x
  none_holds xs within none = none_sorted (sorted_once cmp xs) (climbs_sorted_once cmp o one xs) (λ x p. sorted_contains xs x (within x p)) none

pub no_text : (P : Text → Type 0) (xs : List Text) → ((x : Text) → P x → Contains xs x) → ((x : Text) → ¬ IsLeast text_cmp P x) → (x : Text) → ¬ P x
no_text = none_holds text_cmp nat_list_cmp_total text_same

key_trans : (x y z : Key) → key_cmp x y ≡ Less → key_cmp y z ≡ Less → key_cmp x z ≡ Less
key_trans start_key start_key z h k = cc
key_trans start_key (name_key y) start_key h k = cc
key_trans start_key (name_key y) (name_key z) h k = refl
key_trans (name_key x) start_key z h k = cc
key_trans (name_key x) (name_key y) start_key h k = cc
key_trans (name_key x) (name_key y) (name_key z) h k = nat_list_cmp_total.trans x y z h k

key_total : IsTotalOrder key_cmp
key_total = record {
  antisymm = key_back;
  trans = key_trans;
  congr = λ x y z e. ap (λ v. key_cmp v z) (key_same x y e);
}

pub no_key : (P : Key → Type 0) (ks : List Key) → ((k : Key) → P k → Contains ks k) → ((k : Key) → ¬ IsLeast key_cmp P k) → (k : Key) → ¬ P k
no_key = none_holds key_cmp key_total key_same
