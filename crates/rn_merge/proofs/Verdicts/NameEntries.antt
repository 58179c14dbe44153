-- Names with the values that a relation gives them, as a list in order: that there is no such list is impossible.
use Rattle.std.proofs.Common.{◌≡◌, ◌↔◌, inl, inr, ℕ, zero, suc, ◌<◌, List, [], ◌∷◌, map, sym, ap, subst, arith, Contains, Less}
use Rattle.std.specs.List.{AllByRecursion}
use Rattle.std.specs.List.Sorted.{IsStrictlySortedBy}
use Rattle.std.proofs.lemmas.Cmp.{nat_list_cmp_total}
use Rattle.rn_text.specs.Texts.{Text, text_cmp}
use Rattle.rn_pattern.specs.Canonical.{sorted_once}
use Rattle.rn_pattern.proofs.Ordered.Ascending.{AllAbove, each_unsorted_once, climbs_sorted_once}
use Rattle.rn_pattern.proofs.Ordered.InOrder.{by_name}
use Rattle.rn_pattern.proofs.Ordered.Orders.{text_same}
use Rattle.rn_modset.proofs.Unions.Membership.{In, all_in, all_by_in, in_from_contains, contains_from_in}

-- what has no first value has none
module _ {X : Type 0} (rank : X → ℕ) (P : X → Type 0) (none : (x : X) → P x → ((y : X) → rank y < rank x → ¬ P y) → ⊥) where
  none_below : (n : ℕ) (x : X) → rank x < n → ¬ P x
  none_below zero x l p = absurd (omega (arith, l))
  none_below (suc n) x l p = none x p (λ y m q. none_below n y (omega (arith, l, m)) q)

  pub no_first : (x : X) → ¬ P x
  no_first x p = none_below (suc (rank x)) x (omega arith) p

pub in_map : {X Y : Type 0} (f : X → Y) (x : X) (xs : List X) → In x xs → In (f x) (map f xs)
in_map f x [] h = absurd h
in_map f x (y ∷ xs) (inl e) = inl (ap f e)
in_map f x (y ∷ xs) (inr h) = inr (in_map f x xs h)

module _ {V : Type 0} where
  above_names : (x : Text) (v : V) (ds : List (Text × V)) → AllAbove by_name (x, v) ds → AllByRecursion (λ y. text_cmp x y ≡ Less) (map (λ d. d.0) ds)
  above_names x v [] h = tt
  above_names x v (d ∷ ds) h = (h.0, above_names x v ds h.1)

  -- entries in the order of their names have names in order
  pub names_sorted : (ds : List (Text × V)) → IsStrictlySortedBy by_name ds → IsStrictlySortedBy text_cmp (map (λ d. d.0) ds)
  unfolding IsStrictlySortedBy
  names_sorted [] h = tt
  names_sorted (d ∷ ds) h = (above_names d.0 d.1 ds h.0, names_sorted ds h.1)

  -- R gives a name one value at most
  module _ (R : Text → V → Type 0) (one : (x : Text) (v w : V) → R x v → R x w → v ≡ w) where
    -- those of the names that have a value, each with it, in order
    record AreEntries (names : List Text) (ds : List (Text × V)) : Type 0 where
      in_order : IsStrictlySortedBy by_name ds
      sound : (x : Text) (v : V) → In {X = Text × V} (x, v) ds → In x names × R x v
      whole : (x : Text) (v : V) → In x names → R x v → In {X = Text × V} (x, v) ds

    no_names : AreEntries [] []
    unfolding IsStrictlySortedBy
    no_names = record { in_order = tt; sound = λ x v h. absurd h; whole = λ x v h r. absurd h }

    -- a name without a value
    passed : (x : Text) (names : List Text) (ds : List (Text × V)) → ((v : V) → ¬ R x v) → AreEntries names ds → AreEntries (x ∷ names) ds
    passed x names ds none are = record {
      in_order = are.in_order;
      sound = λ y v h. let k = are.sound y v h in (inr k.0, k.1);
      whole = λ y v h r. elim h [ inl e ↦ absurd (none v (subst (λ z. R z v) (sym e) r)) | inr k ↦ are.whole y v k r ];
    }

    entry_sound : (x : Text) (v : V) (names : List Text) (ds : List (Text × V)) → R x v → AreEntries names ds
        → (y : Text) (w : V) → In {X = Text × V} (y, w) ((x, v) ∷ ds) → In y (x ∷ names) × R y w
    entry_sound x v names ds r are y w (inl e) = (inl (ap (λ (d : Text × V). d.0) e), subst (λ (d : Text × V). R d.0 d.1) e r)
    entry_sound x v names ds r are y w (inr h) = let k = are.sound y w h in (inr k.0, k.1)

    entry_whole : (x : Text) (v : V) (names : List Text) (ds : List (Text × V)) → R x v → AreEntries names ds
        → (y : Text) (w : V) → In y (x ∷ names) → R y w → In {X = Text × V} (y, w) ((x, v) ∷ ds)
    entry_whole x v names ds r are y w (inl e) q = let same : v ≡ w = one y v w (subst (λ z. R z v) e r) q in inl (λ i. (e i, same i))
    entry_whole x v names ds r are y w (inr h) q = inr (are.whole y w h q)

    -- a name with its value, less than all others
    taken : (x : Text) (v : V) (names : List Text) (ds : List (Text × V)) → AllByRecursion (λ y. text_cmp x y ≡ Less) names → R x v → AreEntries names ds
        → AreEntries (x ∷ names) ((x, v) ∷ ds)
    unfolding IsStrictlySortedBy
    taken x v names ds above r are = record {
      in_order = (all_by_in (λ d. by_name (x, v) d ≡ Less) ds (λ d h. all_in (λ y. text_cmp x y ≡ Less) names d.0 above (are.sound d.0 d.1 h).0), are.in_order);
      sound = entry_sound x v names ds r are;
      whole = entry_whole x v names ds r are;
    }

    never_none : (names : List Text) → IsStrictlySortedBy text_cmp names → ((ds : List (Text × V)) → AreEntries names ds → ⊥) → ⊥
    unfolding IsStrictlySortedBy
    never_none [] h none = none [] no_names
    never_none (x ∷ names) h none = never_none names h.1 (λ ds are.
        let without : ((v : V) → ¬ R x v) → ⊥ = λ lacks. none ds (passed x names ds lacks are) in
        without (λ v r. none ((x, v) ∷ ds) (taken x v names ds h.0 r are)))

    in_sorted : (names : List Text) (x : Text) → In x names → In x (sorted_once text_cmp names)
    in_sorted names x h =
        let kept = sorted_once text_cmp names in
        all_in (λ z. In z kept) names x (each_unsorted_once (λ z. In z kept) text_cmp text_same names (all_by_in (λ z. In z kept) kept (λ q i. i))) h

    -- the values of names of a list
    pub never_no_entries : (names : List Text) → ((x : Text) (v : V) → R x v → In x names)
        → ((ds : List (Text × V)) → IsStrictlySortedBy by_name ds → ((x : Text) (v : V) → Contains {X = Text × V} ds (x, v) ↔ R x v) → ⊥) → ⊥
    never_no_entries names within none =
        never_none (sorted_once text_cmp names) (climbs_sorted_once text_cmp nat_list_cmp_total text_same names) (λ ds are.
        none ds are.in_order (λ x v. (
          λ c. (are.sound x v (in_from_contains ds (x, v) c)).1,
          λ r. contains_from_in ds (x, v) (are.whole x v (in_sorted names x (within x v r)) r),
        )))
