-- Lists in order without repeats, by what they hold: two that hold the same are one.
use Rattle.std.proofs.Common.{◌≡◌, ◌⊎◌, inl, inr, ⊎_elim, zero, suc, List, [], ◌∷◌, map, refl, sym, ap, ◌∙◌, subst, arith, Contains, Ordering, Less, Greater}
use Rattle.std.specs.Ordering.{ordering_reverse}
use Rattle.std.specs.List.{AllByRecursion}
use Rattle.std.specs.List.Sorted.{IsStrictlySortedBy}
use Rattle.std.proofs.lemmas.Cmp.{nat_list_cmp_total}
use Rattle.rn_text.specs.Texts.{Text, text_cmp}
use Rattle.rn_pattern.proofs.Ordered.Ascending.{AllAbove}

module _ {X : Type 0} where
  pub contains_behind : (d e : X) (ds : List X) → Contains ds e → Contains (d ∷ ds) e
  contains_behind d e ds (k, l, is) = (suc k, omega (arith, l), is)

  pub contains_front : (d : X) (ds : List X) → Contains (d ∷ ds) d
  contains_front d ds = (0, omega arith, refl)

  pub contains_cases : (d e : X) (ds : List X) → Contains (d ∷ ds) e → (d ≡ e) ⊎ Contains ds e
  contains_cases d e ds (zero, l, is) = inl is
  contains_cases d e ds (suc k, l, is) = inr (k, omega (arith, l), is)

  pub each_contained : (P : X → Type 0) (ds : List X) → ((e : X) → Contains ds e → P e) → AllByRecursion P ds
  each_contained P [] h = tt
  each_contained P (d ∷ ds) h = (h d (contains_front d ds), each_contained P ds (λ e k. h e (contains_behind d e ds k)))

  pub contained_each : (P : X → Type 0) (ds : List X) → AllByRecursion P ds → (e : X) → Contains ds e → P e
  contained_each P [] h e (k, l, is) = absurd (omega (arith, l))
  contained_each P (d ∷ ds) h e c = ⊎_elim (λ is. subst P is h.0) (λ k. contained_each P ds h.1 e k) (contains_cases d e ds c)

  module _ (R : X → X → Ordering) (no_less : (x y : X) → R x y ≡ Less → ¬ (R y x ≡ Less)) where
    one_front : (d e : X) (ds es : List X) → AllAbove R d ds → AllAbove R e es → (e ≡ d) ⊎ Contains es d → (d ≡ e) ⊎ Contains ds e → d ≡ e
    one_front d e ds es h k (inl is) b = sym is
    one_front d e ds es h k (inr a) (inl is) = is
    one_front d e ds es h k (inr a) (inr b) = absurd (no_less d e (contained_each (λ x. R d x ≡ Less) ds h e b) (contained_each (λ x. R e x ≡ Less) es k d a))

    behind_too : (d e x : X) (ds es : List X) → AllAbove R d ds → d ≡ e → Contains ds x → (e ≡ x) ⊎ Contains es x → Contains es x
    behind_too d e x ds es h same k (inr a) = a
    behind_too d e x ds es h same k (inl is) =
        let less : R d d ≡ Less = ap (R d) (same ∙ is) ∙ contained_each (λ y. R d y ≡ Less) ds h x k in
        absurd (no_less d d less less)

    -- two lists in order that hold the same are one
    pub one_list : (ds es : List X) → IsStrictlySortedBy R ds → IsStrictlySortedBy R es → ((x : X) → Contains ds x → Contains es x) → ((x : X) → Contains es x → Contains ds x) → ds ≡ es
    unfolding IsStrictlySortedBy
    one_list [] [] h k f g = refl
    one_list [] (e ∷ es) h k f g = let (i, l, is) = g e (contains_front e es) in absurd (omega (arith, l))
    one_list (d ∷ ds) [] h k f g = let (i, l, is) = f d (contains_front d ds) in absurd (omega (arith, l))
    one_list (d ∷ ds) (e ∷ es) h k f g =
        let same : d ≡ e = one_front d e ds es h.0 k.0 (contains_cases e d es (f d (contains_front d ds))) (contains_cases d e ds (g e (contains_front e es))) in
        let rest : ds ≡ es = one_list ds es h.1 k.1 (λ x c. behind_too d e x ds es h.0 same c (contains_cases e x es (f x (contains_behind d x ds c)))) (λ x c. behind_too e d x es ds k.0 (sym same) c (contains_cases d x ds (g x (contains_behind e x es c)))) in
        λ i. same i ∷ rest i

pub text_no_less : (x y : Text) → text_cmp x y ≡ Less → ¬ (text_cmp y x ≡ Less)
text_no_less x y h k = let e : Less ≡ Greater = sym h ∙ nat_list_cmp_total.antisymm x y ∙ ap ordering_reverse k in cc

-- entries by their names
module _ {V : Type 0} where
  abbrev pub by_name : Text × V → Text × V → Ordering
  by_name d e = text_cmp d.0 e.0

  above_all : (x : Text) (ds : List (Text × V)) → AllByRecursion (λ y. text_cmp x y ≡ Less) (map (λ d. d.0) ds) → (v : V) → AllAbove by_name (x, v) ds
  above_all x [] h v = tt
  above_all x (d ∷ ds) h v = (h.0, above_all x ds h.1 v)

  pub sorted_by_name : (ds : List (Text × V)) → IsStrictlySortedBy text_cmp (map (λ d. d.0) ds) → IsStrictlySortedBy by_name ds
  unfolding IsStrictlySortedBy
  sorted_by_name [] h = tt
  sorted_by_name (d ∷ ds) h = (above_all d.0 ds h.0 d.1, sorted_by_name ds h.1)

  pub one_by_name : (ds es : List (Text × V)) → IsStrictlySortedBy by_name ds → IsStrictlySortedBy by_name es → ((x : Text × V) → Contains ds x → Contains es x) → ((x : Text × V) → Contains es x → Contains ds x) → ds ≡ es
  one_by_name = one_list by_name (λ d e. text_no_less d.0 e.0)
