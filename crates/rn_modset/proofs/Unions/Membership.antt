-- Being an element of a list, by recursion on the list.
use Rattle.std.proofs.Common.{◌≡◌, ℕ, zero, suc, ◌<◌, true, ◌⊎◌, inl, inr, List, [], ◌∷◌, ◌++◌, length, get_or, refl, sym, ap, subst, ◌∙◌, arith}
use Rattle.std.specs.declared.cmp.Ordering.{Ordering}
use Rattle.std.specs.declared.cmp.Ordering.TheVariants.{Less}
use Rattle.std.specs.Ordering.{is_eq}
use Rattle.std.specs.List.{AllByRecursion, Contains}
use Rattle.std.specs.List.Sorted.{IsStrictlySortedBy}
use Rattle.std.proofs.lemmas.Cmp.{tied_itself}
use Rattle.rn_modset.specs.Contributions.{Member, member_cmp}
use Rattle.rn_modset.specs.Sets.{has}
use Rattle.rn_modset.proofs.OrderedMembers.MemberOrder.{members_total, members_same}
use Rattle.std.proofs.lemmas.Bool.{or_left, or_right, or_cases}
use Rattle.rn_modset.proofs.TestAnswers.Orderings.{tied}

-- q is an element
abbrev pub In : {X : Type 0} → X → List X → Type 0
In q [] = ⊥
In q (x ∷ xs) = (x ≡ q) ⊎ In q xs

pub in_left : {X : Type 0} (q : X) (xs ys : List X) → In q xs → In q (xs ++ ys)
in_left q [] ys h = absurd h
in_left q (x ∷ xs) ys (inl e) = inl e
in_left q (x ∷ xs) ys (inr h) = inr (in_left q xs ys h)

pub in_right : {X : Type 0} (q : X) (xs ys : List X) → In q ys → In q (xs ++ ys)
in_right q [] ys h = h
in_right q (x ∷ xs) ys h = inr (in_right q xs ys h)

pub in_append : {X : Type 0} (q : X) (xs ys : List X) → In q (xs ++ ys) → In q xs ⊎ In q ys
in_append q [] ys h = inr h
in_append q (x ∷ xs) ys (inl e) = inl (inl e)
in_append q (x ∷ xs) ys (inr h) = elim (in_append q xs ys h) [ inl a ↦ inl (inr a) | inr b ↦ inr b ]

pub all_in : {X : Type 0} (P : X → Type 0) (xs : List X) (q : X) → AllByRecursion P xs → In q xs → P q
all_in P [] q a h = absurd h
all_in P (x ∷ xs) q a (inl e) = subst P e a.0
all_in P (x ∷ xs) q a (inr h) = all_in P xs q a.1 h

pub all_by_in : {X : Type 0} (P : X → Type 0) (xs : List X) → ((q : X) → In q xs → P q) → AllByRecursion P xs
all_by_in P [] h = tt
all_by_in P (x ∷ xs) h = (h x (inl refl), all_by_in P xs (λ q i. h q (inr i)))

in_at : {X : Type 0} (xs : List X) (k : ℕ) (x : X) → k < length xs → get_or xs k x ≡ x → In x xs
in_at [] k x lt e = absurd (omega arith)
in_at (y ∷ xs) zero x lt e = inl e
in_at (y ∷ xs) (suc k) x lt e = inr (in_at xs k x (omega arith) e)

pub in_from_contains : {X : Type 0} (xs : List X) (x : X) → Contains xs x → In x xs
in_from_contains xs x c = in_at xs c.0 x c.1 c.2

pub contains_from_in : {X : Type 0} (xs : List X) (x : X) → In x xs → Contains xs x
contains_from_in [] x h = absurd h
contains_from_in (y ∷ xs) x (inl e) = (0, omega arith, e)
contains_from_in (y ∷ xs) x (inr h) = let c = contains_from_in xs x h in (suc c.0, omega (arith, c.1), c.2)

-- one more, greater than all
pub sorted_push : {K : Type 0} (R : K → K → Ordering) (ks : List K) (k : K) → IsStrictlySortedBy R ks → ((q : K) → In q ks → R q k ≡ Less) → IsStrictlySortedBy R (ks ++ k ∷ [])
unfolding IsStrictlySortedBy
sorted_push R [] k s h = (tt, tt)
sorted_push R (x ∷ ks) k s h = (
  all_by_in (λ y. R x y ≡ Less) (ks ++ k ∷ []) (λ q i. elim (in_append q ks (k ∷ []) i) [
    | inl a ↦ all_in (λ y. R x y ≡ Less) ks q s.0 a
    | inr b ↦ elim b [ inl e ↦ subst (λ y. R x y ≡ Less) e (h x (inl refl)) | inr f ↦ absurd f ]
  ]),
  sorted_push R ks k s.1 (λ q i. h q (inr i)),
)

-- what stands before m in a list that rises is less, and what stands behind it greater
pub below_in : {K : Type 0} (R : K → K → Ordering) (xs ys : List K) (m q : K) → IsStrictlySortedBy R (xs ++ m ∷ ys) → In q xs → R q m ≡ Less
unfolding IsStrictlySortedBy
below_in R [] ys m q s h = absurd h
below_in R (x ∷ xs) ys m q s (inl e) = subst (λ z. R z m ≡ Less) e (all_in (λ y. R x y ≡ Less) (xs ++ m ∷ ys) m s.0 (in_right m xs (m ∷ ys) (inl refl)))
below_in R (x ∷ xs) ys m q s (inr h) = below_in R xs ys m q s.1 h

pub above_in : {K : Type 0} (R : K → K → Ordering) (xs ys : List K) (m q : K) → IsStrictlySortedBy R (xs ++ m ∷ ys) → In q ys → R m q ≡ Less
unfolding IsStrictlySortedBy
above_in R [] ys m q s h = all_in (λ y. R m y ≡ Less) ys q s.0 h
above_in R (x ∷ xs) ys m q s h = above_in R xs ys m q s.1 h

pub in_from_has : (s : List Member) (q : Member) → has s q ≡ true → In q s
in_from_has [] q h = cc
in_from_has (m ∷ ms) q h = elim (or_cases (is_eq (member_cmp q m)) (has ms q) h) [
  | inl e ↦ inl (sym (members_same q m (tied (member_cmp q m) e)))
  | inr k ↦ inr (in_from_has ms q k)
]

pub has_from_in : (s : List Member) (q : Member) → In q s → has s q ≡ true
has_from_in [] q h = absurd h
has_from_in (m ∷ ms) q (inl e) = or_left (is_eq (member_cmp q m)) (has ms q) (ap is_eq (ap (λ z. member_cmp q z) e ∙ tied_itself members_total q))
has_from_in (m ∷ ms) q (inr h) = or_right (is_eq (member_cmp q m)) (has ms q) (has_from_in ms q h)
