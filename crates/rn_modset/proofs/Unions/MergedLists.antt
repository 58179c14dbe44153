-- Lists that rise, walked side by side and merged.
use Rattle.std.proofs.Common.{◌≡◌, ◌≢◌, ℕ, ◌+◌, ◌<◌, inl, inr, Bool, true, false, cond, not, ◌||◌, List, [], ◌∷◌, ◌++◌, take, drop, length, get_or, refl, sym, ap, subst, ◌∙◌, append_assoc}
use Rattle.std.specs.declared.cmp.Ordering.{Ordering}
use Rattle.std.specs.declared.cmp.Ordering.TheVariants.{Less, Equal, Greater}
use Rattle.std.specs.Ordering.{is_eq, is_lt}
use Rattle.std.specs.List.{AllByRecursion, filter}
use Rattle.std.specs.List.Sorted.{IsStrictlySortedBy}
use Rattle.std.specs.Bool.{MatchBool}
use Rattle.std.proofs.lemmas.Cmp.{tied_back, tied_itself}
use Rattle.std.proofs.lemmas.List.{append-nil, same_from_push}
use Rattle.rn_modset.specs.declared.contribution.Contribution.{Contribution}
use Rattle.rn_modset.specs.Contributions.{Member, member, members_of, member_cmp}
use Rattle.rn_modset.specs.Sets.{Rises, has, union}
use Rattle.rn_modset.specs.inside.Merges.{missing, KeepsFrom, AreApart, AreBelow, EndsAbove, TakesGreatest}
use Rattle.rn_modset.proofs.OrderedMembers.MemberOrder.{members_total, members_same}
use Rattle.rn_modset.proofs.Unions.Membership.{In, in_left, in_right, in_append, all_in, all_by_in, below_in, above_in, in_from_has, has_from_in}
use Rattle.std.proofs.Math.Bool.{or_assoc}
use Rattle.std.proofs.lemmas.Bool.{false_from_ne_true}
use Rattle.rn_modset.proofs.TestAnswers.Orderings.{tied}
use Rattle.rn_modset.proofs.TestAnswers.TruthValues.{not_both}
use Rattle.rn_modset.proofs.OrderedMembers.RisingLists.{all_through, lacks_below, one_list, turned}
use Rattle.rn_modset.proofs.Unions.UnionMembers.{has_union, rises_union}
use Rattle.rn_modset.proofs.EffectiveModules.SlicePlaces.{IsHeldAt, slice_front_more, slice_back_more, split_at}

-- the first of a list that is not below m tells whether m is in it
pub begins_by : (x : Member) (xs : List Member) (m : Member) (r : Ordering) → member_cmp x m ≡ r → Rises (x ∷ xs) → r ≢ Less → is_eq r ≡ has (x ∷ xs) m
unfolding IsStrictlySortedBy
begins_by x xs m Less e s n = absurd (n refl)
begins_by x xs m Equal e s n = sym (ap (λ b. b || has xs m) (ap is_eq (tied_back members_total x m e)))
begins_by x xs m Greater e s n =
    let low : member_cmp m x ≡ Less = turned members_total x m Greater e in
    sym (ap (λ b. b || has xs m) (ap is_eq low) ∙ lacks_below members_total m xs (all_through _ _ (λ y h. members_total.trans m x y low h) xs s.0))

other_by : (b : Bool) (q x : Member) → b ≡ is_eq (member_cmp q x) → q ≢ x → b ≡ false
other_by true q x e n = absurd (n (members_same q x (tied (member_cmp q x) (sym e))))
other_by false q x e n = refl

-- what is below m may be left out of a list that keeps all that is not
pub skip_one : (s : List Member) (x : Member) (xs : List Member) (m : Member) → KeepsFrom s (x ∷ xs) m → member_cmp x m ≡ Less → KeepsFrom s xs m
skip_one s x xs m k e = λ q n.
    let other : is_eq (member_cmp q x) ≡ false = other_by (is_eq (member_cmp q x)) q x refl (λ same. n (ap (λ z. member_cmp z m) same ∙ e)) in
    sym (ap (λ b. b || has xs q) other) ∙ k q n

rises_right : (xs ys : List Member) → Rises (xs ++ ys) → Rises ys
unfolding IsStrictlySortedBy
rises_right [] ys s = s
rises_right (x ∷ xs) ys s = rises_right xs ys s.1

pub rises_left : (xs ys : List Member) → Rises (xs ++ ys) → Rises xs
unfolding IsStrictlySortedBy
rises_left [] ys s = tt
rises_left (x ∷ xs) ys s = (all_by_in (λ y. member_cmp x y ≡ Less) xs (λ q h. all_in (λ y. member_cmp x y ≡ Less) (xs ++ ys) q s.0 (in_left q xs ys h)), rises_left xs ys s.1)

pub rises_tail : (x : Member) (xs : List Member) → Rises (x ∷ xs) → Rises xs
unfolding IsStrictlySortedBy
rises_tail x xs s = s.1

-- what is left of the held ones has all of the others that are still to come
pub record IsAhead (held rest others : List Member) : Type 0 where
  pub rises : Rises rest
  pub same : (q : Member) → In q others → has rest q ≡ has held q

not_below_itself : (m : Member) → member_cmp m m ≢ Less
not_below_itself m e = let h : Less ≡ Equal = sym e ∙ tied_itself members_total m in cc

not_above : (q m : Member) → member_cmp m q ≡ Less → member_cmp q m ≢ Less
not_above q m e f = let h : Greater ≡ Less = sym (turned members_total m q Less e) ∙ f in cc

ahead_held : (held rest after : List Member) (m : Member) (others : List Member) → IsAhead held rest (m ∷ others) → KeepsFrom rest after m → has after m ≡ has held m
ahead_held held rest after m others a k = k m (not_below_itself m) ∙ a.same m (inl refl)

ahead_more : (held rest after front : List Member) (m : Member) (others : List Member) → Rises (front ++ m ∷ others) → IsAhead held rest (m ∷ others) → KeepsFrom rest after m → Rises after → IsAhead held after others
ahead_more held rest after front m others s a k r = record {
  rises = r;
  same = λ q h. k q (not_above q m (above_in member_cmp front others m q s h)) ∙ a.same q (inr h);
}

missing_push : (s xs : List Member) (m : Member) → missing s (xs ++ m ∷ []) ≡ missing s xs ++ missing s (m ∷ [])
missing_push s [] m = refl
missing_push s (x ∷ xs) m = ap (λ t. cond (not (has s x)) (x ∷ t) t) (missing_push s xs m) ∙ by (not (has s x)) (missing s xs) (missing s (m ∷ []))
  where
    by : (b : Bool) (ys zs : List Member) → cond b (x ∷ (ys ++ zs)) (ys ++ zs) ≡ cond b (x ∷ ys) ys ++ zs
    by true ys zs = refl
    by false ys zs = refl

-- one step of the walk along the others
pub record IsStep (held after others : List Contribution) (at : ℕ) (c : Contribution) : Type 0 where
  pub ahead : IsAhead (members_of held) (members_of after) (members_of (drop (at + 1) others))
  pub held_is : has (members_of after) (member c) ≡ has (members_of held) (member c)
  pub front : missing (members_of held) (members_of (take (at + 1) others)) ≡ missing (members_of held) (members_of (take at others)) ++ missing (members_of held) (member c ∷ [])

pub step_by : (held rest after others : List Contribution) (at : ℕ) (c : Contribution) → at < length others → c ≡ get_or others at c → Rises (members_of others) → IsAhead (members_of held) (members_of rest) (members_of (drop at others))
    → KeepsFrom (members_of rest) (members_of after) (member c) → Rises (members_of after) → IsStep held after others at c
step_by held rest after others at c within is s a k r =
    let h : IsHeldAt others at c = record { within = within; is = is } in
    let here : IsAhead (members_of held) (members_of rest) (member c ∷ members_of (drop (at + 1) others)) = subst (IsAhead (members_of held) (members_of rest)) (slice_back_more others at c h) a in
    record {
      ahead = ahead_more (members_of held) (members_of rest) (members_of after) (members_of (take at others)) (member c) (members_of (drop (at + 1) others)) (subst Rises (split_at others at c h) s) here k r;
      held_is = ahead_held (members_of held) (members_of rest) (members_of after) (member c) (members_of (drop (at + 1) others)) here k;
      front = ap (missing (members_of held)) (slice_front_more others at c h) ∙ missing_push (members_of held) (members_of (take at others)) (member c);
    }

one_missing : (s : List Member) (m : Member) (b : Bool) → has s m ≡ b → missing s (m ∷ []) ≡ cond (not b) (m ∷ []) []
one_missing s m b e = ap (λ c. cond (not c) (m ∷ []) []) e

pub passed : {held after others : List Contribution} {at : ℕ} {c : Contribution} → IsStep held after others at c → has (members_of after) (member c) ≡ true
    → missing (members_of held) (members_of (take (at + 1) others)) ≡ missing (members_of held) (members_of (take at others))
passed {held} {after} {others} {at} {c} s e = s.front ∙ ap (λ t. missing (members_of held) (members_of (take at others)) ++ t) (one_missing (members_of held) (member c) true (sym s.held_is ∙ e)) ∙ append-nil (missing (members_of held) (members_of (take at others)))

pub counted : {held after others : List Contribution} {at : ℕ} {c : Contribution} → IsStep held after others at c → has (members_of after) (member c) ≡ false
    → missing (members_of held) (members_of (take (at + 1) others)) ≡ missing (members_of held) (members_of (take at others)) ++ member c ∷ []
counted {held} {after} {others} {at} {c} s e = s.front ∙ ap (λ t. missing (members_of held) (members_of (take at others)) ++ t) (one_missing (members_of held) (member c) false (sym s.held_is ∙ e))

-- a list whose last is above the last of another ends above it
pub ends_by : (s t front rest : List Member) (h o : Member) → s ≡ front ++ h ∷ [] → t ≡ rest ++ o ∷ [] → Rises t → member_cmp o h ≡ Less → EndsAbove s t
ends_by s t front rest h o e f r less = (
  λ none. absurd (push_some front h (sym e ∙ none)),
  λ ahead m is.
      let same : h ≡ m = (same_from_push front ahead h m (sym e ∙ is)).1 in
      all_by_in (λ x. member_cmp x m ≡ Less) t (λ q i. subst (λ z. member_cmp q z ≡ Less) same (elim (in_append q rest (o ∷ []) (subst (In q) f i)) [
        | inl a ↦ members_total.trans q o h (below_in member_cmp rest [] o q (subst Rises f r) a) less
        | inr b ↦ elim b [ inl one ↦ subst (λ z. member_cmp z h ≡ Less) one less | inr none ↦ absurd none ]
      ])),
)
  where
    push_some : (xs : List Member) (x : Member) → xs ++ x ∷ [] ≢ []
    push_some [] x e = cc
    push_some (y ∷ xs) x e = cc

pub ends_by_order : (s t front rest : List Member) (h o : Member) (r : Ordering) (b : Bool) → r ≡ member_cmp o h → b ≡ is_lt r → s ≡ front ++ h ∷ [] → t ≡ rest ++ o ∷ [] → Rises s → Rises t → AreApart t s
    → MatchBool b (EndsAbove s t) (EndsAbove t s)
ends_by_order s t front rest h o Less true e i f g rs rt apart = ends_by s t front rest h o f g rt (sym e)
ends_by_order s t front rest h o Less false e i f g rs rt apart = cc
ends_by_order s t front rest h o Greater false e i f g rs rt apart = ends_by t s rest front o h g f rs (turned members_total o h Greater (sym e))
ends_by_order s t front rest h o Greater true e i f g rs rt apart = cc
ends_by_order s t front rest h o Equal true e i f g rs rt apart = cc
ends_by_order s t front rest h o Equal false e i f g rs rt apart =
    let same : o ≡ h = members_same o h (sym e) in
    let in_t : has t o ≡ true = has_from_in t o (subst (In o) (sym g) (in_right o rest (o ∷ []) (inl refl))) in
    let in_s : has s o ≡ true = has_from_in s o (subst (In o) (sym f) (in_right o front (h ∷ []) (inl (sym same)))) in
    let none : has s o ≡ false = apart o in_t in
    cc

has_append : (xs ys : List Member) (q : Member) → has (xs ++ ys) q ≡ (has xs q || has ys q)
has_append [] ys q = refl
has_append (x ∷ xs) ys q = ap (λ b. is_eq (member_cmp q x) || b) (has_append xs ys q) ∙ sym (or_assoc (is_eq (member_cmp q x)) (has xs q) (has ys q))

rises_append : (xs ys : List Member) → Rises xs → Rises ys → ((x y : Member) → In x xs → In y ys → member_cmp x y ≡ Less) → Rises (xs ++ ys)
unfolding IsStrictlySortedBy
rises_append [] ys s t h = t
rises_append (x ∷ xs) ys s t h = (
  all_by_in (λ y. member_cmp x y ≡ Less) (xs ++ ys) (λ q i. elim (in_append q xs ys i) [ inl a ↦ all_in (λ y. member_cmp x y ≡ Less) xs q s.0 a | inr b ↦ h x q (inl refl) b ]),
  rises_append xs ys s.1 t (λ a b i j. h a b (inr i) j),
)

-- what is left of both lists, and what was taken from them, is their union
pub record IsMerging (s_left t_left taken s t : List Member) : Type 0 where
  pub first : Rises (s_left ++ taken)
  pub second : Rises (t_left ++ taken)
  pub apart : AreApart s_left t_left
  pub all : (q : Member) → (has s_left q || (has t_left q || has taken q)) ≡ (has s q || has t q)

pub merge_start : (s t : List Member) → Rises s → Rises t → AreApart s t → IsMerging s t [] s t
merge_start s t a b apart = record {
  first = rw append-nil a;
  second = rw append-nil b;
  apart = apart;
  all = λ q. or_none (has s q) (has t q);
}
  where
    or_none : (a b : Bool) → (a || (b || false)) ≡ (a || b)
    or_none true b = refl
    or_none false true = refl
    or_none false false = refl

taken_below : (s_left t_left taken : List Member) (m : Member) → Rises (s_left ++ m ∷ taken) → Rises (t_left ++ taken) → AreBelow t_left m → Rises (t_left ++ m ∷ taken)
taken_below s_left t_left taken m up second below =
    rises_append t_left (m ∷ taken) (rises_left t_left taken second) (rises_right s_left (m ∷ taken) up)
    (λ x y i j. elim j [
      | inl e ↦ subst (λ z. member_cmp x z ≡ Less) e (all_in (λ z. member_cmp z m ≡ Less) t_left x below i)
      | inr k ↦ members_total.trans x m y (all_in (λ z. member_cmp z m ≡ Less) t_left x below i) (above_in member_cmp s_left taken m y up k)
    ])

apart_less : (s s_left : List Member) (m : Member) (t : List Member) → s ≡ s_left ++ m ∷ [] → AreApart s t → AreApart s_left t
apart_less s s_left m t e apart = λ q h. apart q (has_from_in s q (subst (In q) (sym e) (in_left q s_left (m ∷ []) (in_from_has s_left q h))))

apart_fewer : (s t t_left : List Member) (m : Member) → t ≡ t_left ++ m ∷ [] → AreApart s t → AreApart s t_left
apart_fewer s t t_left m e apart = λ q h. by (has t_left q) (has (m ∷ []) q) (sym (ap (λ z. has z q) e ∙ has_append t_left (m ∷ []) q) ∙ apart q h)
  where
    by : (a b : Bool) → (a || b) ≡ false → a ≡ false
    by true b f = cc
    by false b f = refl

pub merge_step : (s_now t_now taken s t s_left t_left : List Member) (m : Member) → IsMerging s_now t_now taken s t → TakesGreatest s_now t_now s_left t_left m → IsMerging s_left t_left (m ∷ taken) s t
merge_step s_now t_now taken s t s_left t_left m w (inl g) =
    let up : Rises (s_left ++ m ∷ taken) = subst Rises (ap (λ z. z ++ taken) g.0 ∙ append_assoc s_left (m ∷ []) taken) w.first in
    record {
      first = up;
      second = subst (λ z. Rises (z ++ m ∷ taken)) (sym g.1) (taken_below s_left t_now taken m up w.second g.2);
      apart = subst (AreApart s_left) (sym g.1) (apart_less s_now s_left m t_now g.0 w.apart);
      all = λ q. ap (λ z. has s_left q || (has z q || has (m ∷ taken) q)) g.1 ∙ shift (has s_left q) (is_eq (member_cmp q m)) (has t_now q) (has taken q)
          ∙ ap (λ b. b || (has t_now q || has taken q)) (sym (ap (λ z. has z q) g.0 ∙ has_append s_left (m ∷ []) q)) ∙ w.all q;
    }
  where
    shift : (a e b r : Bool) → (a || (b || (e || r))) ≡ ((a || (e || false)) || (b || r))
    shift true e b r = refl
    shift false true true r = refl
    shift false true false r = refl
    shift false false b r = refl
merge_step s_now t_now taken s t s_left t_left m w (inr g) =
    let up : Rises (t_left ++ m ∷ taken) = subst Rises (ap (λ z. z ++ taken) g.0 ∙ append_assoc t_left (m ∷ []) taken) w.second in
    record {
      first = subst (λ z. Rises (z ++ m ∷ taken)) (sym g.1) (taken_below t_left s_now taken m up w.first g.2);
      second = up;
      apart = subst (λ z. AreApart z t_left) (sym g.1) (apart_fewer s_now t_now t_left m g.0 w.apart);
      all = λ q. ap (λ z. has z q || (has t_left q || has (m ∷ taken) q)) g.1
          ∙ ap (λ b. has s_now q || b) (shift (has t_left q) (is_eq (member_cmp q m)) (has taken q) ∙ ap (λ b. b || has taken q) (sym (ap (λ z. has z q) g.0 ∙ has_append t_left (m ∷ []) q))) ∙ w.all q;
    }
  where
    shift : (a e r : Bool) → (a || (e || r)) ≡ ((a || (e || false)) || r)
    shift true e r = refl
    shift false true r = refl
    shift false false r = refl

pub merge_end : (taken s t : List Member) → Rises s → IsMerging [] [] taken s t → taken ≡ union s t
merge_end taken s t r w = one_list members_total members_same taken (union s t) w.first (rises_union s t r) (λ q. w.all q ∙ sym (has_union s t q))

all_kept : (P : Member → Type 0) (x : Member) (b : Bool) (ys : List Member) → P x → AllByRecursion P ys → AllByRecursion P (cond b (x ∷ ys) ys)
all_kept P x true ys p a = (p, a)
all_kept P x false ys p a = a

all_filter : (P : Member → Type 0) (p : Member → Bool) (xs : List Member) → AllByRecursion P xs → AllByRecursion P (filter p xs)
all_filter P p [] a = tt
all_filter P p (x ∷ xs) a = all_kept P x (p x) (filter p xs) a.0 (all_filter P p xs a.1)

filtered_by : (p : Member → Bool) (x : Member) (xs : List Member) → Rises (x ∷ xs) → (b : Bool) → Rises (filter p xs) → Rises (cond b (x ∷ filter p xs) (filter p xs))
unfolding IsStrictlySortedBy
filtered_by p x xs s true r = (all_filter (λ y. member_cmp x y ≡ Less) p xs s.0, r)
filtered_by p x xs s false r = r

rises_filter : (p : Member → Bool) (xs : List Member) → Rises xs → Rises (filter p xs)
unfolding IsStrictlySortedBy
rises_filter p [] s = tt
rises_filter p (x ∷ xs) s = filtered_by p x xs s (p x) (rises_filter p xs s.1)

passes_by : (p : Member → Bool) (x q : Member) (b : Bool) (ys : List Member) → p x ≡ b → (In q ys → p q ≡ true) → In q (cond b (x ∷ ys) ys) → p q ≡ true
passes_by p x q true ys e f (inl same) = ap p (sym same) ∙ e
passes_by p x q true ys e f (inr i) = f i
passes_by p x q false ys e f i = f i

in_filter : (p : Member → Bool) (xs : List Member) (q : Member) → In q (filter p xs) → p q ≡ true
in_filter p [] q h = absurd h
in_filter p (x ∷ xs) q h = passes_by p x q (p x) (filter p xs) refl (in_filter p xs q) h

pub rises_missing : (s t : List Member) → Rises t → Rises (missing s t)
rises_missing s t r = rises_filter (λ m. not (has s m)) t r

pub missing_apart : (s t : List Member) → AreApart s (missing s t)
missing_apart s t = λ q h. false_from_ne_true (has (missing s t) q) (λ k. not_both (has s q) (in_filter (λ m. not (has s m)) t q (in_from_has (missing s t) q k)) h)
