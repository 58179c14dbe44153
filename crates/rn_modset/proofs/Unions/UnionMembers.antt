-- The union of two sets: what it holds, its length, and that only what is missing need be put in.
use Rattle.std.proofs.Common.{◌≡◌, ℕ, suc, ◌+◌, ◌≤◌, Bool, true, false, cond, not, ◌||◌, List, [], ◌∷◌, ◌++◌, length, refl, sym, ap, ◌∙◌, arith}
use Rattle.std.specs.declared.cmp.Ordering.TheVariants.{Less}
use Rattle.std.specs.Ordering.{eq_by_cmp, ordering_reverse}
use Rattle.std.specs.List.{All, AllByRecursion}
use Rattle.std.specs.List.Sorted.{IsStrictlySortedBy}
use Rattle.std.proofs.lemmas.Cmp.{eq_by_cmp_equiv}
use Rattle.std.proofs.lemmas.Map.Steps.{list_any_congr}
use Rattle.std.proofs.lemmas.Map.Views.{All-insert_key}
use Rattle.rn_modset.specs.Contributions.{Member, member_cmp, IsWithinLimits}
use Rattle.rn_modset.specs.Sets.{Rises, IsSet, has, with_member, union}
use Rattle.rn_modset.specs.inside.Merges.{missing}
use Rattle.rn_modset.proofs.OrderedMembers.MemberOrder.{members_total, members_same}
use Rattle.rn_modset.proofs.OrderedMembers.RisingLists.{has_insert, one_list}
use Rattle.rn_modset.proofs.Unions.AddedMember.{rises_with, length_with}
use Rattle.rn_modset.proofs.TestAnswers.Orderings.{greater_not_equal}

or_turn : (a b c : Bool) → ((a || b) || c) ≡ (b || (a || c))
or_turn true true c = refl
or_turn true false c = refl
or_turn false b c = refl

pub has_with : (s : List Member) (m q : Member) → has (with_member s m) q ≡ (eq_by_cmp member_cmp q m || has s q)
has_with s m q = has_insert members_total s m q

pub has_union : (s t : List Member) (q : Member) → has (union s t) q ≡ (has s q || has t q)
has_union s [] q = or-false (has s q)
  where
    or-false : (a : Bool) → a ≡ (a || false)
    or-false true = refl
    or-false false = refl
has_union s (m ∷ ms) q = has_union (with_member s m) ms q ∙ ap (λ b. b || has ms q) (has_with s m q) ∙ or_turn (eq_by_cmp member_cmp q m) (has s q) (has ms q)

pub rises_union : (s t : List Member) → Rises s → Rises (union s t)
rises_union s [] h = h
rises_union s (m ∷ ms) h = rises_union (with_member s m) ms (rises_with s m h)

pub good_union : (s t : List Member) → All IsWithinLimits s → All IsWithinLimits t → All IsWithinLimits (union s t)
good_union s [] g h = g
good_union s (m ∷ ms) g h = good_union (with_member s m) ms (All-insert_key member_cmp m IsWithinLimits s g (h 0 m (omega arith))) (λ k d lt. h (suc k) d (omega arith))

pub union_push : (s t : List Member) (m : Member) → union s (t ++ m ∷ []) ≡ with_member (union s t) m
union_push s [] m = refl
union_push s (x ∷ t) m = union_push (with_member s x) t m

has_missing_by : (e h a f t : Bool) → (e ≡ true → a ≡ h) → (a || f) ≡ (a || t) → (g : Bool) → g ≡ cond (not h) (e || f) f → (a || g) ≡ (a || (e || t))
has_missing_by true true true f t tie ih g is = refl
has_missing_by true true false f t tie ih g is = cc (tie refl)
has_missing_by true false a f t tie ih g is = rw (tie refl) is
has_missing_by false true a f t tie ih g is = ap (λ b. a || b) is ∙ ih
has_missing_by false false a f t tie ih g is = ap (λ b. a || b) is ∙ ih

filter_has : (s : List Member) (b : Bool) (m q : Member) (fs : List Member) → has (cond b (m ∷ fs) fs) q ≡ cond b (eq_by_cmp member_cmp q m || has fs q) (has fs q)
filter_has s true m q fs = refl
filter_has s false m q fs = refl

has_missing : (s t : List Member) (q : Member) → (has s q || has (missing s t) q) ≡ (has s q || has t q)
has_missing s [] q = refl
has_missing s (m ∷ ms) q =
    has_missing_by (eq_by_cmp member_cmp q m) (has s m) (has s q) (has (missing s ms) q) (has ms q)
    (λ e. list_any_congr (eq_by_cmp_equiv members_total) q m s e) (has_missing s ms q) (has (missing s (m ∷ ms)) q) (filter_has s (not (has s m)) m q (missing s ms))

pub union_missing : (s t : List Member) → Rises s → union s (missing s t) ≡ union s t
union_missing s t h = one_list members_total members_same _ _ (rises_union s (missing s t) h) (rises_union s t h)
    (λ q. has_union s (missing s t) q ∙ has_missing s t q ∙ sym (has_union s t q))

-- what is above m is missing from s with m as it is from s
same_missing : (s : List Member) (m : Member) (t : List Member) → AllByRecursion (λ x. member_cmp m x ≡ Less) t → missing (with_member s m) t ≡ missing s t
same_missing s m [] a = refl
same_missing s m (x ∷ t) a =
    let e : eq_by_cmp member_cmp x m ≡ false = greater_not_equal (member_cmp x m) (members_total.antisymm x m ∙ ap ordering_reverse a.0) in
    let h : has (with_member s m) x ≡ has s x = has_with s m x ∙ ap (λ b. b || has s x) e in
    let ih = same_missing s m t a.1 in
    ap (λ b. cond (not b) (x ∷ missing (with_member s m) t) (missing (with_member s m) t)) h ∙ ap (λ ys. cond (not (has s x)) (x ∷ ys) ys) ih

length_by : (b : Bool) (m : Member) (fs : List Member) (n k : ℕ) → k ≡ cond b n (n + 1) → k + length fs ≡ n + length (cond (not b) (m ∷ fs) fs)
length_by true m fs n k e = omega arith
length_by false m fs n k e = omega arith

pub length_union : (s t : List Member) → Rises s → Rises t → length (union s t) ≡ length s + length (missing s t)
unfolding IsStrictlySortedBy
length_union s [] h k = omega arith
length_union s (m ∷ ms) h k =
    length_union (with_member s m) ms (rises_with s m h) k.1
    ∙ ap (λ ys. length (with_member s m) + length ys) (same_missing s m ms k.0)
    ∙ length_by (has s m) m (missing s ms) (length s) (length (with_member s m)) (length_with s m h)

pub kept_union : (s t : List Member) → IsSet s → IsSet t → length s + length (missing s t) ≤ 1024 → IsSet (union s t)
kept_union s t h k few = record {
  rises = rises_union s t h.rises;
  few = omega (arith, length_union s t h.rises k.rises);
  good = good_union s t h.good k.good;
}
