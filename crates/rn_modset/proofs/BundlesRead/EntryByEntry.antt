-- What a reader of bundles knows entry by entry.
use Rattle.std.proofs.Common.{◌≡◌, ◌≢◌, ℕ, zero, suc, ◌-◌, ◌<◌, ◌⊎◌, inl, inr, Bool, true, false, ◌||◌, List, [], ◌∷◌, ◌++◌, length, get_or, refl, sym, ap, subst, ◌∙◌, arith, append_assoc}
use Rattle.std.specs.declared.cmp.Ordering.{Ordering}
use Rattle.std.specs.declared.cmp.Ordering.TheVariants.{Less, Equal, Greater}
use Rattle.std.specs.List.{All, AllByRecursion}
use Rattle.std.specs.List.Sorted.{IsStrictlySortedBy}
use Rattle.std.proofs.lemmas.Bool.{cases_order}
use Rattle.std.proofs.lemmas.List.Elements.{All-push}
use Rattle.rn_modset.specs.declared.contribution.Contribution.{Contribution}
use Rattle.rn_modset.specs.Contributions.{Member, member, members_of, member_cmp, IsWithinLimits}
use Rattle.rn_modset.specs.Sets.{Rises, IsSet}
use Rattle.rn_modset.specs.Bundles.{entry, entries, first_line, end_line, bundle}
use Rattle.rn_modset.specs.Contributions.{is_withdrawal, has_withdrawal}
use Rattle.rn_modset.specs.inside.Headers.{IsLastLine}
use Rattle.rn_modset.proofs.OrderedMembers.MemberOrder.{members_total}
use Rattle.rn_modset.proofs.BundlesWritten.SpelledBundles.{IsSpelledFront}
use Rattle.rn_modset.proofs.Unions.Membership.{In}
use Rattle.rn_modset.proofs.OrderedMembers.SearchedPlaces.{rise_at}
use Rattle.rn_modset.proofs.OrderedMembers.ProgramOrder.{same_order}
use Rattle.rn_modset.specs.contracts.contribution.ContributionOrd.TheImpl.{ghosts}
use Rattle.std.specs.Ordering.{is_lt}
use Rattle.std.proofs.Math.Bool.{or_assoc}

all_push : (P : Member → Type 0) (ms : List Member) (m : Member) → AllByRecursion P ms → P m → AllByRecursion P (ms ++ m ∷ [])
all_push P [] m a p = (p, tt)
all_push P (x ∷ ms) m a p = (a.0, all_push P ms m a.1 p)

push_all : (ms : List Member) (m : Member) → Rises ms → AllByRecursion (λ x. member_cmp x m ≡ Less) ms → Rises (ms ++ m ∷ [])
unfolding IsStrictlySortedBy
push_all [] m s a = (tt, tt)
push_all (x ∷ ms) m s a = (all_push (λ y. member_cmp x y ≡ Less) ms m s.0 a.0, push_all ms m s.1 a.1)

all_from_reads : (P : Member → Type 0) (cs : List Contribution) → ((k : ℕ) (d : Contribution) → k < length cs → P (member (get_or cs k d))) → AllByRecursion P (members_of cs)
all_from_reads P [] h = tt
all_from_reads P (c ∷ cs) h = (h 0 c (omega arith), all_from_reads P cs (λ k d lt. h (suc k) d (omega arith)))

below_by : (cs : List Contribution) (m : Member) (d : Contribution) (k n : ℕ) → length cs ≡ suc n → Rises (members_of cs) → member_cmp (member (get_or cs n d)) m ≡ Less → k < length cs
    → (k ≡ n) ⊎ ((k < n) ⊎ (n < k)) → member_cmp (member (get_or cs k d)) m ≡ Less
below_by cs m d k n e s h lt (inl same) = subst (λ (j : ℕ). member_cmp (member (get_or cs j d)) m ≡ Less) (sym same) h
below_by cs m d k n e s h lt (inr (inl less)) = members_total.trans (member (get_or cs k d)) (member (get_or cs n d)) m (rise_at cs k n d s less (omega arith)) h
below_by cs m d k n e s h lt (inr (inr more)) = absurd (omega arith)

-- one more, greater than the last
pub rises_push : (cs : List Contribution) (m : Member) → Rises (members_of cs) → 0 < length cs → ((d : Contribution) → member_cmp (member (get_or cs (length cs - 1) d)) m ≡ Less) → Rises (members_of cs ++ m ∷ [])
rises_push cs m s pos h = push_all (members_of cs) m s
    (all_from_reads (λ x. member_cmp x m ≡ Less) cs (λ k d lt. below_by cs m d k (length cs - 1) (omega arith) s (h d) lt (cases_order k (length cs - 1))))

pub rises_first : (cs : List Contribution) (m : Member) → length cs ≡ 0 → Rises (members_of cs ++ m ∷ [])
unfolding IsStrictlySortedBy
rises_first [] m e = (tt, tt)
rises_first (c ∷ cs) m e = absurd (omega arith)

append_nil : (xs : List ℕ) → xs ++ [] ≡ xs
append_nil [] = refl
append_nil (x ∷ xs) = ap (λ t. x ∷ t) (append_nil xs)

pub entries_push : (ms : List Member) (m : Member) → entries (ms ++ m ∷ []) ≡ entries ms ++ entry m
entries_push [] m = append_nil (entry m)
entries_push (x ∷ ms) m = ap (λ t. entry x ++ t) (entries_push ms m) ∙ sym (append_assoc (entry x) (entries ms) (entry m))

length_push : (ms : List Member) (m : Member) → length (ms ++ m ∷ []) ≡ suc (length ms)
length_push [] m = refl
length_push (x ∷ ms) m = ap (λ n. suc n) (length_push ms m)

good_push : (ms : List Member) (m : Member) → All IsWithinLimits ms → IsWithinLimits m → All IsWithinLimits (ms ++ m ∷ [])
good_push ms m a g = All-push IsWithinLimits ms m a g

is_less : (r : Ordering) → is_lt r ≡ true → r ≡ Less
is_less Less e = refl
is_less Equal e = cc
is_less Greater e = cc

pub less_from_test : (a b : Contribution) (r : Ordering) → r ≡ ghosts.cmp a b → is_lt r ≡ true → member_cmp (member a) (member b) ≡ Less
less_from_test a b r e h = sym (same_order a b) ∙ sym e ∙ is_less r h

any_push : (ms : List Member) (m : Member) → has_withdrawal (ms ++ m ∷ []) ≡ (has_withdrawal ms || is_withdrawal m)
any_push [] m = or_false (is_withdrawal m)
  where
    or_false : (b : Bool) → (b || false) ≡ b
    or_false true = refl
    or_false false = refl
any_push (x ∷ ms) m = ap (λ b. is_withdrawal x || b) (any_push ms m) ∙ sym (or_assoc (is_withdrawal x) (has_withdrawal ms) (is_withdrawal m))

version_push : (w a b : Bool) → (a ≡ true → w ≡ true) → (b ≡ true → w ≡ true) → (a || b) ≡ true → w ≡ true
version_push w true b f g e = f refl
version_push w false b f g e = g e

-- nothing is read yet
pub front_start : (bytes rest : List ℕ) (w : Bool) → bytes ≡ first_line w ++ rest → IsSpelledFront bytes w [] rest
unfolding IsStrictlySortedBy
front_start bytes rest w e = record { is = e; good = λ k d h. absurd (omega arith); rises = tt; few = omega arith; version = λ h. cc }

-- one entry more
pub front_more : (bytes rest left : List ℕ) (w : Bool) (ms : List Member) (m : Member) → IsSpelledFront bytes w ms rest → rest ≡ entry m ++ left → IsWithinLimits m → length ms < 1024 → (is_withdrawal m ≡ true → w ≡ true) → Rises (ms ++ m ∷ [])
    → IsSpelledFront bytes w (ms ++ m ∷ []) left
front_more bytes rest left w ms m f e good few version more_rise = record {
  is = f.is ∙ ap (λ t. first_line w ++ t) (ap (λ t. entries ms ++ t) e ∙ sym (append_assoc (entries ms) (entry m) left) ∙ ap (λ t. t ++ left) (sym (entries_push ms m)));
  good = good_push ms m f.good good;
  rises = more_rise;
  few = omega (arith, length_push ms m);
  version = λ h. version_push w (has_withdrawal ms) (is_withdrawal m) f.version version (sym (any_push ms m) ∙ h);
}

pub front_set : (bytes rest : List ℕ) (w : Bool) (ms : List Member) → IsSpelledFront bytes w ms rest → IsSet ms
front_set bytes rest w ms f = record { rises = f.rises; few = f.few; good = f.good }

-- the last line makes the bytes the set's bundle
pub front_end : (bytes rest line after : List ℕ) (w : Bool) (ms : List Member) → IsSpelledFront bytes w ms rest → rest ≡ line ++ 10 ∷ after → IsLastLine w ms line → after ≡ [] → bytes ≡ bundle ms
front_end bytes rest line after w ms f e ends none =
    f.is ∙ ap (λ t. first_line w ++ (entries ms ++ t)) (e ∙ ap (λ t. line ++ 10 ∷ t) none ∙ ap (λ t. t ++ 10 ∷ []) ends.1)
    ∙ ap (λ v. first_line v ++ (entries ms ++ (end_line (length ms) ++ 10 ∷ []))) ends.0
    ∙ sym (append_assoc (first_line (has_withdrawal ms)) (entries ms) (end_line (length ms) ++ 10 ∷ []))
    ∙ sym (append_assoc (first_line (has_withdrawal ms) ++ entries ms) (end_line (length ms)) (10 ∷ []))

pub in_get : (cs : List Contribution) (k : ℕ) (d : Contribution) → k < length cs → In (member (get_or cs k d)) (members_of cs)
in_get [] k d lt = absurd (omega arith)
in_get (c ∷ cs) zero d lt = inl refl
in_get (c ∷ cs) (suc k) d lt = inr (in_get cs k d (omega arith))

not_less : (r : Ordering) → is_lt r ≡ false → r ≢ Less
not_less Less e f = cc
not_less Equal e f = cc
not_less Greater e f = cc

pub not_less_from_test : (a b : Contribution) (r : Ordering) → r ≡ ghosts.cmp a b → is_lt r ≡ false → member_cmp (member a) (member b) ≢ Less
not_less_from_test a b r e h f = not_less r h (e ∙ same_order a b ∙ f)
