-- The union of bundles holds what they bring, whatever their order.
use Rattle.std.proofs.Common.{◌≡◌, ◌≢◌, ℕ, ◌≤◌, ◌⊎◌, inl, inr, ⊎_elim, List, [], ◌∷◌, length, take, drop, refl, sym, ap, subst, ◌∙◌, arith, take-append-drop}
use Rattle.std.specs.Prelude.{Contains, Some, slice_get}
use Rattle.std.proofs.lemmas.Bool.{or_cases, or_left, or_right}
use Rattle.std.proofs.lemmas.Option.{slice_get_within, get_or_from_slice_get}
use Rattle.rn_text.proofs.Words.TruthValues.{same_test}
use Rattle.rn_modset.specs.Contributions.{Member}
use Rattle.rn_modset.specs.Sets.{Rises, has, union}
use Rattle.rn_modset.specs.BundleGrammar.{IsBundle}
use Rattle.rn_modset.proofs.Unions.AddedMember.{none_kept}
use Rattle.rn_modset.proofs.Unions.Membership.{In, in_left, in_from_contains, contains_from_in, in_from_has, has_from_in}
use Rattle.rn_modset.proofs.BundleFaults.OneBundleFault.{bundle_fault}
use Rattle.rn_modset.proofs.BundlesRead.DistinctBundles as readable
use Rattle.rn_modset.proofs.Unions.UnionLaws.{one_set}
use Rattle.rn_modset.proofs.Unions.UnionMembers.{has_union, rises_union, length_union}
use Rattle.rn_merge.specs.declared.run.RunFault.{RunFault}
use Rattle.rn_merge.specs.declared.run.RunFault.TheVariants.{Bundle, Full, Memory, Write}
use Rattle.rn_merge.specs.Laws.{Brings, BringSame, AreSame}
use Rattle.rn_merge.specs.Runs.{unions, AreBundles, IsTooMany, IsUnion, HasNoUnion}

-- ---- unions

in_union_either : (s t : List Member) (q : Member) → In q (union s t) → In q s ⊎ In q t
in_union_either s t q h =
    ⊎_elim (λ e. inl (in_from_has s q e)) (λ e. inr (in_from_has t q e)) (or_cases (has s q) (has t q) (sym (has_union s t q) ∙ has_from_in (union s t) q h))

in_union_first : (s t : List Member) (q : Member) → In q s → In q (union s t)
in_union_first s t q h = in_from_has (union s t) q (has_union s t q ∙ or_left (has s q) (has t q) (has_from_in s q h))

in_union_second : (s t : List Member) (q : Member) → In q t → In q (union s t)
in_union_second s t q h = in_from_has (union s t) q (has_union s t q ∙ or_right (has s q) (has t q) (has_from_in t q h))

in_unions : (s : List Member) (ts : List (List Member)) (q : Member) → In q (unions s ts) → In q s ⊎ ((t : List Member) × In t ts × In q t)
in_unions s [] q h = inl h
in_unions s (t ∷ ts) q h =
    ⊎_elim (λ i. ⊎_elim (λ a. inl a) (λ b. inr (t, inl refl, b)) (in_union_either s t q i)) (λ (u, i, k). inr (u, inr i, k)) (in_unions (union s t) ts q h)

unions_first : (s : List Member) (ts : List (List Member)) (q : Member) → In q s → In q (unions s ts)
unions_first s [] q h = h
unions_first s (t ∷ ts) q h = unions_first (union s t) ts q (in_union_first s t q h)

unions_some : (s : List Member) (ts : List (List Member)) (t : List Member) (q : Member) → In t ts → In q t → In q (unions s ts)
unions_some s [] t q i h = absurd i
unions_some s (u ∷ ts) t q (inl e) h = unions_first (union s u) ts q (in_union_second s u q (subst (λ (v : List Member). In q v) (sym e) h))
unions_some s (u ∷ ts) t q (inr i) h = unions_some (union s u) ts t q i h

rises_unions : (s : List Member) (ts : List (List Member)) → Rises s → Rises (unions s ts)
rises_unions s [] h = h
rises_unions s (t ∷ ts) h = rises_unions (union s t) ts (rises_union s t h)

union_rises : (bundles : List (List ℕ)) (s : List Member) → IsUnion bundles s → Rises s
union_rises bundles s h = subst Rises (sym h.is) (rises_unions [] h.sets none_kept.rises)

-- sets that hold the same contributions are one
one_by_members : (s t : List Member) → Rises s → Rises t → ((q : Member) → In q s → In q t) → ((q : Member) → In q t → In q s) → s ≡ t
one_by_members s t h k f g =
    one_set s t h k (λ q. same_test (has s q) (has t q) (λ e. has_from_in t q (f q (in_from_has s q e))) (λ e. has_from_in s q (g q (in_from_has t q e))))

-- a set that lies within another is not longer
no_longer : (s t : List Member) → Rises s → Rises t → ((q : Member) → In q s → In q t) → length s ≤ length t
no_longer s t h k f =
    let e : union s t ≡ t = one_by_members (union s t) t (rises_union s t h) k (λ q i. ⊎_elim (λ a. f q a) (λ b. b) (in_union_either s t q i)) (λ q i. in_union_second s t q i) in
    omega (arith, ap (λ (u : List Member). length u) e, length_union s t h k)

-- ---- bundles

set_of_bundle : (bundles : List (List ℕ)) (sets : List (List Member)) → AreBundles bundles sets → (b : List ℕ) → In b bundles → (t : List Member) × In t sets × IsBundle b t
set_of_bundle [] sets a b i = absurd i
set_of_bundle (c ∷ bundles) [] a b i = absurd a
set_of_bundle (c ∷ bundles) (s ∷ sets) a b (inl e) = (s, inl refl, subst (λ (x : List ℕ). IsBundle x s) e a.0)
set_of_bundle (c ∷ bundles) (s ∷ sets) a b (inr i) = let (t, k, is) = set_of_bundle bundles sets a.1 b i in (t, inr k, is)

bundle_of_set : (bundles : List (List ℕ)) (sets : List (List Member)) → AreBundles bundles sets → (t : List Member) → In t sets → (b : List ℕ) × In b bundles × IsBundle b t
bundle_of_set [] [] a t i = absurd i
bundle_of_set [] (s ∷ sets) a t i = absurd a
bundle_of_set (c ∷ bundles) [] a t i = absurd i
bundle_of_set (c ∷ bundles) (s ∷ sets) a t (inl e) = (c, inl refl, subst (λ (x : List Member). IsBundle c x) e a.0)
bundle_of_set (c ∷ bundles) (s ∷ sets) a t (inr i) = let (b, k, is) = bundle_of_set bundles sets a.1 t i in (b, inr k, is)

module _ (bundles : List (List ℕ)) (s : List Member) (h : IsUnion bundles s) where
  -- what the union holds, one of the bundles brings
  pub brought : (m : Member) → Contains s m → Brings bundles m
  brought m c =
      ⊎_elim (λ i. absurd i)
      (λ (t, i, k). let (b, j, is) = bundle_of_set bundles h.sets h.are t i in (b, t, contains_from_in bundles b j, is, contains_from_in t m k))
      (in_unions [] h.sets m (subst (λ (u : List Member). In m u) h.is (in_from_contains s m c)))

  -- the union holds what a bundle brings
  pub held : (m : Member) → Brings bundles m → Contains s m
  held m (b, t, c, is, k) =
      let (u, i, other) = set_of_bundle bundles h.sets h.are b (in_from_contains bundles b c) in
      let same : t ≡ u = readable.one_set_of_bundle b t u is other in
      let inside : In m u = subst (λ (v : List Member). In m v) same (in_from_contains t m k) in
      contains_from_in s m (subst (λ (v : List Member). In m v) (sym h.is) (unions_some [] h.sets u m i inside))

-- bundles that bring the same contributions have one union
pub one_union : (bundles others : List (List ℕ)) (s t : List Member) → IsUnion bundles s → IsUnion others t → BringSame bundles others → s ≡ t
one_union bundles others s t h k same =
    one_by_members s t (union_rises bundles s h) (union_rises others t k)
    (λ q i. in_from_contains t q (held others t k q ((same q).0 (brought bundles s h q (contains_from_in s q i)))))
    (λ q i. in_from_contains s q (held bundles s h q ((same q).1 (brought others t k q (contains_from_in t q i)))))

pub same_brought : (bundles others : List (List ℕ)) → AreSame bundles others → BringSame bundles others
same_brought bundles others same m = (λ (b, t, c, is, k). (b, t, (same b).0 c, is, k), λ (b, t, c, is, k). (b, t, (same b).1 c, is, k))

-- ---- in any order

at_index : (bundles : List (List ℕ)) (i : ℕ) (b : List ℕ) → slice_get bundles i ≡ Some b → Contains bundles b
at_index bundles i b e = (i, slice_get_within bundles i b e, get_or_from_slice_get bundles i b b e)

in_take : (n : ℕ) (bundles : List (List ℕ)) (b : List ℕ) → Contains (take n bundles) b → Contains bundles b
in_take n bundles b c =
    contains_from_in bundles b (subst (λ (l : List (List ℕ)). In b l) (take-append-drop n bundles) (in_left b (take n bundles) (drop n bundles) (in_from_contains (take n bundles) b c)))

-- bundles that bring no more than those that have a union are not too many
pub not_too_many : (bundles others : List (List ℕ)) (s : List Member) → IsUnion bundles s → ((m : Member) → Brings others m → Brings bundles m) → IsTooMany others → ⊥
not_too_many bundles others s h inside k =
    let front = take k.index others in
    let before : (q : Member) → In q k.before → In q s = λ q i.
    let (b, t, c, is, m) = brought front k.before k.union_before q (contains_from_in k.before q i) in
    in_from_contains s q (held bundles s h q (inside q (b, t, in_take k.index others b c, is, m))) in
    let next : (q : Member) → In q k.next → In q s = λ q i.
    in_from_contains s q (held bundles s h q (inside q (k.bytes, k.next, at_index others k.index k.bytes k.at, k.is_bundle, contains_from_in k.next q i))) in
    let few = no_longer (union k.before k.next) s (rises_union k.before k.next (union_rises front k.before k.union_before)) (union_rises bundles s h)
    (λ q i. ⊎_elim (λ a. before q a) (λ b. next q b) (in_union_either k.before k.next q i)) in
    absurd (omega (arith, few, k.many, h.few))

-- bundles that have a union have no fault in any other order, and are not too many
pub no_fault : (bundles others : List (List ℕ)) (s : List Member) (fault : RunFault) → IsUnion bundles s → ((b : List ℕ) → Contains others b → Contains bundles b) → HasNoUnion others fault → fault ≡ Memory
no_fault bundles others s (Bundle i f) h inside k =
    let (t, j, is) = set_of_bundle bundles h.sets h.are k.bytes (in_from_contains bundles k.bytes (inside k.bytes (at_index others i k.bytes k.at))) in
    absurd (k.is_damage (bundle_fault k.bytes t f is k.has))
no_fault bundles others s Full h inside k = absurd (not_too_many bundles others s h (λ m (b, t, c, is, l). (b, t, inside b c, is, l)) k)
no_fault bundles others s Memory h inside k = refl
no_fault bundles others s Write h inside k = absurd k

sets_of : (bundles : List (List ℕ)) → ((b : List ℕ) → In b bundles → (t : List Member) × IsBundle b t) → (sets : List (List Member)) × AreBundles bundles sets
sets_of [] h = ([], tt)
sets_of (b ∷ bundles) h =
    let (t, is) = h b (inl refl) in
    let rest = sets_of bundles (λ c i. h c (inr i)) in
    (t ∷ rest.0, (is, rest.1))

-- bundles that have a union have it in any other order
pub same_union : (bundles others : List (List ℕ)) (s : List Member) → IsUnion bundles s → AreSame bundles others → IsUnion others s
same_union bundles others s h same =
    let made = sets_of others (λ b i.
    let (t, j, is) = set_of_bundle bundles h.sets h.are b (in_from_contains bundles b ((same b).1 (contains_from_in others b i))) in
    (t, is)) in
    let t : List Member = unions [] made.0 in
    let rises : Rises t = rises_unions [] made.0 none_kept.rises in
    let within : (q : Member) → In q t → In q s = λ q i.
    ⊎_elim (λ a. absurd a)
    (λ (u, j, k).
    let (b, l, is) = bundle_of_set others made.0 made.1 u j in
    in_from_contains s q (held bundles s h q (b, u, (same b).1 (contains_from_in others b l), is, contains_from_in u q k)))
    (in_unions [] made.0 q i) in
    let few = no_longer t s rises (union_rises bundles s h) within in
    let made_union : IsUnion others t = record { sets = made.0; are = made.1; is = refl; few = omega (arith, few, h.few) } in
    subst (λ (u : List Member). IsUnion others u) (sym (one_union bundles others s t h made_union (same_brought bundles others same))) made_union

-- where the one have a union, others that bring the same are not too many
pub never_full : (bundles others : List (List ℕ)) (s : List Member) (fault : RunFault) → IsUnion bundles s → BringSame bundles others → HasNoUnion others fault → fault ≢ Full
never_full bundles others s (Bundle i f) h same k = λ e. cc
never_full bundles others s Full h same k = λ e. not_too_many bundles others s h (λ m. (same m).1) k
never_full bundles others s Memory h same k = λ e. cc
never_full bundles others s Write h same k = λ e. cc
