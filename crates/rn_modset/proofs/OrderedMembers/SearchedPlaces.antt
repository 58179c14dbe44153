-- Where a search finds a contribution's place.
use Rattle.std.proofs.Common.{◌≡◌, ℕ, zero, suc, ◌+◌, ◌<◌, true, List, [], ◌∷◌, length, get_or, map, Result, Ok, Err, MatchResult, MatchOption, refl, sym, ap, subst, ◌∙◌, arith}
use Rattle.std.specs.declared.cmp.Ordering.TheVariants.{Less, Equal, Greater}
use Rattle.std.specs.Ordering.{is_eq, ordering_index, ordering_reverse}
use Rattle.std.specs.List.{insert}
use Rattle.std.specs.Result.{result_err}
use Rattle.std.specs.List.Sorted.{IsBinarySearchResult, IsSearchInRange, IsNonDecreasingBy}
use Rattle.std.proofs.lemmas.Cmp.{tied_back}
use Rattle.std.proofs.lemmas.Map.Keys.{Less-from_sorted}
use Rattle.std.proofs.lemmas.List.Sorted.{searchable_from_sorted}
use Rattle.rn_modset.specs.declared.contribution.Contribution.{Contribution}
use Rattle.rn_modset.specs.contracts.contribution.ContributionOrd.TheImpl.{ghosts}
use Rattle.rn_modset.specs.Contributions.{Member, member, members_of, member_cmp}
use Rattle.rn_modset.specs.Sets.{Rises, has}
use Rattle.rn_modset.specs.inside.Insertion.{IsInsertionPlace}
use Rattle.rn_modset.proofs.OrderedMembers.MemberOrder.{members_total}
use Rattle.rn_modset.proofs.OrderedMembers.ProgramOrder.{same_order}
use Rattle.rn_modset.proofs.OrderedMembers.RisingLists.{insert_at}
use Rattle.std.proofs.lemmas.Bool.{or_left, or_right}
use Rattle.rn_modset.proofs.TestAnswers.Orderings.{greater_not_less}

pub reads_map : (cs : List Contribution) (j : ℕ) (d : Member) (e : Contribution) → j < length cs → get_or (map member cs) j d ≡ member (get_or cs j e)
reads_map [] j d e h = absurd (omega arith)
reads_map (c ∷ cs) zero d e h = refl
reads_map (c ∷ cs) (suc j) d e h = reads_map cs j d e (omega arith)

pub length_map : (cs : List Contribution) → length (map member cs) ≡ length cs
length_map [] = refl
length_map (c ∷ cs) = ap (λ n. suc n) (length_map cs)

pub map_insert : {A B : Type 0} (f : A → B) (xs : List A) (i : ℕ) (x : A) → map f (insert xs i x) ≡ insert (map f xs) i (f x)
map_insert f [] zero x = refl
map_insert f [] (suc i) x = refl
map_insert f (y ∷ xs) zero x = refl
map_insert f (y ∷ xs) (suc i) x = ap (λ t. f y ∷ t) (map_insert f xs i x)

found : (cs : List Contribution) (i : ℕ) (m : Member) → i < length cs → ((d : Contribution) → member_cmp (member (get_or cs i d)) m ≡ Equal) → has (members_of cs) m ≡ true
found [] i m lt h = absurd (omega arith)
found (x ∷ cs) zero m lt h = or_left _ _ (ap is_eq (tied_back members_total _ _ (h x)))
found (x ∷ cs) (suc i) m lt h = or_right _ _ (found cs i m (omega arith) h)

pub rise_at : (cs : List Contribution) (i j : ℕ) (d : Contribution) → Rises (members_of cs) → i < j → j < length cs → member_cmp (member (get_or cs i d)) (member (get_or cs j d)) ≡ Less
rise_at cs i j d s h lt =
    let e : j < length (map member cs) = omega (arith, length_map cs) in
    subst (λ (m : Member). member_cmp m (member (get_or cs j d)) ≡ Less) (reads_map cs i (member d) d (omega arith))
    (subst (λ (m : Member). member_cmp (get_or (map member cs) i (member d)) m ≡ Less) (reads_map cs j (member d) d lt) (Less-from_sorted member_cmp (map member cs) i j (member d) s h e))

searchable : (cs : List Contribution) (c : Contribution) → Rises (members_of cs) → IsNonDecreasingBy (λ y. ordering_index (ghosts.cmp y c)) cs
searchable cs c s i j d le lt =
    let far = searchable_from_sorted members_total member cs (member c) (λ k d low high. greater_not_less _ (members_total.antisymm _ _ ∙ ap ordering_reverse (rise_at cs k (k + 1) d s (omega arith) high))) i j d le lt in
    rw (same_order (get_or cs i d) c, same_order (get_or cs j d) c) far

placed : (cs : List Contribution) (c : Contribution) (r : Result ℕ ℕ) → Rises (members_of cs) → IsBinarySearchResult (λ y. ghosts.cmp y c) cs r → IsSearchInRange r (length cs)
    → MatchResult r (λ i. has (members_of cs) (member c) ≡ true) (IsInsertionPlace cs c)
placed cs c (Ok i) s h lt = found cs i (member c) lt (λ d. sym (same_order (get_or cs i d) c) ∙ h d)
placed cs c (Err i) s h le =
    let parts = h (searchable cs c s) in
    let at = insert_at members_total (members_of cs) (member c) i
    (λ j d lt. subst (λ (m : Member). member_cmp m (member c) ≡ Less) (sym (reads_map cs j d c (omega arith))) (sym (same_order (get_or cs j c) c) ∙ parts.0 j c (omega arith) lt))
    (λ j d low lt. let high : j < length cs = omega (arith, length_map cs) in
    subst (λ (m : Member). member_cmp m (member c) ≡ Greater) (sym (reads_map cs j d c high)) (sym (same_order (get_or cs j c) c) ∙ parts.1 j c low high))
    (omega (arith, length_map cs)) in
    record { within = le; lacks = at.1; is = map_insert member cs i c ∙ at.0 }

-- where it belongs, if it is not held
pub place_of : (cs : List Contribution) (c : Contribution) (r : Result ℕ ℕ) → Rises (members_of cs) → IsBinarySearchResult (λ y. ghosts.cmp y c) cs r → IsSearchInRange r (length cs)
    → MatchOption (result_err r) (has (members_of cs) (member c) ≡ true) (IsInsertionPlace cs c)
place_of cs c (Ok i) s h b = placed cs c (Ok i) s h b
place_of cs c (Err i) s h b = placed cs c (Err i) s h b
