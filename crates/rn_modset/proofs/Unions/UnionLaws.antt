-- The laws of union.
use Rattle.std.proofs.Common.{◌≡◌, Bool, true, false, ◌||◌, List, [], ◌∷◌, ◌++◌, refl, sym, ap, ◌∙◌}
use Rattle.std.specs.List.{flat_map}
use Rattle.std.specs.List.Sorted.{IsStrictlySortedBy}
use Rattle.rn_modset.specs.Contributions.{Member}
use Rattle.rn_modset.specs.Sets.{IsUnion, Rises, has, with_member, union}
use Rattle.rn_modset.specs.Laws.{AreUnionLaws, AreCallLaws, Call, added, joined, after, brought}
use Rattle.rn_modset.proofs.OrderedMembers.MemberOrder.{members_total, members_same}
use Rattle.rn_modset.proofs.OrderedMembers.RisingLists.{one_list}
use Rattle.rn_modset.proofs.Unions.UnionMembers.{has_union, rises_union}
use Rattle.rn_modset.proofs.Unions.HeldMembers.{held, of_both}
use Rattle.std.proofs.Math.Bool.{or_assoc}

or_commutes : (a b : Bool) → (a || b) ≡ (b || a)
or_commutes true true = refl
or_commutes true false = refl
or_commutes false true = refl
or_commutes false false = refl

or_repeats : (a : Bool) → (a || a) ≡ a
or_repeats true = refl
or_repeats false = refl

-- lists that rise and hold the same members are one
pub one_set : (s t : List Member) → Rises s → Rises t → ((q : Member) → has s q ≡ has t q) → s ≡ t
one_set s t = one_list members_total members_same s t

-- so a union is what rises and holds what one of both holds
pub is_union : (s t : List Member) → Rises s → IsUnion s t (union s t)
is_union s t h = record { rises = rises_union s t h; holds = λ q. of_both s t q }

pub is_with_one : (s : List Member) (m : Member) → Rises s → IsUnion s (m ∷ []) (with_member s m)
is_with_one s m h = is_union s (m ∷ []) h

same_truth : (a b : Bool) → (a ≡ true → b ≡ true) → (b ≡ true → a ≡ true) → a ≡ b
same_truth true b to from = sym (to refl)
same_truth false true to from = from refl
same_truth false false to from = refl

pub one_union : (s t first second : List Member) → IsUnion s t first → IsUnion s t second → first ≡ second
one_union s t first second h k = one_set first second h.rises k.rises
    (λ q. same_truth (has first q) (has second q) (λ e. (held second q).1 ((k.holds q).1 ((h.holds q).0 ((held first q).0 e)))) (λ e. (held first q).1 ((h.holds q).1 ((k.holds q).0 ((held second q).0 e)))))

rises_none : Rises []
unfolding IsStrictlySortedBy
rises_none = tt

pub union_laws : AreUnionLaws
union_laws = record {
  commutes = λ s t h k. one_set (union s t) (union t s) (rises_union s t h.rises) (rises_union t s k.rises)
      (λ q. has_union s t q ∙ or_commutes (has s q) (has t q) ∙ sym (has_union t s q));
  associates = λ s t u h k l. one_set (union (union s t) u) (union s (union t u)) (rises_union (union s t) u (rises_union s t h.rises)) (rises_union s (union t u) h.rises)
      (λ q. has_union (union s t) u q ∙ ap (λ b. b || has u q) (has_union s t q) ∙ or_assoc (has s q) (has t q) (has u q) ∙ ap (λ b. has s q || b) (sym (has_union t u q)) ∙ sym (has_union s (union t u) q));
  repeats = λ s h. one_set (union s s) s (rises_union s s h.rises) h.rises (λ q. has_union s s q ∙ or_repeats (has s q));
  begins = λ s h. one_set (union [] s) s (rises_union [] s rises_none) h.rises (λ q. has_union [] s q);
}

union_append : (s t u : List Member) → union s (t ++ u) ≡ union (union s t) u
union_append s [] u = refl
union_append s (m ∷ t) u = union_append (with_member s m) t u

after_is : (s : List Member) (calls : List Call) → after s calls ≡ union s (flat_map brought calls)
after_is s [] = refl
after_is s (added m ∷ calls) = after_is (with_member s m) calls
after_is s (joined t ∷ calls) = after_is (union s t) calls ∙ sym (union_append s t (flat_map brought calls))

pub call_laws : AreCallLaws
call_laws = record {
  union_of = λ calls. after_is [] calls;
  same = λ first second h. after_is [] first
      ∙ one_set (union [] (flat_map brought first)) (union [] (flat_map brought second)) (rises_union [] (flat_map brought first) rises_none) (rises_union [] (flat_map brought second) rises_none)
      (λ q. has_union [] (flat_map brought first) q ∙ h q ∙ sym (has_union [] (flat_map brought second) q))
      ∙ sym (after_is [] second);
}
