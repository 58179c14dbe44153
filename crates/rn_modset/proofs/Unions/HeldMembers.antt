-- What a set with a contribution, and a union, contain.
use Rattle.std.proofs.Common.{◌≡◌, true, ◌⊎◌, inl, inr, ◌↔◌, List, sym, ap, ◌∙◌}
use Rattle.std.specs.List.{Contains}
use Rattle.std.specs.Ordering.{is_eq, eq_by_cmp}
use Rattle.std.proofs.lemmas.Cmp.{tied_itself}
use Rattle.rn_modset.specs.Contributions.{Member, member_cmp}
use Rattle.rn_modset.specs.Sets.{has, with_member, union}
use Rattle.rn_modset.proofs.OrderedMembers.MemberOrder.{members_total, members_same}
use Rattle.rn_modset.proofs.Unions.Membership.{in_from_has, has_from_in, in_from_contains, contains_from_in}
use Rattle.rn_modset.proofs.Unions.UnionMembers.{has_with, has_union}
use Rattle.std.proofs.lemmas.Bool.{or_left, or_right, or_cases}
use Rattle.rn_modset.proofs.TestAnswers.Orderings.{tied}

-- the test of a set is the containing
contains_from_has : (s : List Member) (m : Member) → has s m ≡ true → Contains s m
contains_from_has s m e = contains_from_in s m (in_from_has s m e)

has_from_contains : (s : List Member) (m : Member) → Contains s m → has s m ≡ true
has_from_contains s m c = has_from_in s m (in_from_contains s m c)

pub held : (s : List Member) (m : Member) → (has s m ≡ true) ↔ Contains s m
held s m = (contains_from_has s m, has_from_contains s m)

same_from_eq : (q m : Member) → eq_by_cmp member_cmp q m ≡ true → q ≡ m
same_from_eq q m e = members_same q m (tied (member_cmp q m) e)

eq_from_same : (q m : Member) → q ≡ m → eq_by_cmp member_cmp q m ≡ true
eq_from_same q m e = ap is_eq (ap (λ z. member_cmp q z) (sym e) ∙ tied_itself members_total q)

pub with_one : (s : List Member) (m q : Member) → Contains (with_member s m) q ↔ ((q ≡ m) ⊎ Contains s q)
with_one s m q = (
  λ c. elim (or_cases (eq_by_cmp member_cmp q m) (has s q) (sym (has_with s m q) ∙ has_from_contains (with_member s m) q c)) [
    | inl e ↦ inl (same_from_eq q m e)
    | inr h ↦ inr (contains_from_has s q h)
  ],
  λ c. contains_from_has (with_member s m) q (has_with s m q ∙ elim c [
    | inl e ↦ or_left (eq_by_cmp member_cmp q m) (has s q) (eq_from_same q m e)
    | inr k ↦ or_right (eq_by_cmp member_cmp q m) (has s q) (has_from_contains s q k)
  ]),
)

pub of_both : (s t : List Member) (q : Member) → Contains (union s t) q ↔ (Contains s q ⊎ Contains t q)
of_both s t q = (
  λ c. elim (or_cases (has s q) (has t q) (sym (has_union s t q) ∙ has_from_contains (union s t) q c)) [
    | inl h ↦ inl (contains_from_has s q h)
    | inr h ↦ inr (contains_from_has t q h)
  ],
  λ c. contains_from_has (union s t) q (has_union s t q ∙ elim c [
    | inl k ↦ or_left (has s q) (has t q) (has_from_contains s q k)
    | inr k ↦ or_right (has s q) (has t q) (has_from_contains t q k)
  ]),
)
