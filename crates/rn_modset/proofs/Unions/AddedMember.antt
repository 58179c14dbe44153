-- What a set keeps when a contribution is put in.
use Rattle.std.proofs.Common.{◌≡◌, ℕ, ◌+◌, ◌<◌, ◌≤◌, Bool, true, false, cond, List, [], length, Result, Ok, Err, OnOk, IfErr, refl, arith}
use Rattle.std.specs.List.{insert}
use Rattle.std.specs.List.Sorted.{IsStrictlySortedBy}
use Rattle.std.proofs.lemmas.Map.Views.{All-insert_key}
use Rattle.rn_modset.specs.declared.contribution.Contribution.{Contribution}
use Rattle.rn_modset.specs.Contributions.{Member, member, members_of, member_cmp, IsWithinLimits}
use Rattle.rn_modset.specs.Sets.{Rises, IsSet, has, with_member}
use Rattle.rn_modset.specs.inside.Insertion.{IsInsertionPlace}
use Rattle.rn_modset.proofs.OrderedMembers.MemberOrder.{members_total}
use Rattle.rn_modset.proofs.OrderedMembers.SearchedPlaces.{length_map}
use Rattle.rn_modset.proofs.OrderedMembers.RisingLists.{sorted_insert, length_insert, insert_held}

pub none_kept : IsSet []
unfolding IsStrictlySortedBy
none_kept = record { rises = tt; few = omega arith; good = λ k d h. absurd (omega arith) }

pub rises_with : (s : List Member) (m : Member) → Rises s → Rises (with_member s m)
rises_with s m h = sorted_insert members_total s m h

pub length_with : (s : List Member) (m : Member) → Rises s → length (with_member s m) ≡ cond (has s m) (length s) (length s + 1)
length_with s m h = length_insert members_total s m h

pub with_held : (s : List Member) (m : Member) → Rises s → has s m ≡ true → with_member s m ≡ s
with_held s m h e = insert_held members_total s m h e

few_by : (b : Bool) (n : ℕ) → n ≤ 1024 → (b ≡ false → n < 1024) → cond b n (n + 1) ≤ 1024
few_by true n le room = le
few_by false n le room = omega (arith, room refl)

pub kept_with : (s : List Member) (m : Member) → IsSet s → IsWithinLimits m → (has s m ≡ false → length s < 1024) → IsSet (with_member s m)
kept_with s m h g room = record {
  rises = rises_with s m h.rises;
  few = rw (length_with s m h.rises) (few_by (has s m) (length s) h.few room);
  good = All-insert_key member_cmp m IsWithinLimits s h.good g;
}

-- the list after an insertion that may have been refused
pub kept_after : {T E : Type 0} (P : E → Type 0) (cs items : List Contribution) (c : Contribution) (at : ℕ) (r : Result T E) → IsSet (members_of cs) → IsInsertionPlace cs c at → IsWithinLimits (member c) → length cs < 1024 → OnOk r (items ≡ insert cs at c)
    → IfErr r (λ e. P e × (items ≡ cs)) → IsSet (members_of items)
kept_after P cs items c at (Ok x) h p g room e f = rw e (rw p.is (kept_with (members_of cs) (member c) h g (λ _. omega (arith, length_map cs))))
kept_after P cs items c at (Err x) h p g room e f = rw f.1 h
