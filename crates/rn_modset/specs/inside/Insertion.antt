-- Where a contribution goes that a set doesn't hold yet.
use Rattle.std.specs.Prelude.{◌≡◌, ℕ, ◌≤◌, false, List, length}
use Rattle.std.specs.List.{insert}
use Rattle.rn_modset.specs.declared.contribution.Contribution.{Contribution}
use Rattle.rn_modset.specs.Contributions.{members_of, member}
use Rattle.rn_modset.specs.Sets.{has, with_member}

-- the contribution is not held, and stands at this place in the set with it
pub record IsInsertionPlace (cs : List Contribution) (c : Contribution) (at : ℕ) : Type 0 where
  pub within : at ≤ length cs
  pub lacks : has (members_of cs) (member c) ≡ false
  pub is : members_of (insert cs at c) ≡ with_member (members_of cs) (member c)
