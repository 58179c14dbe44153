-- Contributions beside the digests of their texts.
use Rattle.std.specs.Prelude.{◌≡◌, ℕ, ◌+◌, ◌≤◌, List, map, vec_len, vec_capacity}
use Rattle.rn_modset.specs.declared.members.Digested.{Digested}
use Rattle.rn_modset.specs.declared.members.Members.{Members}
use Rattle.rn_modset.specs.Contributions.{Member, member, members_of}
use Rattle.rn_modset.specs.Sets.{IsSet}
use Rattle.rn_modset.specs.Digests.{text_digest}

-- the contributions as values
abbrev pub members_in : Members → List Member
members_in ms = members_of ms.contributions.items

-- the digest is that of the contribution's text
abbrev pub IsDigested : Digested → Type 0
IsDigested d = d.digest ≡ text_digest (member d.contribution)

-- the digests are those of the contributions' texts, each at its place
abbrev pub AreDigested : Members → Type 0
AreDigested ms = ms.digests.items ≡ map text_digest (members_in ms)

-- there is room for n members more
abbrev pub HasRoom : Members → ℕ → Type 0
HasRoom ms n = (vec_len ms.contributions + n ≤ vec_capacity ms.contributions) × (vec_len ms.digests + n ≤ vec_capacity ms.digests)

-- what a set keeps: its contributions are those of a set, and the digests are those of their texts
pub record IsKept (ms : Members) : Type 0 where
  pub set : IsSet (members_in ms)
  pub digested : AreDigested ms
