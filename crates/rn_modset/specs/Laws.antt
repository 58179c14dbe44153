-- The laws of union, and what a set holds after calls that add to it.
use Rattle.std.specs.Prelude.{◌≡◌, List, [], ◌∷◌}
use Rattle.std.specs.List.{flat_map}
use Rattle.rn_modset.specs.Contributions.{Member}
use Rattle.rn_modset.specs.Sets.{IsSet, has, with_member, union}

-- union is commutative, associative and idempotent, and the empty set changes nothing
pub record AreUnionLaws : Type 0 where
  pub commutes : (s t : List Member) → IsSet s → IsSet t → union s t ≡ union t s
  pub associates : (s t u : List Member) → IsSet s → IsSet t → IsSet u → union (union s t) u ≡ union s (union t u)
  pub repeats : (s : List Member) → IsSet s → union s s ≡ s
  pub begins : (s : List Member) → IsSet s → union [] s ≡ s

-- a call that answered Ok: a contribution was added, or a set was joined, which may have been read from a bundle
pub data Call : Type 0 where
  added : (m : Member) → Call
  joined : (s : List Member) → Call

-- the set after the calls
abbrev pub after : List Member → List Call → List Member
after s [] = s
after s (added m ∷ calls) = after (with_member s m) calls
after s (joined t ∷ calls) = after (union s t) calls

-- what a call brought
abbrev pub brought : Call → List Member
brought (added m) = m ∷ []
brought (joined s) = s

-- after any calls, a set that began empty is the union of what they brought; so their order and repeats change nothing
pub record AreCallLaws : Type 0 where
  pub union_of : (calls : List Call) → after [] calls ≡ union [] (flat_map brought calls)
  pub same : (first second : List Call) → ((m : Member) → has (flat_map brought first) m ≡ has (flat_map brought second) m) → after [] first ≡ after [] second
