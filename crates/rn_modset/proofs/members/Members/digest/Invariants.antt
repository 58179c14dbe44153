use Rattle.std.proofs.Common.{take}
use Rattle.std.specs.List.{flat_map}
use Rattle.sha2.specs.Hashers.{Holds256}
use Rattle.rn_modset.proofs.members.Members.digest.Given as goal

-- the digests so far
abbrev pub invariant-loop-digest : goal.invariant-loop-digest
invariant-loop-digest l = Holds256 l.hasher (flat_map (λ digest. digest) (take l.digest-index l.digests))
