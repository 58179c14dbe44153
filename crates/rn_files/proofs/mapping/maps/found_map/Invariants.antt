use Rattle.std.proofs.Common.{length}
use Rattle.rn_files.proofs.LongestPrefixes.{IsPassed}
use Rattle.rn_files.proofs.mapping.maps.found_map.Given as goal

-- the groups before what is left have no map
abbrev pub invariant-loop-rest : goal.invariant-loop-rest
invariant-loop-rest l = IsPassed l.groups l.rest l.uri

abbrev pub decreases-loop-rest : goal.decreases-loop-rest
decreases-loop-rest l = length l.rest
