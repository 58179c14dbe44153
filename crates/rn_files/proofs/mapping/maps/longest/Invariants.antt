use Rattle.std.proofs.Common.{◌≡◌, take}
use Rattle.std.specs.List.{fold}
use Rattle.std.specs.Prelude.{None}
use Rattle.rn_files.proofs.LongestPrefixes.{better, seen}
use Rattle.rn_files.proofs.mapping.maps.longest.Given as goal

-- the best of the maps so far
abbrev pub invariant-loop-map : goal.invariant-loop-map
invariant-loop-map l = seen l.best ≡ fold (better l.uri) None (take l.map-index l.maps)
