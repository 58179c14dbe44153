use Rattle.std.proofs.Common.{◌≡◌, map, take}
use Rattle.rn_files.specs.Paths.{walked_folder}
use Rattle.rn_files.proofs.references.paths.walk_segments.Given as goal

abbrev pub invariant-loop-segment : goal.invariant-loop-segment
invariant-loop-segment l = map (λ s. s.now) l.folder.items ≡ walked_folder (map (λ s. s.now) (take l.segment-index l.segments))
