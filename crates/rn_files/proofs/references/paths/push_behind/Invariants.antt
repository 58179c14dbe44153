use Rattle.std.proofs.Common.{◌≡◌, ◌++◌, ◌∷◌, take}
use Rattle.std.specs.Prelude.{string_bytes}
use Rattle.std.specs.List.{flat_map}
use Rattle.rn_files.proofs.references.paths.push_behind.Given as goal

abbrev pub invariant-loop-segment : goal.invariant-loop-segment
invariant-loop-segment l = string_bytes l.path ≡ string_bytes l.initial.path ++ flat_map (λ s. 47 ∷ s.now) (take l.segment-index l.segments)
