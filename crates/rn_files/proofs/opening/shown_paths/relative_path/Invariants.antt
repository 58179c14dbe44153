use Rattle.std.proofs.Common.{◌≡◌, take}
use Rattle.std.specs.Prelude.{string_bytes}
use Rattle.rn_files.specs.inside.ShownPaths.{climbs}
use Rattle.rn_files.proofs.opening.shown_paths.relative_path.Given as goal

-- the way out of the folders so far
abbrev pub invariant-loop-byte : goal.invariant-loop-byte
invariant-loop-byte l = string_bytes l.shown ≡ climbs (take l.byte-index l.byte-items)
