use Rattle.std.proofs.Common.{◌≡◌, ℕ, ◌+◌, ◌-◌, ◌<◌, ◌≤◌, List, ◌++◌, length, drop, get_or}
use Rattle.std.specs.List.{concat}
use Rattle.rn_files.specs.TextLines.{lines}
use Rattle.rn_files.proofs.line_breaks.line_at.Given as goal

abbrev pub decreases-loop-length : goal.decreases-loop-length
decreases-loop-length l = length l.bytes - l.start

abbrev pub invariant-loop-length : goal.invariant-loop-length
invariant-loop-length l = (l.start ≤ length l.bytes) × (l.start ≤ l.at) × (l.number ≤ l.start + 1)
    × (0 < l.start → get_or l.bytes (l.start - 1) 0 < 128)
    × ((before : List (List ℕ)) × (lines l.bytes ≡ before ++ lines (drop l.start l.bytes)) × (l.number ≡ length before + 1)
    × (l.start ≡ length (concat before)))
