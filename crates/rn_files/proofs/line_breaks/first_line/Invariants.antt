use Rattle.std.proofs.Common.{◌≡◌, take, drop}
use Rattle.rn_files.specs.TextLines.{lines, onto}
use Rattle.rn_files.proofs.line_breaks.first_line.Given as goal

abbrev pub invariant-loop-i : goal.invariant-loop-i
invariant-loop-i l = lines l.bytes ≡ onto (take l.i l.bytes) (lines (drop l.i l.bytes))
