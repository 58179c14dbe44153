-- The names so far are among the findings.
use Rattle.std.proofs.Common.{◌≡◌, ◌++◌, map, take}
use Rattle.rn_assemble.specs.inside.Diagnosing.{undefined_finding}
use Rattle.rn_assemble.proofs.diagnosing.findings.push_undefined_names.Given as goal

abbrev pub invariant-loop-undefined : goal.invariant-loop-undefined
invariant-loop-undefined l = l.found.items ≡ l.fn.found.items ++ map undefined_finding (take l.undefined-index l.undefined-items)
