-- The lacks so far are among the findings.
use Rattle.std.proofs.Common.{◌≡◌, ◌++◌, map, take}
use Rattle.rn_assemble.specs.inside.Diagnosing.{lack_finding}
use Rattle.rn_assemble.proofs.diagnosing.findings.push_overrides.Given as goal

abbrev pub invariant-loop-lack : goal.invariant-loop-lack
invariant-loop-lack l = l.found.items ≡ l.fn.found.items ++ map lack_finding (take l.lack-index l.lack-items)
