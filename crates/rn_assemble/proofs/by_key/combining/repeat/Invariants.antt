-- The members from the index on were added up to here.
use Rattle.std.proofs.Common.{◌≡◌, ◌-◌, ◌++◌, drop, map, take}
use Rattle.rn_pattern.specs.View.{shared_view}
use Rattle.rn_assemble.proofs.by_key.combining.repeat.Given as goal

abbrev pub invariant-loop-index : goal.invariant-loop-index
invariant-loop-index l = map shared_view l.members.items ≡ map shared_view l.fn.members.items ++ take (l.index - l.begin) (drop l.begin (map shared_view l.fn.members.items))
