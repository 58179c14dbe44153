use Rattle.std.proofs.Common.{◌≡◌, take}
use Rattle.rn_flat.proofs.compare.first_difference.Given as goal

-- the texts agree so far
abbrev pub invariant-loop-at : goal.invariant-loop-at
invariant-loop-at l = take l.at l.found ≡ take l.at l.wanted
