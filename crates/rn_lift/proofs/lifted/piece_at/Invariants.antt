-- What is left makes of what was found the last piece of all.
use Rattle.std.proofs.Common.{◌≡◌, ◌≤◌, length, IfSome}
use Rattle.rn_lift.specs.Origins.{last_from, piece_at}
use Rattle.rn_lift.proofs.lifted.piece_at.Given as goal

abbrev pub invariant-pieces : goal.invariant-pieces
invariant-pieces l = record {
  last : last_from l.found l.at l.rest ≡ piece_at l.pieces l.at;
  before : IfSome l.found (λ p. p.from ≤ l.at);
}

abbrev pub decreases-pieces : goal.decreases-pieces
decreases-pieces l = length l.rest
