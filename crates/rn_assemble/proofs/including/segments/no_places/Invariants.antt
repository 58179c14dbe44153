use Rattle.std.proofs.Common.{◌≡◌, ℕ, [], length}
use Rattle.rn_assemble.specs.inside.Segments.{places_in}
use Rattle.rn_assemble.proofs.including.segments.no_places.Given as goal

abbrev pub invariant-loop : goal.invariant-loop
invariant-loop l = record {
  size : length l.places.items ≡ l.counter;
  empty : (n : ℕ) → places_in l.places.items n ≡ [];
}
