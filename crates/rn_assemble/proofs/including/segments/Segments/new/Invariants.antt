use Rattle.std.proofs.Common.{◌≡◌, ℕ, [], take}
use Rattle.rn_assemble.specs.inside.Segments.{HavePlaces, places_at}
use Rattle.rn_assemble.proofs.including.segments.Segments.new.Given as goal

abbrev pub invariant-loop-content : goal.invariant-loop-content
invariant-loop-content l = record {
  empty : (m j : ℕ) → places_at l.places.items m j ≡ [];
  sizes : HavePlaces (take l.content-index l.contents) l.places.items;
}
