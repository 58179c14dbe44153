use Rattle.std.proofs.Common.{◌≡◌, false, map, take, Contains}
use Rattle.rn_assemble.specs.declared.including.segments.FollowedInclude.{FollowedInclude}
use Rattle.rn_assemble.specs.inside.Pieces.{overrides_in}
use Rattle.rn_assemble.specs.inside.Runs.{marked_in}
use Rattle.rn_assemble.proofs.including.segments.Segments.mark_overridden.Given as goal

abbrev pub invariant-loop-brought : goal.invariant-loop-brought
invariant-loop-brought l = record {
  marked : l.pieces ≡ map (marked_in l.row (take l.brought-index l.self.brought.items)) l.fn.pieces;
  none : l.has_marked ≡ false → (b : FollowedInclude) → Contains (take l.brought-index l.self.brought.items) b → overrides_in l.row b ≡ false;
}
