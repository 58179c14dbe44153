-- Of the components so far none is an include's own.
use Rattle.std.proofs.Common.{◌≡◌, false, take, Contains}
use Rattle.rn_assemble.specs.declared.including.segments.FollowedInclude.{FollowedInclude}
use Rattle.rn_assemble.specs.inside.Pieces.{overrides_in}
use Rattle.rn_assemble.proofs.including.segments.Segments.has_own.Given as goal

abbrev pub invariant-loop-component : goal.invariant-loop-component
invariant-loop-component l = (b : FollowedInclude) → Contains l.self.brought.items b → overrides_in (take l.component-index l.row) b ≡ false
