-- The first places of the members of the pieces before.
use Rattle.std.proofs.Common.{List}
use Rattle.rn_assemble.specs.Components.{Component, NamedModule}
use Rattle.rn_assemble.specs.inside.Segments.{AreSegmentsOf}
use Rattle.rn_assemble.proofs.Joining.FirstMembers.{Placed}
use Rattle.rn_assemble.proofs.by_key.combining.firsts_of.Given as goal

abbrev pub invariant-loop-piece : goal.invariant-loop-piece
invariant-loop-piece l = (modules : List NamedModule) (cs : List Component) → AreSegmentsOf modules l.segments cs → Placed modules l.segments.list.items l.row l.pieces l.begins.items l.firsts.items l.piece-index
