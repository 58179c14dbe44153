-- The members of the pieces before are there, and where those of each segment begin.
use Rattle.std.proofs.Common.{List, map}
use Rattle.rn_pattern.specs.View.{shared_view}
use Rattle.rn_assemble.specs.Components.{Component, NamedModule}
use Rattle.rn_assemble.specs.inside.Segments.{AreSegmentsOf}
use Rattle.rn_assemble.proofs.Joining.MembersSoFar.{Membered}
use Rattle.rn_assemble.proofs.by_key.combining.members_of.Given as goal

abbrev pub invariant-loop-piece : goal.invariant-loop-piece
invariant-loop-piece l = (modules : List NamedModule) (cs : List Component) → AreSegmentsOf modules l.segments cs → Membered modules l.segments.list.items l.row l.pieces l.begins.items (map shared_view l.members.items) l.piece-index
