use Rattle.std.proofs.Common.{length}
use Rattle.rn_graph.proofs.Graphs.Searches.Rising.{IsUniting}
use Rattle.rn_graph.proofs.search.drop_bounds.Given as goal

abbrev pub invariant-loop-bounds : goal.invariant-loop-bounds
invariant-loop-bounds l = IsUniting l.fn.bounds.items l.bounds.items l.fn.place

abbrev pub decreases-loop-bounds : goal.decreases-loop-bounds
decreases-loop-bounds l = length l.bounds.items
