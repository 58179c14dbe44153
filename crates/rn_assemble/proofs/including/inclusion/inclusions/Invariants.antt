-- The rows of the modules so far.
use Rattle.rn_graph.specs.Graph.{rows_of}
use Rattle.rn_assemble.proofs.Expansion.FirstIncludes.{AreBegun}
use Rattle.rn_assemble.proofs.including.inclusion.inclusions.Given as goal

abbrev pub invariant-loop-module : goal.invariant-loop-module
invariant-loop-module l = AreBegun l.modules l.module-index (rows_of l.rows)
