use Rattle.std.proofs.Common.{arith}
use Rattle.rn_graph.specs.Graph.{rows_of}
use Rattle.rn_graph.proofs.Graphs.RowEnds.{length_rows}
use Rattle.rn_graph.proofs.rows.Rows.len.Goals as goal

pub returns : goal.returns
unfolding rows_of
returns c =
    let s = c.args.self.now in
    omega (arith, length_rows s.nodes.items 0 s.ends.items, s.ends.ok)
