use Rattle.std.proofs.Common.{arith, ◌∙◌, ap, cond, [], length}
use Rattle.std.proofs.lemmas.List.{length_push}
use Rattle.rn_graph.specs.Graph.{is_marked, rows_of}
use Rattle.rn_graph.proofs.Graphs.BuiltRows.{keep_more, kept_all}
use Rattle.rn_graph.proofs.graph.marked_rows.Goals as goal

pub loop-node-init : goal.loop-node-init
loop-node-init c = record {
  size = ap length c.in_ok-rows.ensures.rows;
  kept = λ n l. absurd (omega (arith, l));
}

pub loop-node-preserved : goal.loop-node-preserved
loop-node-preserved c =
    let here = c.kept_row.ensures ∙ ap (λ r. cond (is_marked c.args.marks.now c.loop-node.node) r []) c.row.ensures in
    record {
      size = omega (arith, ap length c.in_ok-push_row.ensures.rows, length_push (rows_of c.loop-node.rows) c.kept_row.result.now, c.loop-node.invariant.size);
      kept = keep_more (rows_of c.args.edges.now) c.args.marks.now c.loop-node.node (rows_of c.loop-node.rows) _ c.kept_row.result.now c.loop-node.invariant.size c.loop-node.invariant.kept c.in_ok-push_row.ensures.rows here;
    }

pub returns-clause-size : goal.returns-clause-size
returns-clause-size c = omega (arith, c.loop-node.invariant.size, c.loop-node-test.false, c.loop-node.auto.node-end, c.len-node-end.ensures)

pub returns-clause-kept : goal.returns-clause-kept
returns-clause-kept c =
    kept_all (rows_of c.args.edges.now) c.args.marks.now c.loop-node.node (rows_of c.loop-node.rows) c.loop-node.invariant.size (omega (arith, c.loop-node-test.false, c.len-node-end.ensures)) c.loop-node.invariant.kept
