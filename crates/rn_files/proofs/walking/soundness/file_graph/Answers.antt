use Rattle.rn_graph.specs.Graph.{rows_of}
use Rattle.rn_files.proofs.FileGraphs.{one_row_more}
use Rattle.rn_files.proofs.walking.soundness.file_graph.Goals as goal

pub loop-source-preserved : goal.loop-source-preserved
loop-source-preserved c =
    one_row_more (rows_of c.loop-source.edges) _ _ c.args.files.now c.loop-source.source-index c.source-item.result c.loop-source-test.true
    c.source-item.is c.as_slice.ensures.value c.loop-source.invariant c.in_ok-push_row.ensures.rows
