use Rattle.std.proofs.Common.{rules}
use Rattle.rn_graph.specs.Graph.{rows_of, open_row}
use Rattle.rn_graph.proofs.rows.Rows.new.Goals as goal

pub returns-clause-rows : goal.returns-clause-rows
unfolding rows_of
returns-clause-rows c = search rules

pub returns-clause-open : goal.returns-clause-open
unfolding open_row
returns-clause-open c = search rules
