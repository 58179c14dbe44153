use Rattle.std.proofs.Common.{◌≡◌, ◌++◌, take}
use Rattle.rn_graph.specs.Graph.{open_row, rows_of}
use Rattle.rn_assemble.specs.GrammarView.{definitions_view}
use Rattle.rn_pattern.specs.View.{shared_trees}
use Rattle.rn_simplify.specs.inside.DefinitionNumbers.{all_reference_numbers}
use Rattle.rn_simplify.proofs.references.+add_references.Given as goal

abbrev pub invariant-add_all-loop-member : goal.invariant-add_all-loop-member
invariant-add_all-loop-member l = record {
  rows : rows_of l.rows ≡ rows_of l.initial.rows;
  «open» : open_row l.rows ≡ open_row l.initial.rows ++ all_reference_numbers (definitions_view l.definitions.entries) (shared_trees (take l.member-index l.members));
}
