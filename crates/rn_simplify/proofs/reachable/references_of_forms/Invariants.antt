use Rattle.std.proofs.Common.{◌≡◌, [], take}
use Rattle.rn_graph.specs.Graph.{open_row, rows_of}
use Rattle.rn_assemble.specs.GrammarView.{definitions_view}
use Rattle.rn_simplify.specs.inside.DefinitionNumbers.{rows_by}
use Rattle.rn_simplify.proofs.reachable.references_of_forms.Given as goal

abbrev pub invariant-loop-form : goal.invariant-loop-form
invariant-loop-form l = record {
  rows : rows_of l.rows ≡ rows_by (definitions_view l.definitions.entries) (definitions_view (take l.form-index l.forms));
  «open» : open_row l.rows ≡ [];
}
