-- The keys so far have their references, and what is held is the least name of them that has no mark.
use Rattle.std.proofs.Common.{◌≡◌, ◌+◌, length, option_map}
use Rattle.rn_graph.specs.Graph.{rows_of}
use Rattle.rn_graph.proofs.Graphs.BuiltRows.{AreRows}
use Rattle.rn_assemble.specs.inside.Pieces.{OfKeys}
use Rattle.rn_assemble.specs.inside.Views.{names_of}
use Rattle.rn_assemble.proofs.Referring.GatheredReferences.{Gathered}
use Rattle.rn_assemble.proofs.by_key.references.reference_rows.Given as goal

abbrev pub invariant-loop-number : goal.invariant-loop-number
invariant-loop-number l = record {
  everywhere : AreRows (length (names_of l.keys) + 1) (rows_of l.found.everywhere);
  everywhere_size : length (rows_of l.found.everywhere) ≡ l.number;
  outside : AreRows (length (names_of l.keys) + 1) (rows_of l.found.outside);
  outside_size : length (rows_of l.found.outside) ≡ l.number;
  gathered : OfKeys l.keys l.rows l.segments (λ names cs. Gathered names cs l.is_defined.items (rows_of l.found.everywhere) (rows_of l.found.outside) l.number (option_map (λ s. s.now) l.undefined));
}
