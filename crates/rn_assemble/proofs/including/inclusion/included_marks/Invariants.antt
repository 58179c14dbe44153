-- Marked are the modules of the rows so far.
use Rattle.std.proofs.Common.{◌≡◌, ℕ, eqb, take, length, vec_len}
use Rattle.std.specs.List.{concat, list_any}
use Rattle.rn_graph.specs.Graph.{is_marked, rows_of}
use Rattle.rn_assemble.proofs.including.inclusion.included_marks.Given as goal

abbrev pub invariant-loop-includer : goal.invariant-loop-includer
invariant-loop-includer l = record {
  size : vec_len l.marks ≡ length (rows_of l.rows);
  marked : (x : ℕ) → is_marked l.marks.items x ≡ list_any (λ y. eqb x y) (concat (take l.includer (rows_of l.rows)));
}
