-- The nodes of the row so far are marked.
use Rattle.std.proofs.Common.{◌≡◌, ℕ, eqb, take, vec_len}
use Rattle.std.specs.Prelude.{◌||◌}
use Rattle.std.specs.List.{list_any}
use Rattle.rn_graph.specs.Graph.{is_marked}
use Rattle.rn_assemble.proofs.including.inclusion.mark_row.Given as goal

abbrev pub invariant-loop-node : goal.invariant-loop-node
invariant-loop-node l = record {
  size : vec_len l.included ≡ vec_len l.fn.included;
  marks : (x : ℕ) → is_marked l.included.items x ≡ (is_marked l.fn.included.items x || list_any (λ y. eqb x y) (take l.node-index l.row));
}
