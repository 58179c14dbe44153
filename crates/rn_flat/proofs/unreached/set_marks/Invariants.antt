-- The marks of the numbers so far are set.
use Rattle.std.proofs.Common.{◌≡◌, ℕ, take, vec_len}
use Rattle.std.specs.Prelude.{◌||◌}
use Rattle.rn_graph.specs.Graph.{is_marked}
use Rattle.rn_assemble.specs.SettlingOrder.{holds}
use Rattle.rn_flat.proofs.unreached.set_marks.Given as goal

abbrev pub invariant-loop-number : goal.invariant-loop-number
invariant-loop-number l = record {
  size : vec_len l.marks ≡ vec_len l.fn.marks;
  marks : (x : ℕ) → is_marked l.marks.items x ≡ (is_marked l.fn.marks.items x || holds (take l.number-index l.numbers) x);
}
