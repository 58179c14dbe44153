-- As many rows as there were steps, and nothing in any of them.
use Rattle.std.proofs.Common.{◌≡◌, ℕ, [], length}
use Rattle.rn_assemble.specs.inside.Rows.{row_at}
use Rattle.rn_assemble.proofs.reading.key_rows.KeyRows.new.Given as goal

abbrev pub invariant-loop : goal.invariant-loop
invariant-loop l = record {
  size : length l.rows.items ≡ l.counter;
  empty : (n : ℕ) → row_at l.rows.items n ≡ [];
}
