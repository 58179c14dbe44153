-- The defined keys so far have their indices.
use Rattle.std.proofs.Common.{◌≡◌, ◌<◌, ℕ, length, get_or}
use Rattle.std.specs.Prelude.{nat_eq}
use Rattle.std.specs.List.{AllByRecursion, IsDistinct}
use Rattle.rn_assemble.specs.inside.Views.{key_numbers}
use Rattle.rn_assemble.proofs.by_key.settling_order.definition_numbers.Given as goal

abbrev pub invariant-loop-number : goal.invariant-loop-number
invariant-loop-number l = record {
  size : length l.numbers.items ≡ l.fn.count;
  placed : IsDistinct nat_eq (key_numbers l.defined) → AllByRecursion (λ k. k < l.fn.count) (key_numbers l.defined) → (i : ℕ) → i < l.number → get_or l.numbers.items (get_or (key_numbers l.defined) i 0) 0 ≡ i;
}
