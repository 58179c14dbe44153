-- The text of a canonical grammar that has a source is read back.
use Rattle.std.proofs.Common.{◌≤◌, length, arith}
use Rattle.std.proofs.Math.Logic.{∥∥₁_map}
use Rattle.rn_pattern.specs.Matching.{Grammar}
use Rattle.rn_simplify.specs.ReadBack.{IsReadBack}
use Rattle.rn_simplify.specs.NormalParts.{HasSource}
use Rattle.rn_simplify.specs.Spelling.{spelling}
use Rattle.rn_simplify.proofs.ReadBack.Binding.{spelling_reads_back}
use Rattle.rn_simplify.proofs.ReadBack.SpellableGrammars.{spellable}

pub read_back : (N : Grammar) → ∥ HasSource N ∥₁ → length (spelling N) ≤ 4194304 → ∥ IsReadBack N ∥₁
read_back N h short = ∥∥₁_map h (λ s. spelling_reads_back N (spellable s.source N s.canonical s.writable (omega (arith, short))))
