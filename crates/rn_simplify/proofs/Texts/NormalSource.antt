-- A canonical grammar of what a grammar holds has a source.
use Rattle.std.proofs.Math.Logic.{∥∥₁_map}
use Rattle.rn_pattern.specs.Matching.{Grammar}
use Rattle.rn_pattern.specs.Reached.{IsCanonicalOf}
use Rattle.rn_assemble.specs.WellFormed.{IsWellFormed, HasWritableTexts}
use Rattle.rn_simplify.specs.NormalParts.{HasSource}

pub has_source : (G N : Grammar) → IsCanonicalOf G N → IsWellFormed G → ∥ HasWritableTexts G ∥₁ → ∥ HasSource N ∥₁
has_source G N c w h = ∥∥₁_map h (λ t. record { source = G; well_formed = w; writable = t; canonical = c })
