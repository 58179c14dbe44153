use Rattle.rn_pattern.proofs.Stores.Sharing.{patterns_share}
use Rattle.rn_pattern.proofs.laws.interned_patterns_are_shared.Goals as goal

pub returns : goal.returns
returns c = λ old new t i answered kept adds had has. patterns_share old new t i answered kept adds had has
