use Rattle.rn_assemble.specs.Components.{set_components}
use Rattle.rn_assemble.proofs.WellFormed.ComponentExcepts.{set_excepts}
use Rattle.rn_simplify.proofs.ReadBack.ReadAgain.{combination_read}
use Rattle.rn_simplify.proofs.laws.combinations_are_read_back.Goals as goal

pub returns-clause-components : goal.returns-clause-components
returns-clause-components c = λ cs C N e k n r. combination_read N r cs C e k n

pub returns-clause-modules : goal.returns-clause-modules
returns-clause-modules c = λ modules C N e k n r. combination_read N r (set_components modules) C (set_excepts modules e) k n
