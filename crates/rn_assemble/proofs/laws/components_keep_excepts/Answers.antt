use Rattle.rn_assemble.specs.Components.{start_key}
use Rattle.rn_assemble.proofs.WellFormed.ComponentExcepts.{set_excepts}
use Rattle.rn_assemble.proofs.Combined.JoinedProperties.{joined_excepts, joined_definition_excepts}
use Rattle.rn_assemble.proofs.laws.components_keep_excepts.Goals as goal

pub returns-clause-components : goal.returns-clause-components
returns-clause-components c = set_excepts

pub returns-clause-start : goal.returns-clause-start
returns-clause-start c = λ cs h. joined_excepts cs start_key h

pub returns-clause-definitions : goal.returns-clause-definitions
returns-clause-definitions c = λ cs h x. joined_definition_excepts cs x h
