use Rattle.rn_assemble.proofs.Combined.Depth.{instances_enough, components_enough}
use Rattle.rn_assemble.proofs.laws.includes_end.Goals as goal

pub returns-clause-same_instances : goal.returns-clause-same_instances
returns-clause-same_instances c = instances_enough

pub returns-clause-same_components : goal.returns-clause-same_components
returns-clause-same_components c = components_enough
