use Rattle.rn_assemble.proofs.Combined.PlainComponents.{joined_is, plain_once, not_mixed}
use Rattle.rn_assemble.proofs.laws.plain_components_are_joined.Goals as goal

pub returns-clause-joined : goal.returns-clause-joined
returns-clause-joined c = joined_is

pub returns-clause-plain_once : goal.returns-clause-plain_once
returns-clause-plain_once c = plain_once

pub returns-clause-one_method : goal.returns-clause-one_method
returns-clause-one_method c = not_mixed
