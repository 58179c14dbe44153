use Rattle.rn_syntax.proofs.FaultPlaces.RisingPlaces.{places_rise}
use Rattle.rn_syntax.proofs.laws.places_of_faults_rise.Goals as goal

pub returns : goal.returns
returns c = places_rise
