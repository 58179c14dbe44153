-- The answer of the search.
use Rattle.rn_modset.proofs.OrderedMembers.SearchedPlaces.{place_of}
use Rattle.rn_modset.proofs.sets.insertion_place.Goals as goal

pub returns : goal.returns
returns c = rw c.err.ensures.value (place_of c.args.members.now c.args.contribution.now c.binary_search.result c.requires c.binary_search.ensures.position c.binary_search.ensures.bound)
