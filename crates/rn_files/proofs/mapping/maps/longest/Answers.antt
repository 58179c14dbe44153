use Rattle.rn_files.proofs.LongestPrefixes.{longest_found}
use Rattle.rn_files.proofs.mapping.maps.longest.Goals as goal

pub returns : goal.returns
returns c = longest_found c.args.maps.now c.args.uri.now _ c.loop-map.best c.loop-map-test.false c.loop-map.invariant
