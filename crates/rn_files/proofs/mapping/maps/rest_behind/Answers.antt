use Rattle.rn_files.proofs.LongestPrefixes.{stripped}
use Rattle.rn_files.proofs.mapping.maps.rest_behind.Goals as goal

pub returns : goal.returns
returns c = stripped c.args.prefix.now c.args.uri.now c.strip_prefix.result c.strip_prefix.ensures.cases
