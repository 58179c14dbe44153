use Rattle.rn_files.proofs.LongestPrefixes.{stripped_end}
use Rattle.rn_files.proofs.mapping.maps.rest_ahead.Goals as goal

pub returns : goal.returns
returns c = stripped_end c.args.end.now c.args.uri.now c.strip_suffix.result c.strip_suffix.ensures.cases
