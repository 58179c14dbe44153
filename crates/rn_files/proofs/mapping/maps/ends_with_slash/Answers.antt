use Rattle.std.specs.Prelude.{codes}
use Rattle.std.proofs.lemmas.Str.Pattern.{ends_text}
use Rattle.rn_files.proofs.mapping.maps.ends_with_slash.Goals as goal

pub returns : goal.returns
returns c = ends_text c.ends_with.result (codes "/") c.args.text.now c.ends_with.ensures.cases
