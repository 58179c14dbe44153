use Rattle.rn_pattern.specs.View.{pattern_view}
use Rattle.rn_simplify.specs.inside.Writes.{prefixes_view}
use Rattle.rn_simplify.proofs.Texts.LineTexts.{writes_start}
use Rattle.rn_simplify.proofs.printing.write_start.Goals as goal

pub returns : goal.returns
returns c = writes_start (prefixes_view c.args.prefixes.now) (pattern_view c.args.start.now) c.put.ensures c.write_body.ensures
