use Rattle.rn_pattern.specs.View.{pattern_view}
use Rattle.rn_simplify.specs.inside.Writes.{prefixes_view}
use Rattle.rn_simplify.proofs.Texts.LineTexts.{writes_defined}
use Rattle.rn_simplify.proofs.printing.write_body.Goals as goal

pub returns : goal.returns
returns c = writes_defined (prefixes_view c.args.prefixes.now) (pattern_view c.args.body.now) c.put.ensures c.write_pattern.ensures c.put-2.ensures
