use Rattle.rn_pattern.specs.View.{name_class_view}
use Rattle.rn_simplify.specs.inside.Writes.{prefixes_view}
use Rattle.rn_simplify.proofs.Texts.NodeTexts.{writes_head}
use Rattle.rn_simplify.proofs.pattern_text.write_head.Goals as goal

pub returns : goal.returns
returns c = writes_head (prefixes_view c.args.prefixes.now) c.args.word.now (name_class_view c.args.class.now) c.utf8.word c.put.ensures c.put-2.ensures c.write_class.ensures
