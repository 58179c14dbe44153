use Rattle.std.proofs.Common.{[]}
use Rattle.rn_rng.proofs.Writing.{writes_leaf}
use Rattle.rn_rng.proofs.pattern_xml.write_empty.Goals as goal

pub returns : goal.returns
returns c = writes_leaf c.args.level c.args.element.now [] c.requires c.empty_bare.ensures
