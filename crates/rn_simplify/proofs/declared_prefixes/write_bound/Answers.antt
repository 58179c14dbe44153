use Rattle.rn_simplify.proofs.Texts.LineTexts.{writes_bound}
use Rattle.rn_simplify.proofs.declared_prefixes.write_bound.Goals as goal

pub returns : goal.returns
returns c = writes_bound c.args.uri.now c.put.ensures c.put_literal.ensures c.put-2.ensures
