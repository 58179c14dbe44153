use Rattle.std.proofs.Common.{rules}
use Rattle.rn_syntax.specs.declared.tree.Pat.{the_lemmas}
use Rattle.rn_syntax.proofs.ProductionsRead.PatternViews.{boxed_is}
use Rattle.rn_syntax.proofs.constructors.chain.Goals as goal

pub returns : goal.returns
returns c = boxed_is _ c.args.end c.boxed.result c.boxed.ensures (search (rules, the_lemmas))
