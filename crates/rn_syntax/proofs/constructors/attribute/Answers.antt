use Rattle.rn_syntax.proofs.ProductionsRead.PatternViews.{boxed_is, view-Attribute}
use Rattle.rn_syntax.proofs.constructors.attribute.Goals as goal

pub returns : goal.returns
returns c = boxed_is _ c.args.end c.boxed.result c.boxed.ensures (view-Attribute _)
