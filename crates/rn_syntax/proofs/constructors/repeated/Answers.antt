use Rattle.rn_syntax.proofs.ProductionsRead.PatternViews.{boxed_is, view-Repeated}
use Rattle.rn_syntax.proofs.constructors.repeated.Goals as goal

pub returns : goal.returns
returns c = boxed_is _ c.args.end c.boxed.result c.boxed.ensures (view-Repeated _ _)
