use Rattle.rn_syntax.proofs.ProductionsRead.PatternViews.{boxed_is, view-Element}
use Rattle.rn_syntax.proofs.constructors.element.Goals as goal

pub returns : goal.returns
returns c = boxed_is _ c.args.end c.boxed.result c.boxed.ensures (view-Element _)
