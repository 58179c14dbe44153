use Rattle.rn_syntax.proofs.ProductionsRead.PatternViews.{boxed_is, view-Ref}
use Rattle.rn_syntax.proofs.constructors.reference.Goals as goal

pub returns : goal.returns
returns c = boxed_is _ c.args.end c.boxed.result c.boxed.ensures (view-Ref c.args.name)
