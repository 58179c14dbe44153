use Rattle.std.proofs.Common.{ap, ◌∙◌, is_some}
use Rattle.rn_syntax.specs.BindingDeclarations.{bound}
use Rattle.rn_syntax.proofs.BindingDeclarations.{is_default_by}
use Rattle.rn_syntax.proofs.bindings.Bindings.has_default.Goals as goal

pub returns : goal.returns
returns c = c.is_some.ensures ∙ ap is_some c.args.self.now.default_is ∙ is_default_by (bound c.args.self.now)
