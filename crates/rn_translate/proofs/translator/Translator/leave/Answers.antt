-- The declarations of the element go.
use Rattle.std.proofs.Common.{subst}
use Rattle.rn_xml.specs.PrefixScopes.{IsLeft}
use Rattle.rn_translate.proofs.LeftScopes.{scope_left}
use Rattle.rn_translate.proofs.translator.Translator.leave.Goals as goal

pub returns-clause-left : goal.returns-clause-left
returns-clause-left c = λ scope is.
    let t = c.args.self.now in
    scope_left t c.leave.new.self c.args.element.now scope (subst (IsLeft t.scopes c.leave.new.self) c.declarations_of.ensures c.leave.ensures) is
