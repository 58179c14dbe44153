-- The element is the one of this index.
use Rattle.std.proofs.Common.{◌++◌, ◌∙◌, subst, sym}
use Rattle.std.proofs.lemmas.Option.{same_Some}
use Rattle.rn_xml.specs.declared.document.XmlElement.{XmlElement}
use Rattle.rn_translate.specs.inside.ElementsMeant.{IsInScope, declared_at}
use Rattle.rn_translate.proofs.translator.Translator.leave_scope.Goals as goal

pub returns-in-Some-clause-left : goal.returns-in-Some-clause-left
returns-in-Some-clause-left c = λ row scope there is.
    let t = c.args.self.now in
    let same = same_Some c.in-Some.element.now row (c.in-Some.ensures.element ∙ there) in
    c.leave.ensures.left scope (subst (λ (r : XmlElement). IsInScope t (declared_at t.document.now r ++ scope)) (sym same) is)
