use Rattle.std.proofs.Common.{◌≡◌, ◌∙◌, subst, Some}
use Rattle.std.proofs.lemmas.Option.{none-some}
use Rattle.rn_xml.specs.PrefixScopes.{IsLeft}
use Rattle.rn_xml.specs.TableRows.{rows_of}
use Rattle.rn_xml.specs.declared.document.XmlElement.{XmlElement}
use Rattle.rn_xml.proofs.tags.TagReader.leave.Goals as goal

pub returns-clause-left : goal.returns-clause-left
returns-clause-left c = λ row there.
    let same : c.in-Some.element ≡ row = let e : Some c.in-Some.element ≡ Some row = c.in-Some.ensures ∙ there in cc in
    let d = c.args.self.now.tables.document in
    subst (λ (r : XmlElement). IsLeft c.args.self.now.scopes c.leave.new.self (rows_of r.declarations d.declarations.items)) same
    (subst (IsLeft c.args.self.now.scopes c.leave.new.self) c.declarations_of.ensures c.leave.ensures)

pub returns-in_default-clause-left : goal.returns-in_default-clause-left
returns-in_default-clause-left c = λ row there. absurd (none-some row (c.in_default.ensures ∙ there))
