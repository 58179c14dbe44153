-- What comes behind the children.
use Rattle.std.proofs.Common.{◌≡◌, sym, ap, ◌∙◌, subst, ◌++◌}
use Rattle.std.specs.Prelude.{slice_get}
use Rattle.rn_translate.specs.inside.ElementsMeant.{IsInScope, declared_at}
use Rattle.rn_translate.specs.declared.translator.Translator.{Translator}
use Rattle.rn_translate.proofs.AddedTerms.{in_scope_still}
use Rattle.rn_translate.proofs.ScopedTerms.{scoped_after}
use Rattle.rn_translate.proofs.translator.Translator.end.Goals as goal

pub returns-clause-added : goal.returns-clause-added
returns-clause-added c = scoped_after _ _ _ _ c.in_ok-put_end.ensures c.leave_scope.ensures.same

pub returns-clause-scope : goal.returns-clause-scope
returns-clause-scope c = λ row scope there is.
    let b = c.put_end.new.self in
    let document : b.document ≡ c.args.self.now.document = ap (λ (t : Translator). t.document) c.in_ok-put_end.ensures.same in
    c.leave_scope.ensures.left row scope (ap (λ d. slice_get d.now.elements.items c.args.level.«open».index) document ∙ there)
    (subst (λ d. IsInScope b (declared_at d.now row ++ scope)) (sym document)
    (in_scope_still _ b _ _ c.in_ok-put_end.ensures is))
