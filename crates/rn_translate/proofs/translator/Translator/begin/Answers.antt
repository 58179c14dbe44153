-- The terms of an element up to its children, in its own scope.
use Rattle.rn_translate.proofs.MeantElements.{meant_after}
use Rattle.rn_translate.proofs.ScopedTerms.{scoped_before}
use Rattle.rn_translate.proofs.translator.Translator.begin.Goals as goal

pub returns-clause-added : goal.returns-clause-added
returns-clause-added c = λ e comes. scoped_before _ _ _ _ c.in_ok-open.ensures.same (c.in_ok-layout.ensures.added e (c.in_ok-open.ensures.meant e comes))

pub returns-clause-meant : goal.returns-clause-meant
returns-clause-meant c = λ e comes.
    let m = c.in_ok-open.ensures.meant e comes in
    meant_after _ _ _ _ e _ (c.in_ok-layout.ensures.added e m) m

pub returns-clause-layout : goal.returns-clause-layout
returns-clause-layout c = λ e comes. c.in_ok-layout.ensures.layout e (c.in_ok-open.ensures.meant e comes)
