-- What separates the child from the others, and its terms.
use Rattle.std.proofs.Common.{ap, ◌∙◌}
use Rattle.rn_translate.specs.Translation.{before_child}
use Rattle.rn_translate.proofs.AddedTerms.{adds_equal}
use Rattle.rn_translate.proofs.NextElements.{next_after}
use Rattle.rn_translate.proofs.ScopedTerms.{scoped_more}
use Rattle.rn_translate.proofs.translator.Translator.begin_child.Goals as goal

pub returns-clause-added : goal.returns-clause-added
returns-clause-added c = λ row f e h.
    let placed = c.place_inside-place.ensures in
    let comes = next_after _ _ _ row _ c.args.around _ _ f e _ c.in_ok-put_sign.ensures h (record { standing = placed.standing; first = placed.first; last = placed.last; root = placed.root }) in
    let separator = adds_equal _ _ _ _ (c.before-separator.ensures ∙ ap (λ l. before_child l.class l.separator c.args.around.begun.count) h.layout_is) c.in_ok-put_sign.ensures in
    scoped_more _ _ _ _ _ separator (c.in_ok-level.ensures.added e comes)

pub returns-clause-meant : goal.returns-clause-meant
returns-clause-meant c = λ row f e h.
    let placed = c.place_inside-place.ensures in
    c.in_ok-level.ensures.meant e (next_after _ _ _ row _ c.args.around _ _ f e _ c.in_ok-put_sign.ensures h
    (record { standing = placed.standing; first = placed.first; last = placed.last; root = placed.root }))

pub returns-clause-layout : goal.returns-clause-layout
returns-clause-layout c = λ row f e h.
    let placed = c.place_inside-place.ensures in
    c.in_ok-level.ensures.layout e (next_after _ _ _ row _ c.args.around _ _ f e _ c.in_ok-put_sign.ensures h
    (record { standing = placed.standing; first = placed.first; last = placed.last; root = placed.root }))
