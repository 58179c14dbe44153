use Rattle.std.proofs.Common.{ap, ◌∙◌, subst}
use Rattle.std.specs.Prelude.{IfSome}
use Rattle.rn_pattern.specs.View.{pattern_view}
use Rattle.rn_simplify.specs.inside.Repeats.{AreSameButRepeats}
use Rattle.rn_simplify.specs.inside.FormKinds.{tree_kind, kind_in}
use Rattle.rn_simplify.proofs.Simplified.Repeats.{evaluated_same}
use Rattle.rn_simplify.proofs.evaluation.evaluate_body.Goals as goal

pub returns-in-Some : goal.returns-in-Some
returns-in-Some c =
    let w = kind_in c.args.settled.now in
    let body = pattern_view c.args.body.now in
    let same : AreSameButRepeats (pattern_view c.in-Some.distinct.value) body =
    subst (λ o. IfSome o (λ p. AreSameButRepeats (pattern_view p.value) body)) c.in-Some.is c.in_ok-distinct.ensures in
    c.evaluate_pattern.ensures ∙ ap (λ p. tree_kind w (pattern_view p)) c.deref.ensures ∙ evaluated_same w (pattern_view c.in-Some.distinct.value) body same
