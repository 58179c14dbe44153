use Rattle.std.proofs.Common.{refl, ap, ◌∙◌, subst}
use Rattle.std.specs.Prelude.{IsPermutation}
use Rattle.rn_pattern.specs.Matching.{Grammar}
use Rattle.rn_pattern.specs.View.{pattern_view}
use Rattle.rn_assemble.specs.GrammarView.{definitions_view}
use Rattle.rn_simplify.specs.inside.DefinitionNumbers.{MarksReached}
use Rattle.rn_simplify.specs.inside.MarkedElements.{marked_elements}
use Rattle.rn_simplify.proofs.Simplified.PrunedForms.{pruned_is, kept_distinct}
use Rattle.rn_simplify.proofs.reachable.reached_forms.Goals as goal

pub returns : goal.returns
returns c =
    let start = pattern_view c.args.start.now in
    let forms = c.args.forms.items in
    let F : Grammar = record { start = start; definitions = definitions_view forms } in
    let marks = c.in_ok-is_reached.is_reached.items in
    let kept = c.sort_by_name.new.forms.items in
    let exact : MarksReached F marks = subst (λ es. MarksReached (record { start = start; definitions = definitions_view es }) marks) c.deref.ensures.value c.in_ok-is_reached.ensures.reached in
    let moved : IsPermutation (marked_elements marks forms) kept = subst (λ xs. IsPermutation xs kept) (c.keep_marked.ensures ∙ ap (λ ms. marked_elements ms forms) c.deref-2.ensures.value) c.sort_by_name.ensures.moved in
    pruned_is F forms kept marks refl moved exact (c.in_ok-sort_by_name.ensures.rising (kept_distinct F forms kept marks refl moved exact c.requires.distinct))
