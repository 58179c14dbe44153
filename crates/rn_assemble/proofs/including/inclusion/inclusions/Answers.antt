-- The rows of the modules so far, and the row of one module more.
use Rattle.std.proofs.Common.{ap, sym, ◌∙◌, subst, arith, None, Some}
use Rattle.std.specs.String.{string_bytes}
use Rattle.rn_graph.specs.Graph.{rows_of}
use Rattle.rn_syntax.specs.View.{module_view}
use Rattle.rn_assemble.specs.inside.Inclusions.{IsLeastAmong, IsMissing}
use Rattle.rn_assemble.specs.Refusal.{IsFirstFor, missing}
use Rattle.rn_assemble.specs.inside.Views.{modules_view, texts_of}
use Rattle.rn_assemble.proofs.Expansion.FirstIncludes.{begins, ends, first_missing, goes_on}
use Rattle.rn_assemble.proofs.Expansion.WantedNumbers.{literals, numbers}
use Rattle.rn_assemble.proofs.including.inclusion.inclusions.Goals as goal

pub loop-module-init : goal.loop-module-init
loop-module-init c = begins c.args.modules.now c.requires _ c.new-rows.ensures.rows

pub loop-module-preserved : goal.loop-module-preserved
loop-module-preserved c =
    let ms = modules_view c.args.modules.now in
    goes_on c.args.modules.now c.requires c.loop-module.module-index (rows_of c.loop-module.rows) (rows_of c.push_row.new.self) c.deref.result.now c.module-item.result (texts_of c.in_ok-wanted.wanted.items)
    c.loop-module-test.true c.module-item.is c.loop-module.invariant c.in_ok-push_row.ensures.rows
    (c.in_ok-wanted.ensures ∙ literals (module_view c.module-item.result.tree).items)
    (subst (λ ws. IsLeastAmong (IsMissing ms) (texts_of ws) None) c.as_slice.ensures.value c.in_default.ensures)
    (c.deref.ensures.value ∙ c.in_ok-included.ensures ∙ ap (λ ws. numbers ms (texts_of ws)) c.as_slice-in-loop-module.ensures.value)

pub returns-in-Some : goal.returns-in-Some
returns-in-Some c =
    let ms = modules_view c.args.modules.now in
    let first = first_missing c.args.modules.now c.requires c.loop-module.module-index (rows_of c.loop-module.rows) c.module-item.result (texts_of c.in_ok-wanted.wanted.items) c.in-Some.literal.now
    c.loop-module-test.true c.module-item.is c.loop-module.invariant
    (c.in_ok-wanted.ensures ∙ literals (module_view c.module-item.result.tree).items)
    (subst (λ ws. IsLeastAmong (IsMissing ms) (texts_of ws) (Some c.in-Some.literal.now)) c.as_slice.ensures.value c.in-Some.ensures) in
    subst (λ x. IsFirstFor ms (missing x (string_bytes c.in_ok-from_str-2.field-0))) (sym c.in_ok-from_str.ensures.ok)
    (subst (λ w. IsFirstFor ms (missing c.module-item.result.name.now w)) (sym c.in_ok-from_str-2.ensures.ok) first)

pub returns : goal.returns
returns c = ends c.args.modules.now c.requires c.loop-module.module-index (rows_of c.loop-module.rows) (omega (arith, c.loop-module-test.false, c.loop-module.auto.module-index-end)) c.loop-module.invariant
