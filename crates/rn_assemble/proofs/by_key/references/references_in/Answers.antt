-- The references of one component more.
use Rattle.std.proofs.Common.{◌<◌, ◌++◌, length, map, true, false, sym, ap, ◌∙◌, arith, append-nil}
use Rattle.std.proofs.lemmas.List.{get_or_default}
use Rattle.rn_syntax.specs.View.{pattern_view}
use Rattle.rn_pattern.specs.declared.references.Reach.TheVariants.{OutsideElements}
use Rattle.rn_assemble.specs.inside.Referred.{reference_view, references}
use Rattle.rn_assemble.proofs.Referring.MarkedReferences.{marked_step, some_component}
use Rattle.rn_assemble.proofs.by_key.references.references_in.Goals as goal
use Rattle.rn_assemble.proofs.by_key.references.references_in.Goals.{then-index+in_ok-refer, else-index}

pub loop-index-preserved : goal.loop-index-preserved
loop-index-preserved c =
    let row = c.args.row.now in
    let marks = c.in_ok-is_live.is_live.items in
    let i = c.loop-index.index in
    let old = map reference_view c.loop-index.found.items in
    let l : i < length row = c.loop-index-test.true in
    let m : i < length marks = omega (arith, l, c.in_ok-is_live.ensures.size) in
    let is = get_or_default marks i false c.index.result.now m ∙ sym c.index.ensures in
    elim c.if-index.branch [
      | then-index+in_ok-refer w ↦ marked_step marks row i w.index-row-index.result true old _ _ m l (is ∙ w.if-index.true)
          (ap (λ v. map reference_view v.items) w.found-is ∙ w.in_ok-refer.ensures ∙ ap (λ p. old ++ references OutsideElements (pattern_view p)) w.deref.ensures) c.loop-index.invariant
      | else-index w ↦ marked_step marks row i (some_component row (omega (arith, l))) false old _ _ m l (is ∙ w.if-index.false)
          (ap (λ v. map reference_view v.items) w.found-is ∙ sym (append-nil old)) c.loop-index.invariant
    ]
