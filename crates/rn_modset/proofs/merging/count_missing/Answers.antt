-- One more of the others is passed: it is counted, or it is held.
use Rattle.std.proofs.Common.{length, sym, ap, ◌∙◌, arith}
use Rattle.std.proofs.lemmas.List.{length-append}
use Rattle.rn_modset.specs.Contributions.{Member}
use Rattle.rn_modset.proofs.Unions.MergedLists.{step_by, passed, counted}
use Rattle.rn_modset.proofs.merging.count_missing.Goals as goal
use Rattle.rn_modset.proofs.merging.count_missing.Goals.{then-not-begins_with, else-not-begins_with}

pub loop-contribution-preserved : goal.loop-contribution-preserved
loop-contribution-preserved c =
    let walk = c.loop-contribution in
    let skip = c.skip_below-rest in
    let step = step_by c.args.held.now walk.rest.now skip.result.now c.args.others.now walk.contribution-index c.contribution-item.result (omega arith) c.contribution-item.is
    c.requires.others walk.invariant.0 skip.ensures.kept skip.ensures.rises in
    elim c.if-not-begins_with.branch [
      | then-not-begins_with w ↦
          let more = ap length (counted step (sym c.begins_with.ensures ∙ w.if-not-begins_with.true)) in
          (step.ahead, omega (arith, w.count-is, more, length-append {A = Member}, walk.invariant.1), omega (arith, w.count-is, walk.invariant.2))
      | else-not-begins_with w ↦
          let same = ap length (passed step (sym c.begins_with.ensures ∙ w.if-not-begins_with.false)) in
          (step.ahead, omega (arith, w.count-is, same, walk.invariant.1), omega (arith, w.count-is, walk.invariant.2))
    ]
