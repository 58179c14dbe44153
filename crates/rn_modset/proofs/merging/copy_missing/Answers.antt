-- One more of the others is passed: it is copied with its digest, or it is held.
use Rattle.std.proofs.Common.{◌≡◌, ◌++◌, ◌∷◌, [], sym, ap, ◌∙◌, arith, true, is_ok, length, take}
use Rattle.std.proofs.lemmas.List.{map_push}
use Rattle.rn_modset.specs.Contributions.{member, members_of}
use Rattle.rn_modset.specs.Digests.{text_digest}
use Rattle.rn_modset.specs.inside.Merges.{missing}
use Rattle.rn_modset.proofs.Numerals.TextDigests.{on_ok, digest_at}
use Rattle.rn_modset.proofs.Unions.MergedLists.{step_by, passed, counted}
use Rattle.rn_modset.proofs.merging.copy_missing.Goals as goal
use Rattle.rn_modset.proofs.merging.copy_missing.Goals.{then-not-begins_with+in_ok-clone+in_ok-push, else-not-begins_with}

pub push-requires-clause-digest : goal.push-requires-clause-digest
push-requires-clause-digest c =
    let others = c.args.others.now in
    let cs = c.as_slice-contributions in
    let beside = digest_at others.digests.items others.contributions.items c.loop-at.at c.index-contributions-at.result c.index.result.now c.requires.digested (omega (arith, ap length cs.ensures.value)) (rw cs.ensures.value at c.index-contributions-at.is) in
    c.index.ensures ∙ beside ∙ ap text_digest (sym c.in_ok-clone.ensures)

pub loop-at-preserved : goal.loop-at-preserved
loop-at-preserved c =
    let walk = c.loop-at in
    let skip = c.skip_below-rest in
    let cs = c.as_slice-contributions in
    let step = step_by c.args.held.now walk.rest.now skip.result.now cs.result.now walk.at c.index-contributions-at.result (omega arith) c.index-contributions-at.is
    (rw cs.ensures.value c.requires.others) walk.invariant.0 skip.ensures.kept skip.ensures.rises in
    elim c.if-not-begins_with.branch [
      | then-not-begins_with+in_ok-clone+in_ok-push w ↦
          let ok : is_ok w.push.result ≡ true = ap is_ok w.in_ok-push.was in
          let all = ap members_of (on_ok w.push.result ok w.push.ensures.ok) ∙ map_push member walk.copies.contributions.items w.in_ok-clone.field-0 in
          let more = counted step (sym c.begins_with.ensures ∙ w.if-not-begins_with.true) in (
            step.ahead,
            ap (λ v. members_of v.contributions.items) w.copies-is ∙ all ∙ ap (λ t. t ++ member w.in_ok-clone.field-0 ∷ []) walk.invariant.1
                ∙ ap (λ m. missing (members_of c.args.held.now) (members_of (take walk.at cs.result.now)) ++ m ∷ []) w.in_ok-clone.ensures ∙ sym more,
            rw w.copies-is (on_ok w.push.result ok w.push.ensures.digested),
          )
      | else-not-begins_with w ↦
          let same = passed step (sym c.begins_with.ensures ∙ w.if-not-begins_with.false) in
          (step.ahead, ap (λ v. members_of v.contributions.items) w.copies-is ∙ walk.invariant.1 ∙ sym same, rw w.copies-is walk.invariant.2)
    ]
