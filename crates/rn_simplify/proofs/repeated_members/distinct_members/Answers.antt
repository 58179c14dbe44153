use Rattle.std.proofs.Common.{ap, map, ◌∙◌, subst, arith}
use Rattle.std.proofs.lemmas.List.{take_all}
use Rattle.rn_pattern.specs.View.{pattern_view, shared_view}
use Rattle.rn_pattern.specs.Canonical.{HaveSameMembers}
use Rattle.rn_simplify.proofs.Simplified.Repeats.{kept_more, left_out}
use Rattle.rn_simplify.proofs.repeated_members.distinct_members.Goals as goal
use Rattle.rn_simplify.proofs.repeated_members.distinct_members.Goals.{then-first_of-index+in_ok-clone+in_ok-push, else-first_of-index}

pub loop-index-preserved : goal.loop-index-preserved
loop-index-preserved c = elim c.if-first_of-index.branch [
  | then-first_of-index+in_ok-clone+in_ok-push w ↦ kept_more c.args.members.now c.loop-index.index w.index-members-index.result w.in_ok-clone.field-0 c.loop-index.found.items c.if-first_of-index.found.items c.loop-index-test.true
      w.index-members-index.is (ap (λ v. v.items) w.found-is ∙ w.in_ok-push.ensures.items) (ap pattern_view w.in_ok-clone.ensures.cases) c.loop-index.invariant
  | else-first_of-index w ↦ left_out c.args.members.now c.loop-index.index c.first_of.result c.loop-index.found.items c.if-first_of-index.found.items c.loop-index-test.true (ap (λ v. v.items) w.found-is) (omega arith)
      (λ q e. c.first_of.ensures (map shared_view c.args.members.now) q c.requires e) c.loop-index.invariant
]

pub returns : goal.returns
returns c = subst (λ ms. HaveSameMembers (map shared_view c.loop-index.found.items) (map shared_view ms)) (take_all c.loop-index.index c.args.members.now (omega arith)) c.loop-index.invariant
