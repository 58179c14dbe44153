use Rattle.std.proofs.Common.{◌≡◌, take}
use Rattle.rn_pattern.specs.View.{shared_trees}
use Rattle.rn_simplify.specs.inside.FormKinds.{group_kind, choice_kind, kind_in}
use Rattle.rn_simplify.proofs.evaluation.+evaluate_pattern.Given as goal

abbrev pub invariant-evaluate_all-loop-member : goal.invariant-evaluate_all-loop-member
invariant-evaluate_all-loop-member l =
    l.kind ≡ group_kind (kind_in l.settled) (shared_trees (take l.member-index l.members))

abbrev pub invariant-evaluate_any-loop-member : goal.invariant-evaluate_any-loop-member
invariant-evaluate_any-loop-member l =
    l.kind ≡ choice_kind (kind_in l.settled) (shared_trees (take l.member-index l.members))
