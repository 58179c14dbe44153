use Rattle.std.proofs.Common.{ap, sym, ◌∙◌, arith}
use Rattle.std.proofs.lemmas.List.{take_all}
use Rattle.rn_pattern.specs.View.{pattern_view, shared_trees}
use Rattle.rn_pattern.proofs.Ordered.PatternKinds.{group_seen, interleave_seen, choice_seen}
use Rattle.rn_simplify.specs.inside.FormKinds.{tree_kind, group_kind, choice_kind, kind_in}
use Rattle.rn_simplify.proofs.Simplified.FormKinds.{all_of_more, any_of_more}
use Rattle.rn_simplify.proofs.evaluation.+evaluate_pattern.Goals as goal

pub evaluate_pattern-returns-in-Group : goal.evaluate_pattern-returns-in-Group
evaluate_pattern-returns-in-Group t c =
    let w = kind_in c.args.settled.now in
    c.evaluate_all.ensures ∙ ap (λ ps. group_kind w (shared_trees ps)) c.deref-in-Group.ensures.value
    ∙ sym (ap (λ p. tree_kind w (pattern_view p)) c.in-Group.is ∙ ap (tree_kind w) (group_seen c.in-Group.members))

pub evaluate_pattern-returns-in-Interleave : goal.evaluate_pattern-returns-in-Interleave
evaluate_pattern-returns-in-Interleave t c =
    let w = kind_in c.args.settled.now in
    c.evaluate_all-in-Interleave.ensures ∙ ap (λ ps. group_kind w (shared_trees ps)) c.deref-in-Interleave.ensures.value
    ∙ sym (ap (λ p. tree_kind w (pattern_view p)) c.in-Interleave.is ∙ ap (tree_kind w) (interleave_seen c.in-Interleave.members))

pub evaluate_pattern-returns-in-Choice : goal.evaluate_pattern-returns-in-Choice
evaluate_pattern-returns-in-Choice t c =
    let w = kind_in c.args.settled.now in
    c.evaluate_any.ensures ∙ ap (λ ps. choice_kind w (shared_trees ps)) c.deref-in-Choice.ensures.value
    ∙ sym (ap (λ p. tree_kind w (pattern_view p)) c.in-Choice.is ∙ ap (tree_kind w) (choice_seen c.in-Choice.members))

pub evaluate_all-returns : goal.evaluate_all-returns
evaluate_all-returns t c =
    let w = kind_in c.args.settled.now in
    c.loop-member.invariant ∙ ap (λ ps. group_kind w (shared_trees ps)) (take_all c.loop-member.member-index c.args.members.now (omega arith))

pub evaluate_any-returns : goal.evaluate_any-returns
evaluate_any-returns t c =
    let w = kind_in c.args.settled.now in
    c.loop-member.invariant ∙ ap (λ ps. choice_kind w (shared_trees ps)) (take_all c.loop-member.member-index c.args.members.now (omega arith))

pub evaluate_all-loop-member-preserved : goal.evaluate_all-loop-member-preserved
evaluate_all-loop-member-preserved t c =
    let w = kind_in c.args.settled.now in
    c.both-kind.ensures ∙ all_of_more w c.args.members.now c.loop-member.member-index c.member-item.result c.loop-member-test.true c.member-item.is c.loop-member.kind c.evaluate_pattern.result
    c.loop-member.invariant (c.evaluate_pattern.ensures ∙ ap (λ p. tree_kind w (pattern_view p)) c.deref.ensures)

pub evaluate_any-loop-member-preserved : goal.evaluate_any-loop-member-preserved
evaluate_any-loop-member-preserved t c =
    let w = kind_in c.args.settled.now in
    c.either-kind.ensures ∙ any_of_more w c.args.members.now c.loop-member.member-index c.member-item.result c.loop-member-test.true c.member-item.is c.loop-member.kind c.evaluate_pattern.result
    c.loop-member.invariant (c.evaluate_pattern.ensures ∙ ap (λ p. tree_kind w (pattern_view p)) c.deref.ensures)
