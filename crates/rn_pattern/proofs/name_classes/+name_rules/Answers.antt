-- One after the other.
use Rattle.std.proofs.Common.{ap, sym, subst, ◌∙◌, arith}
use Rattle.std.specs.Prelude.{Decides}
use Rattle.std.proofs.lemmas.Bool.Decides.{not_from_Decides}
use Rattle.rn_pattern.specs.NameRules.{KeepsNameRules, KeepNameRules}
use Rattle.rn_pattern.specs.View.{pattern_view, shared_view, shared_trees}
use Rattle.std.specs.declared.alloc.Global.{Global}
use Rattle.std.specs.declared.rc.Rc.{Rc}
use Rattle.rn_pattern.specs.declared.tree.Pattern.{Pattern}
use Rattle.rn_pattern.proofs.Ordered.PatternKinds.{group_seen, interleave_seen, choice_seen}
use Rattle.rn_pattern.proofs.DecidedByEach.{all_more, stops, ends}
use Rattle.rn_pattern.proofs.name_classes.+name_rules.Goals as goal

pub keep_name_rules-returns-then-not-keeps_name_rules : goal.keep_name_rules-returns-then-not-keeps_name_rules
keep_name_rules-returns-then-not-keeps_name_rules t c =
    stops {X = Rc Pattern Global} (λ k. KeepsNameRules (shared_view k)) (λ ks. KeepNameRules (shared_trees ks)) tt (λ _ _ p q. (p, q)) (λ _ _ q. q.0) (λ _ _ q. q.1)
    c.args.members.now c.loop-member.member-index c.member-item.result c.loop-member-test.true c.member-item.is (not_from_Decides _ (subst (λ p. Decides c.keeps_name_rules.result (KeepsNameRules (pattern_view p))) c.deref.ensures c.keeps_name_rules.ensures) c.if-not-keeps_name_rules.true)

pub keep_name_rules-loop-member-preserved : goal.keep_name_rules-loop-member-preserved
keep_name_rules-loop-member-preserved t c =
    all_more {X = Rc Pattern Global} (λ k. KeepsNameRules (shared_view k)) c.args.members.now c.loop-member.member-index c.member-item.result c.loop-member-test.true c.member-item.is c.loop-member.invariant ((subst (λ p. Decides c.keeps_name_rules.result (KeepsNameRules (pattern_view p))) c.deref.ensures c.keeps_name_rules.ensures).0 c.if-not-keeps_name_rules.false)

pub keep_name_rules-returns : goal.keep_name_rules-returns
keep_name_rules-returns t c =
    ends {X = Rc Pattern Global} (λ k. KeepsNameRules (shared_view k)) (λ ks. KeepNameRules (shared_trees ks)) tt (λ _ _ p q. (p, q)) (λ _ _ q. q.0) (λ _ _ q. q.1)
    c.args.members.now c.loop-member.member-index (omega arith) c.loop-member.invariant

pub keeps_name_rules-returns-in-Group : goal.keeps_name_rules-returns-in-Group
keeps_name_rules-returns-in-Group t c =
    let seen = ap pattern_view c.in-Group.is ∙ group_seen c.in-Group.members in
    subst (λ p. Decides c.keep_name_rules.result (KeepsNameRules p)) (sym seen)
    (subst (λ ps. Decides c.keep_name_rules.result (KeepNameRules (shared_trees ps))) c.deref-in-Group.ensures.value c.keep_name_rules.ensures)

pub keeps_name_rules-returns-in-Interleave : goal.keeps_name_rules-returns-in-Interleave
keeps_name_rules-returns-in-Interleave t c =
    let seen = ap pattern_view c.in-Interleave.is ∙ interleave_seen c.in-Interleave.members in
    subst (λ p. Decides c.keep_name_rules-in-Interleave.result (KeepsNameRules p)) (sym seen)
    (subst (λ ps. Decides c.keep_name_rules-in-Interleave.result (KeepNameRules (shared_trees ps))) c.deref-in-Interleave.ensures.value c.keep_name_rules-in-Interleave.ensures)

pub keeps_name_rules-returns-in-Choice : goal.keeps_name_rules-returns-in-Choice
keeps_name_rules-returns-in-Choice t c =
    let seen = ap pattern_view c.in-Choice.is ∙ choice_seen c.in-Choice.members in
    subst (λ p. Decides c.keep_name_rules-in-Choice.result (KeepsNameRules p)) (sym seen)
    (subst (λ ps. Decides c.keep_name_rules-in-Choice.result (KeepNameRules (shared_trees ps))) c.deref-in-Choice.ensures.value c.keep_name_rules-in-Choice.ensures)
