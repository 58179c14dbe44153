-- One after the other.
use Rattle.std.proofs.Common.{arith, map}
use Rattle.std.proofs.lemmas.Bool.Decides.{not_from_Decides}
use Rattle.rn_pattern.specs.NameRules.{HasNoAny, HaveNoAny}
use Rattle.rn_pattern.specs.Tree.{name_trees_of}
use Rattle.rn_pattern.specs.View.{name_class_view}
use Rattle.rn_pattern.specs.declared.tree.NameClass.{NameClass}
use Rattle.rn_pattern.proofs.DecidedByEach.{all_more, stops, ends}
use Rattle.rn_pattern.proofs.name_classes.+no_any.Goals as goal

pub have_no_any-returns-then-not-has_no_any : goal.have_no_any-returns-then-not-has_no_any
have_no_any-returns-then-not-has_no_any t c =
    stops {X = NameClass} (λ k. HasNoAny (name_class_view k)) (λ ks. HaveNoAny (name_trees_of (map name_class_view ks))) tt (λ _ _ p q. (p, q)) (λ _ _ q. q.0) (λ _ _ q. q.1)
    c.args.classes.now c.loop-class.class-index c.class-item.result c.loop-class-test.true c.class-item.is (not_from_Decides _ c.has_no_any.ensures c.if-not-has_no_any.true)

pub have_no_any-loop-class-preserved : goal.have_no_any-loop-class-preserved
have_no_any-loop-class-preserved t c =
    all_more {X = NameClass} (λ k. HasNoAny (name_class_view k)) c.args.classes.now c.loop-class.class-index c.class-item.result c.loop-class-test.true c.class-item.is c.loop-class.invariant (c.has_no_any.ensures.0 c.if-not-has_no_any.false)

pub have_no_any-returns : goal.have_no_any-returns
have_no_any-returns t c =
    ends {X = NameClass} (λ k. HasNoAny (name_class_view k)) (λ ks. HaveNoAny (name_trees_of (map name_class_view ks))) tt (λ _ _ p q. (p, q)) (λ _ _ q. q.0) (λ _ _ q. q.1)
    c.args.classes.now c.loop-class.class-index (omega arith) c.loop-class.invariant
