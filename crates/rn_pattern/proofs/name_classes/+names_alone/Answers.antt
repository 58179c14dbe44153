-- One after the other.
use Rattle.std.proofs.Common.{arith, map}
use Rattle.std.proofs.lemmas.Bool.Decides.{not_from_Decides}
use Rattle.rn_pattern.specs.NameRules.{HasNamesAlone, HaveNamesAlone}
use Rattle.rn_pattern.specs.Tree.{name_trees_of}
use Rattle.rn_pattern.specs.View.{name_class_view}
use Rattle.rn_pattern.specs.declared.tree.NameClass.{NameClass}
use Rattle.rn_pattern.proofs.DecidedByEach.{all_more, stops, ends}
use Rattle.rn_pattern.proofs.name_classes.+names_alone.Goals as goal

pub have_names_alone-returns-then-not-has_names_alone : goal.have_names_alone-returns-then-not-has_names_alone
have_names_alone-returns-then-not-has_names_alone t c =
    stops {X = NameClass} (λ k. HasNamesAlone (name_class_view k)) (λ ks. HaveNamesAlone (name_trees_of (map name_class_view ks))) tt (λ _ _ p q. (p, q)) (λ _ _ q. q.0) (λ _ _ q. q.1)
    c.args.classes.now c.loop-class.class-index c.class-item.result c.loop-class-test.true c.class-item.is (not_from_Decides _ c.has_names_alone.ensures c.if-not-has_names_alone.true)

pub have_names_alone-loop-class-preserved : goal.have_names_alone-loop-class-preserved
have_names_alone-loop-class-preserved t c =
    all_more {X = NameClass} (λ k. HasNamesAlone (name_class_view k)) c.args.classes.now c.loop-class.class-index c.class-item.result c.loop-class-test.true c.class-item.is c.loop-class.invariant (c.has_names_alone.ensures.0 c.if-not-has_names_alone.false)

pub have_names_alone-returns : goal.have_names_alone-returns
have_names_alone-returns t c =
    ends {X = NameClass} (λ k. HasNamesAlone (name_class_view k)) (λ ks. HaveNamesAlone (name_trees_of (map name_class_view ks))) tt (λ _ _ p q. (p, q)) (λ _ _ q. q.0) (λ _ _ q. q.1)
    c.args.classes.now c.loop-class.class-index (omega arith) c.loop-class.invariant
