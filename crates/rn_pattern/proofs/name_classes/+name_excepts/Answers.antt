-- One after the other.
use Rattle.std.proofs.Common.{arith, map}
use Rattle.std.proofs.lemmas.Bool.Decides.{not_from_Decides}
use Rattle.rn_pattern.specs.NameRules.{HasNameExcepts, HaveNameExcepts}
use Rattle.rn_pattern.specs.Tree.{name_trees_of}
use Rattle.rn_pattern.specs.View.{name_class_view}
use Rattle.rn_pattern.specs.declared.tree.NameClass.{NameClass}
use Rattle.rn_pattern.proofs.DecidedByEach.{all_more, stops, ends}
use Rattle.rn_pattern.proofs.name_classes.+name_excepts.Goals as goal

pub have_name_excepts-returns-then-not-has_name_excepts : goal.have_name_excepts-returns-then-not-has_name_excepts
have_name_excepts-returns-then-not-has_name_excepts t c =
    stops {X = NameClass} (λ k. HasNameExcepts (name_class_view k)) (λ ks. HaveNameExcepts (name_trees_of (map name_class_view ks))) tt (λ _ _ p q. (p, q)) (λ _ _ q. q.0) (λ _ _ q. q.1)
    c.args.classes.now c.loop-class.class-index c.class-item.result c.loop-class-test.true c.class-item.is (not_from_Decides _ c.has_name_excepts.ensures c.if-not-has_name_excepts.true)

pub have_name_excepts-loop-class-preserved : goal.have_name_excepts-loop-class-preserved
have_name_excepts-loop-class-preserved t c =
    all_more {X = NameClass} (λ k. HasNameExcepts (name_class_view k)) c.args.classes.now c.loop-class.class-index c.class-item.result c.loop-class-test.true c.class-item.is c.loop-class.invariant (c.has_name_excepts.ensures.0 c.if-not-has_name_excepts.false)

pub have_name_excepts-returns : goal.have_name_excepts-returns
have_name_excepts-returns t c =
    ends {X = NameClass} (λ k. HasNameExcepts (name_class_view k)) (λ ks. HaveNameExcepts (name_trees_of (map name_class_view ks))) tt (λ _ _ p q. (p, q)) (λ _ _ q. q.0) (λ _ _ q. q.1)
    c.args.classes.now c.loop-class.class-index (omega arith) c.loop-class.invariant
