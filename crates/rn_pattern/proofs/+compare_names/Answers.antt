-- The members one by one.
use Rattle.std.proofs.Common.{map, sym, ◌∙◌, arith}
use Rattle.rn_pattern.specs.Order.{name_cmp}
use Rattle.rn_pattern.specs.View.{name_class_view}
use Rattle.rn_pattern.proofs.Ordered.Stepwise.{names_cmp-name_trees_of, rest_ended, rest_settled, rest_tied}
use Rattle.rn_pattern.proofs.+compare_names.Goals as goal

pub order::compare_name_classes-returns-in_default : goal.order::compare_name_classes-returns-in_default
order::compare_name_classes-returns-in_default t c =
    let xs = c.args.cs.now in
    let ys = c.args.ds.now in
    sym (names_cmp-name_trees_of (map name_class_view xs) (map name_class_view ys) ∙ c.loop-k.invariant ∙ rest_settled name_cmp name_class_view xs ys c.loop-k.k c.index-cs-k.result c.index-ds-k.result c.cmp.result
    (omega (arith, c.loop-k-test.true, c.min-k-end.ensures)) (omega (arith, c.loop-k-test.true, c.min-k-end.ensures))
    (c.cmp.ensures ∙ (λ i. name_cmp (name_class_view (c.index-cs-k.is i)) (name_class_view (c.index-ds-k.is i)))) c.in_default.not-Equal)

pub order::compare_name_classes-returns : goal.order::compare_name_classes-returns
order::compare_name_classes-returns t c =
    let xs = c.args.cs.now in
    let ys = c.args.ds.now in
    c.cmp-2.ensures ∙ sym (names_cmp-name_trees_of (map name_class_view xs) (map name_class_view ys) ∙ c.loop-k.invariant
    ∙ rest_ended name_cmp name_class_view xs ys c.loop-k.k (omega (arith, c.loop-k.auto.k-end, c.loop-k-test.false, c.min-k-end.ensures)))

pub order::compare_name_classes-loop-k-preserved : goal.order::compare_name_classes-loop-k-preserved
order::compare_name_classes-loop-k-preserved t c =
    let xs = c.args.cs.now in
    let ys = c.args.ds.now in
    c.loop-k.invariant ∙ rest_tied name_cmp name_class_view xs ys c.loop-k.k c.index-cs-k.result c.index-ds-k.result c.cmp.result
    (omega (arith, c.loop-k-test.true, c.min-k-end.ensures)) (omega (arith, c.loop-k-test.true, c.min-k-end.ensures))
    (c.cmp.ensures ∙ (λ i. name_cmp (name_class_view (c.index-cs-k.is i)) (name_class_view (c.index-ds-k.is i)))) c.in-Equal.is
