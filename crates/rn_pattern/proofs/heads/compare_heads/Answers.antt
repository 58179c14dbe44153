-- The answers one after the other.
use Rattle.std.proofs.Common.{◌∙◌, Equal}
use Rattle.std.specs.Ordering.{ordering_then}
use Rattle.rn_pattern.proofs.Stores.ShownTrees.{heads_by, parameters_cmp-view}
use Rattle.rn_pattern.proofs.heads.compare_heads.Goals as goal

pub returns : goal.returns
returns c =
    let p = c.cmp-5.ensures ∙ parameters_cmp-view c.args.x.parameters.now c.args.y.parameters.now in
    heads_by c.cmp.result c.compare_classes.result c.cmp-2.result c.cmp-3.result c.cmp-4.result c.cmp-5.result c.then.result c.then-2.result c.then-3.result c.then.ensures c.in-Equal.is c.in-Equal-cmp.is c.then-2.ensures c.then-3.ensures
    ∙ (λ i. ordering_then (c.cmp.ensures i) (ordering_then (c.compare_classes.ensures i) (ordering_then (ordering_then (c.cmp-2.ensures i) (ordering_then (c.cmp-3.ensures i) (ordering_then (c.cmp-4.ensures i) Equal))) (p i))))
