-- The marks of the nodes of a row so far, and that of one node more.
use Rattle.std.proofs.Common.{refl, ap, ◌∙◌, arith, eqb}
use Rattle.std.specs.Prelude.{◌||◌}
use Rattle.std.specs.List.{list_any}
use Rattle.std.proofs.lemmas.List.{take_all}
use Rattle.std.proofs.lemmas.List.Elements.{Contains-get_or}
use Rattle.rn_graph.specs.Graph.{is_marked}
use Rattle.rn_assemble.proofs.Expansion.EntryMarks.{mark_more, mark_none}
use Rattle.rn_assemble.proofs.including.inclusion.mark_row.Goals as goal

pub index_mut-requires : goal.index_mut-requires
index_mut-requires c =
    let b = c.requires _ (Contains-get_or c.args.row.now c.loop-node.node-index 0 c.loop-node-test.true) in
    omega (arith, b, c.loop-node.invariant.size)

pub loop-node-init : goal.loop-node-init
loop-node-init c = record { size = refl; marks = λ x. mark_none (is_marked c.args.included.now.items x) }

pub loop-node-preserved : goal.loop-node-preserved
loop-node-preserved c =
    let b = c.requires _ (Contains-get_or c.args.row.now c.loop-node.node-index 0 c.loop-node-test.true) in
    record {
      size = c.loop-node.invariant.size;
      marks = λ x. mark_more c.loop-node.included.items _ c.args.row.now c.loop-node.node-index x (is_marked c.args.included.now.items x) c.loop-node-test.true (omega (arith, b, c.loop-node.invariant.size, c.loop-node.included.ok)) refl (c.loop-node.invariant.marks x);
    }

pub returns-clause-marks : goal.returns-clause-marks
returns-clause-marks c = λ x.
    c.loop-node.invariant.marks x ∙ ap (λ l. is_marked c.args.included.now.items x || list_any (λ y. eqb x y) l) (take_all c.loop-node.node-index c.args.row.now c.loop-node-test.false)
