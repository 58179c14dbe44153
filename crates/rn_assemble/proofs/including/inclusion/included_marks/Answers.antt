-- The marks of the modules in the rows so far, and those of one row more.
use Rattle.std.proofs.Common.{ap, ◌∙◌, arith, eqb}
use Rattle.std.specs.Prelude.{◌||◌}
use Rattle.std.specs.List.{concat, list_any}
use Rattle.std.proofs.lemmas.List.{take_all}
use Rattle.rn_graph.specs.Graph.{is_marked, rows_of}
use Rattle.rn_graph.proofs.Graphs.Marking.{not_marked}
use Rattle.rn_graph.proofs.Graphs.BuiltRows.{row_within}
use Rattle.rn_assemble.proofs.Expansion.EntryMarks.{row_marked}
use Rattle.rn_assemble.proofs.including.inclusion.included_marks.Goals as goal

pub mark_row-requires : goal.mark_row-requires
mark_row-requires c = λ y h.
    let b = row_within (rows_of c.args.rows.now) c.loop-includer.includer _ c.requires c.row.ensures y h in
    omega (arith, b, c.loop-includer.invariant.size)

pub loop-includer-init : goal.loop-includer-init
loop-includer-init c = record {
  size = omega (arith, c.in_ok-marks.ensures.len, c.len.ensures);
  marked = not_marked c.in_ok-marks.marks.items _ (c.in_ok-marks.ensures.items_if_clones_equal (λ y h. h));
}

pub loop-includer-preserved : goal.loop-includer-preserved
loop-includer-preserved c = record {
  size = c.mark_row.ensures.size ∙ c.loop-includer.invariant.size;
  marked = λ x. row_marked c.loop-includer.marks.items c.mark_row.new.included.items (rows_of c.args.rows.now) c.loop-includer.includer x
      (omega (arith, c.loop-includer-test.true, c.len-includer-end.ensures))
      (c.loop-includer.invariant.marked x)
      (c.mark_row.ensures.marks x ∙ ap (λ r. is_marked c.loop-includer.marks.items x || list_any (λ y. eqb x y) r) c.row.ensures);
}

pub returns-clause-exact : goal.returns-clause-exact
returns-clause-exact c =
    let rows = rows_of c.args.rows.now in
    λ x. c.loop-includer.invariant.marked x ∙ ap (λ rs. list_any (λ y. eqb x y) (concat rs)) (take_all c.loop-includer.includer rows (omega (arith, c.len-includer-end.ensures, c.loop-includer-test.false)))
