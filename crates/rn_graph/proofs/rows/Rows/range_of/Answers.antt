use Rattle.std.proofs.Common.{◌<◌, ◌∙◌, ◌∷◌, ℕ, arith, length, get_or, ap, sym}
use Rattle.std.proofs.lemmas.List.{get_or_read}
use Rattle.std.specs.List.{slice_range}
use Rattle.rn_graph.specs.Graph.{rows_of}
use Rattle.rn_graph.proofs.Graphs.RowEnds.{length_rows, row_is, begin_le, end_le}
use Rattle.rn_graph.proofs.rows.Rows.range_of.Goals as goal

pub begin_of-requires : goal.begin_of-requires
unfolding rows_of
begin_of-requires c =
    let s = c.args.self.now in
    omega (arith, c.requires, length_rows s.nodes.items 0 s.ends.items, s.ends.ok)

pub index-requires : goal.index-requires
unfolding rows_of
index-requires c =
    let s = c.args.self.now in
    omega (arith, c.requires, length_rows s.nodes.items 0 s.ends.items, s.ends.ok)

pub returns-clause-ordered : goal.returns-clause-ordered
unfolding rows_of
returns-clause-ordered c =
    let s = c.args.self.now in
    let below : c.args.node < length s.ends.items = omega (arith, c.requires, length_rows s.nodes.items 0 s.ends.items) in
    omega (arith, c.begin_of.ensures, get_or_read s.ends.items c.args.node c.index.result.now below c.index.ensures 0, begin_le _ 0 s.ends.items c.args.node s.ordered below)

pub returns-clause-within : goal.returns-clause-within
unfolding rows_of
returns-clause-within c =
    let s = c.args.self.now in
    let below : c.args.node < length s.ends.items = omega (arith, c.requires, length_rows s.nodes.items 0 s.ends.items) in
    omega (arith, get_or_read s.ends.items c.args.node c.index.result.now below c.index.ensures 0, end_le _ 0 s.ends.items c.args.node s.ordered below)

pub returns-clause-row : goal.returns-clause-row
unfolding rows_of
returns-clause-row c =
    let s = c.args.self.now in
    let below : c.args.node < length s.ends.items = omega (arith, c.requires, length_rows s.nodes.items 0 s.ends.items) in
    ap (λ (b : ℕ). slice_range s.nodes.items b c.index.result.now) c.begin_of.ensures
    ∙ ap (λ (e : ℕ). slice_range s.nodes.items (get_or (0 ∷ s.ends.items) c.args.node 0) e) (get_or_read s.ends.items c.args.node c.index.result.now below c.index.ensures 0)
    ∙ sym (row_is s.nodes.items 0 s.ends.items c.args.node below)
