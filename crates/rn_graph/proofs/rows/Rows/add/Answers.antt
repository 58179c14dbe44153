use Rattle.std.proofs.Common.{◌∷◌, [], ℕ, List, ap, length, get_or, drop, sym}
use Rattle.std.specs.Prelude.{is_ok}
use Rattle.rn_graph.specs.Graph.{rows_from, rows_of, open_row}
use Rattle.rn_graph.proofs.Graphs.RowEnds.{ends_kept, rows_kept, rest_grows, at_err}
use Rattle.rn_graph.proofs.rows.Rows.add.Goals as goal

pub invariant_of-self : goal.invariant_of-self
invariant_of-self c =
    let s = c.args.self.now in
    record { ordered = ends_kept _ s.nodes.items c.push.new.self.items (c.args.node ∷ []) s.ends.items s.ordered (sym s.nodes.ok.0) _ (is_ok c.push.result) c.push.ensures.len }

pub returns-in_err-push-clause-rows : goal.returns-in_err-push-clause-rows
unfolding rows_of
returns-in_err-push-clause-rows c = ap (λ (ns : List ℕ). rows_from ns 0 c.args.self.now.ends.items) c.in_err-push.ensures.items

pub returns-in_err-push-clause-kept : goal.returns-in_err-push-clause-kept
unfolding open_row
returns-in_err-push-clause-kept c =
    let es = c.args.self.now.ends.items in
    at_err c.from_residual.result (ap (λ (ns : List ℕ). drop (get_or (0 ∷ es) (length es) 0) ns) c.in_err-push.ensures.items)

pub returns-clause-rows : goal.returns-clause-rows
unfolding rows_of
returns-clause-rows c =
    let s = c.args.self.now in
    rows_kept _ s.nodes.items c.push.new.self.items (c.args.node ∷ []) s.ends.items s.ordered (sym s.nodes.ok.0) c.in_ok-push.ensures.items

pub returns-clause-open : goal.returns-clause-open
unfolding open_row
returns-clause-open c =
    let s = c.args.self.now in
    rest_grows _ s.nodes.items c.push.new.self.items (c.args.node ∷ []) s.ends.items s.ordered (sym s.nodes.ok.0) c.in_ok-push.ensures.items
