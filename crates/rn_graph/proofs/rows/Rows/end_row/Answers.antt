use Rattle.std.proofs.Common.{◌≡◌, ◌∷◌, ◌++◌, [], ℕ, List, ◌∙◌, ap, cond, length, get_or, drop}
use Rattle.std.specs.Prelude.{is_ok}
use Rattle.rn_graph.specs.Graph.{rows_from, rows_of, open_row}
use Rattle.rn_graph.proofs.Graphs.RowEnds.{ended_if, rest_ended, no_rest, at_err}
use Rattle.rn_graph.proofs.rows.Rows.end_row.Goals as goal

pub invariant_of-self : goal.invariant_of-self
invariant_of-self c =
    let s = c.args.self.now in
    record { ordered = ended_if _ (is_ok c.push.result) s.ends.items c.push.new.self.items s.ordered (c.push.ensures.items ∙ ap (λ (n : ℕ). cond (is_ok c.push.result) (s.ends.items ++ n ∷ []) s.ends.items) c.len.ensures) }

pub returns-in_err-push-clause-rows_kept : goal.returns-in_err-push-clause-rows_kept
unfolding rows_of
returns-in_err-push-clause-rows_kept c =
    at_err c.from_residual.result (ap (λ (es : List ℕ). rows_from c.args.self.now.nodes.items 0 es) c.in_err-push.ensures.items)

pub returns-in_err-push-clause-open_kept : goal.returns-in_err-push-clause-open_kept
unfolding open_row
returns-in_err-push-clause-open_kept c =
    at_err c.from_residual.result (ap (λ (es : List ℕ). drop (get_or (0 ∷ es) (length es) 0) c.args.self.now.nodes.items) c.in_err-push.ensures.items)

pub returns-clause-rows : goal.returns-clause-rows
unfolding rows_of open_row
returns-clause-rows c =
    let s = c.args.self.now in
    let ends : c.push.new.self.items ≡ s.ends.items ++ length s.nodes.items ∷ [] =
    c.in_ok-push.ensures.items ∙ ap (λ (n : ℕ). s.ends.items ++ n ∷ []) (c.len.ensures ∙ s.nodes.ok.0) in
    ap (λ (es : List ℕ). rows_from s.nodes.items 0 es) ends ∙ rest_ended s.nodes.items s.ends.items

pub returns-clause-open : goal.returns-clause-open
unfolding open_row
returns-clause-open c =
    let s = c.args.self.now in
    let ends : c.push.new.self.items ≡ s.ends.items ++ length s.nodes.items ∷ [] =
    c.in_ok-push.ensures.items ∙ ap (λ (n : ℕ). s.ends.items ++ n ∷ []) (c.len.ensures ∙ s.nodes.ok.0) in
    ap (λ (es : List ℕ). drop (get_or (0 ∷ es) (length es) 0) s.nodes.items) ends ∙ no_rest s.nodes.items s.ends.items
