use Rattle.std.proofs.Common.{◌≡◌, ◌∷◌, ℕ, ◌∙◌, ap, length, get_or, take, sym}
use Rattle.rn_graph.specs.Graph.{rows_of, open_row}
use Rattle.rn_graph.proofs.Graphs.RowEnds.{cut_ends, cut_rows, cut_rest}
use Rattle.rn_graph.proofs.rows.Rows.drop_open.Goals as goal

pub invariant_of-self : goal.invariant_of-self
invariant_of-self c =
    let s = c.args.self.now in
    let cut : c.truncate.new.self.items ≡ take (get_or (0 ∷ s.ends.items) (length s.ends.items) 0) s.nodes.items =
    c.truncate.ensures.items ∙ ap (λ (n : ℕ). take n s.nodes.items) (c.begin_of-begin.ensures ∙ ap (λ (k : ℕ). get_or (0 ∷ s.ends.items) k 0) (c.len.ensures ∙ s.ends.ok.0)) in
    record { ordered = cut_ends _ s.nodes.items c.truncate.new.self.items s.ends.items s.ordered (sym s.nodes.ok.0) cut _ (sym c.truncate.new.self.ok.0) }

pub returns-clause-rows : goal.returns-clause-rows
unfolding rows_of
returns-clause-rows c =
    let s = c.args.self.now in
    let cut : c.truncate.new.self.items ≡ take (get_or (0 ∷ s.ends.items) (length s.ends.items) 0) s.nodes.items =
    c.truncate.ensures.items ∙ ap (λ (n : ℕ). take n s.nodes.items) (c.begin_of-begin.ensures ∙ ap (λ (k : ℕ). get_or (0 ∷ s.ends.items) k 0) (c.len.ensures ∙ s.ends.ok.0)) in
    cut_rows _ s.nodes.items c.truncate.new.self.items s.ends.items s.ordered (sym s.nodes.ok.0) cut

pub returns-clause-open : goal.returns-clause-open
unfolding open_row
returns-clause-open c =
    let s = c.args.self.now in
    let cut : c.truncate.new.self.items ≡ take (get_or (0 ∷ s.ends.items) (length s.ends.items) 0) s.nodes.items =
    c.truncate.ensures.items ∙ ap (λ (n : ℕ). take n s.nodes.items) (c.begin_of-begin.ensures ∙ ap (λ (k : ℕ). get_or (0 ∷ s.ends.items) k 0) (c.len.ensures ∙ s.ends.ok.0)) in
    cut_rest _ s.nodes.items c.truncate.new.self.items s.ends.items s.ordered (sym s.nodes.ok.0) cut
