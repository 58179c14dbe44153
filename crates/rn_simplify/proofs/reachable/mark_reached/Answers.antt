use Rattle.std.proofs.Common.{◌≡◌, ℕ, List, length, sym, ap, ◌∙◌, refl, subst, arith}
use Rattle.std.proofs.lemmas.Result.{IfOk-weaker}
use Rattle.std.specs.Prelude.{Contains, Decides}
use Rattle.rn_pattern.specs.Matching.{Grammar}
use Rattle.rn_pattern.specs.View.{pattern_view}
use Rattle.rn_graph.specs.Graph.{IsGraph, Reached, is_marked, row, rows_of}
use Rattle.rn_assemble.specs.GrammarView.{definitions_view}
use Rattle.rn_simplify.specs.inside.DefinitionNumbers.{graph_of, start_of, rows_by}
use Rattle.rn_simplify.specs.inside.ReferredNames.{references}
use Rattle.rn_simplify.proofs.Simplified.ReferenceGraph.{rows_graph, rows_size, numbers_below}
use Rattle.rn_simplify.proofs.Simplified.PrunedForms.{rows_same, numbers_same}
use Rattle.rn_simplify.proofs.reachable.mark_reached.Goals as goal

pub row-requires : goal.row-requires
row-requires c = omega (arith, ap length c.in_ok-first.ensures)

pub reached_nodes-requires-clause-graph : goal.reached_nodes-requires-clause-graph
reached_nodes-requires-clause-graph c =
    let ds = definitions_view c.args.definitions.now.entries in
    let fs = definitions_view c.args.forms.now in
    let graph : rows_of c.in_ok-rows.rows ≡ rows_by fs fs = c.in_ok-rows.ensures ∙ rows_same ds fs c.requires in
    subst IsGraph (sym graph) (rows_graph fs fs refl)

pub reached_nodes-requires-clause-first_within : goal.reached_nodes-requires-clause-first_within
reached_nodes-requires-clause-first_within c = λ y k.
    let ds = definitions_view c.args.definitions.now.entries in
    let fs = definitions_view c.args.forms.now in
    let names = references (pattern_view c.args.start.now) in
    let graph : rows_of c.in_ok-rows.rows ≡ rows_by fs fs = c.in_ok-rows.ensures ∙ rows_same ds fs c.requires in
    let b = numbers_below fs names y (subst (λ (l : List ℕ). Contains l y) (c.row.ensures ∙ ap (λ rows. row rows 0) c.in_ok-first.ensures ∙ numbers_same ds fs names c.requires) k) in
    omega (arith, b, ap length graph, rows_size fs fs)

pub returns-clause-reached : goal.returns-clause-reached
returns-clause-reached c =
    let ds = definitions_view c.args.definitions.now.entries in
    let fs = definitions_view c.args.forms.now in
    let F : Grammar = record { start = pattern_view c.args.start.now; definitions = fs } in
    let names = references (pattern_view c.args.start.now) in
    let graph : rows_of c.in_ok-rows.rows ≡ graph_of F = c.in_ok-rows.ensures ∙ rows_same ds fs c.requires in
    let first : c.row.result.now ≡ start_of F = c.row.ensures ∙ ap (λ rows. row rows 0) c.in_ok-first.ensures ∙ numbers_same ds fs names c.requires in
    IfOk-weaker c.reached_nodes.result _ _ (λ marks exact k. subst (λ (l : List ℕ). Decides (is_marked marks.items k) (Reached (graph_of F) l k)) first (subst (λ (r : List (List ℕ)). Decides (is_marked marks.items k) (Reached r c.row.result.now k)) graph (exact k))) c.reached_nodes.ensures.exact
