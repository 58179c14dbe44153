use Rattle.std.proofs.Common.{◌≡◌, ◌<◌, ◌≤◌, ◌⊎◌, ℕ, List, length, arith, subst}
use Rattle.std.specs.Prelude.{Contains}
use Rattle.rn_graph.specs.Graph.{row, rows_of}
use Rattle.rn_graph.specs.inside.Searching.{node_at}
use Rattle.rn_graph.proofs.Graphs.Searches.Closing.{begin_below, least_looped, least_bare}
use Rattle.rn_graph.proofs.search.least_with.Goals as goal

pub last_group-group-requires-clause-within : goal.last_group-group-requires-clause-within
last_group-group-requires-clause-within c =
    let s = c.args.search.now in
    let below = begin_below (rows_of c.args.edges.now) s.places.items s.left.items s.stack.items s.path.items s.bounds.items s.least c.requires.grouping.groups c.requires.last.0 c.args.begin c.requires.last.1 c.requires.all_looked in
    omega (arith, below, s.stack.ok)

pub returns-then-is_looped : goal.returns-then-is_looped
returns-then-is_looped c =
    let s = c.args.search.now in
    let rows = rows_of c.args.edges.now in
    let is = c.last_group-group.ensures.is in
    least_looped rows s.places.items s.left.items s.stack.items s.path.items s.bounds.items s.least c.requires.grouping.groups c.requires.last.0 c.args.begin c.requires.last.1 c.requires.all_looked
    c.least_of.result c.lesser_node.result
    (subst (λ (g : List ℕ). (1 < length g) ⊎ Contains (row rows (node_at g 0)) (node_at g 0)) is c.if-is_looped.ensures)
    (subst (λ (g : List ℕ). Contains g c.least_of.result) is c.least_of.ensures.among)
    (subst (λ (g : List ℕ). (x : ℕ) → Contains g x → c.least_of.result ≤ x) is c.least_of.ensures.least)
    c.lesser_node.ensures

pub returns-else-is_looped : goal.returns-else-is_looped
returns-else-is_looped c =
    let s = c.args.search.now in
    let rows = rows_of c.args.edges.now in
    let is = c.last_group-group.ensures.is in
    least_bare rows s.places.items s.left.items s.stack.items s.path.items s.bounds.items s.least c.requires.grouping.groups c.requires.last.0 c.args.begin c.requires.last.1 c.requires.all_looked
    (subst (λ (g : List ℕ). length g ≡ 1) is c.if-is_looped.ensures.0)
    (subst (λ (g : List ℕ). Contains (row rows (node_at g 0)) (node_at g 0) → ⊥) is c.if-is_looped.ensures.1)
