use Rattle.std.proofs.Common.{◌-◌, ℕ, List, inl, arith, get_or, sym, ap, ◌∙◌, subst}
use Rattle.std.specs.Prelude.{Contains}
use Rattle.rn_graph.specs.Graph.{row, rows_of}
use Rattle.rn_graph.specs.inside.Searching.{AllLead, IsClosed}
use Rattle.rn_graph.proofs.Graphs.Searches.KeptGroups.{place_below, leads_next}
use Rattle.rn_graph.proofs.search.step.Goals as goal

pub node_of-requires-clause-within : goal.node_of-requires-clause-within
node_of-requires-clause-within c =
    let s = c.args.search.now in
    omega (arith, place_below (rows_of c.args.edges.now) s.places.items s.left.items s.stack.items s.path.items s.bounds.items s.least c.requires.grouping.groups c.in-Some.place c.in-Some.ensures.1, s.stack.ok)

pub enter-requires-clause-all_lead : goal.enter-requires-clause-all_lead
enter-requires-clause-all_lead c =
    let s = c.args.search.now in
    let rows = rows_of c.args.edges.now in
    leads_next rows s.places.items s.left.items s.stack.items s.path.items s.bounds.items s.least c.requires.grouping.groups c.last_bound-begin.result c.in-Some.place c.in-Some-next_of.next
    c.last_bound-begin.ensures c.in-Some.ensures.0 (place_below rows s.places.items s.left.items s.stack.items s.path.items s.bounds.items s.least c.requires.grouping.groups c.in-Some.place c.in-Some.ensures.1)
    (subst (λ (x : ℕ). Contains (row rows x) c.in-Some-next_of.next) c.node_of.ensures.is c.in-Some-next_of.ensures.edge)

pub unite_groups-requires-clause-within : goal.unite_groups-requires-clause-within
unite_groups-requires-clause-within c =
    let s = c.args.search.now in
    omega (arith, place_below (rows_of c.args.edges.now) s.places.items s.left.items s.stack.items s.path.items s.bounds.items s.least c.requires.grouping.groups c.in-Some.place c.in-Some.ensures.1, s.stack.ok)

pub unite_groups-requires-clause-all_lead : goal.unite_groups-requires-clause-all_lead
unite_groups-requires-clause-all_lead c =
    let s = c.args.search.now in
    let rows = rows_of c.args.edges.now in
    subst (AllLead rows s.stack.items) (sym c.in-Open.ensures.1)
    (leads_next rows s.places.items s.left.items s.stack.items s.path.items s.bounds.items s.least c.requires.grouping.groups c.last_bound-begin.result c.in-Some.place c.in-Some-next_of.next
    c.last_bound-begin.ensures c.in-Some.ensures.0 (place_below rows s.places.items s.left.items s.stack.items s.path.items s.bounds.items s.least c.requires.grouping.groups c.in-Some.place c.in-Some.ensures.1)
    (subst (λ (x : ℕ). Contains (row rows x) c.in-Some-next_of.next) c.node_of.ensures.is c.in-Some-next_of.ensures.edge))

pub pass-requires-clause-within : goal.pass-requires-clause-within
pass-requires-clause-within c =
    let s = c.args.search.now in
    omega (arith, place_below (rows_of c.args.edges.now) s.places.items s.left.items s.stack.items s.path.items s.bounds.items s.least c.requires.grouping.groups c.in-Some.place c.in-Some.ensures.1, s.stack.ok)

pub pass-requires-clause-settled : goal.pass-requires-clause-settled
pass-requires-clause-settled c =
    let s = c.args.search.now in
    let rows = rows_of c.args.edges.now in
    inl (subst (IsClosed s.places.items s.stack.items)
    (c.in-Some-next_of.ensures.is
    ∙ ap (λ (ls : List ℕ). get_or (row rows c.node_of.result) (get_or ls c.node_of.result 0 - 1) 0) c.deref.ensures.value
    ∙ ap (λ (x : ℕ). get_or (row rows x) (get_or s.left.items x 0 - 1) 0) c.node_of.ensures.is) c.in-Closed.ensures)
