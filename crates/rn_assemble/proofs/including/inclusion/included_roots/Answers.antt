-- The rows have no include of no module; then loops, and instances.
use Rattle.std.proofs.Common.{◌<◌, length, ap, sym, ◌∙◌, subst, arith}
use Rattle.std.specs.Prelude.{IfSome, MatchOption, sum_by}
use Rattle.std.proofs.lemmas.Bool.{false≢true}
use Rattle.std.proofs.lemmas.List.{length-map}
use Rattle.rn_graph.specs.Graph.{rows_of}
use Rattle.rn_graph.specs.Ranks.{HasNoLoop, IsFirstLoop}
use Rattle.rn_graph.proofs.Graphs.BuiltRows.{below_still}
use Rattle.rn_assemble.specs.declared.reading.named_modules.NamedModule.{NamedModule}
use Rattle.rn_assemble.specs.Components.{instance_limit}
use Rattle.rn_assemble.specs.inside.Included.{AreIncluded}
use Rattle.rn_assemble.specs.inside.Instances.{instances_of}
use Rattle.rn_assemble.specs.Refusal.{IsFirstFor, cycle}
use Rattle.rn_assemble.specs.inside.Views.{module_numbers, modules_view, named_module_view}
use Rattle.rn_assemble.proofs.Expansion.RootNumbers.{entries_below}
use Rattle.rn_assemble.proofs.Expansion.FirstIncludes.{all_included, first_loop, name_seen, too_many}
use Rattle.rn_assemble.proofs.including.inclusion.included_roots.Goals as goal

pub least_looped-requires : goal.least_looped-requires
least_looped-requires c = c.in_ok-rows.ensures.graph

pub roots-requires : goal.roots-requires
roots-requires c = c.in_ok-rows.ensures.graph

pub has_too_many_instances-requires-clause-graph : goal.has_too_many_instances-requires-clause-graph
has_too_many_instances-requires-clause-graph c = c.in_ok-rows.ensures.graph

pub has_too_many_instances-requires-clause-within : goal.has_too_many_instances-requires-clause-within
has_too_many_instances-requires-clause-within c =
    below_still _ _ _ (entries_below (rows_of c.in_ok-rows.rows)) (ap module_numbers c.as_slice.ensures.value ∙ c.in_ok-roots.ensures)

pub returns-in-Some : goal.returns-in-Some
returns-in-Some c =
    let xs = c.args.modules.now in
    let rows = rows_of c.in_ok-rows.rows in
    let are = c.in_ok-rows.ensures in
    let first = subst (λ o. MatchOption o (HasNoLoop rows) (IsFirstLoop rows)) c.in-Some.is c.in_ok-module.ensures.least in
    let within = subst (λ o. IfSome o (λ x. x < length rows)) c.in-Some.is c.in_ok-module.ensures.within in
    let below : c.in-Some.«module» < length xs = omega (arith, within, are.size, length-map xs named_module_view) in
    let name = c.in_ok-from_str.ensures.ok ∙ ap (λ (m : NamedModule). m.name.now) (sym c.index-modules-module.is) ∙ sym (name_seen xs c.requires c.in-Some.«module» c.index-modules-module.result below c.index-modules-module.is) in
    subst (λ x. IsFirstFor (modules_view xs) (cycle x)) (sym name) (first_loop xs c.requires rows are c.in-Some.«module» below first)

pub returns-then-has_too_many_instances : goal.returns-then-has_too_many_instances
returns-then-has_too_many_instances c =
    let xs = c.args.modules.now in
    let rows = rows_of c.in_ok-rows.rows in
    let loop_free = subst (λ o. MatchOption o (HasNoLoop rows) (IsFirstLoop rows)) c.in_default.is c.in_ok-module.ensures.least in
    too_many xs c.requires rows c.in_ok-rows.ensures loop_free
    (λ depth l. subst (λ ns. instance_limit < sum_by (instances_of depth rows) ns) (ap module_numbers c.as_slice.ensures.value ∙ c.in_ok-roots.ensures) ((c.has_too_many_instances.ensures depth l).0 c.if-has_too_many_instances.true))

pub returns : goal.returns
returns c =
    let xs = c.args.modules.now in
    let rows = rows_of c.in_ok-rows.rows in
    let loop_free = subst (λ o. MatchOption o (HasNoLoop rows) (IsFirstLoop rows)) c.in_default.is c.in_ok-module.ensures.least in
    subst (AreIncluded (modules_view xs)) (sym c.in_ok-roots.ensures)
    (all_included xs c.requires rows c.in_ok-rows.ensures loop_free
    (λ depth l more. false≢true (sym c.if-has_too_many_instances.false
    ∙ (c.has_too_many_instances.ensures depth l).1 (subst (λ ns. instance_limit < sum_by (instances_of depth rows) ns) (sym (ap module_numbers c.as_slice.ensures.value ∙ c.in_ok-roots.ensures)) more))))
