-- The keys of the loop have rows.
use Rattle.std.proofs.Common.{ℕ, arith, subst}
use Rattle.std.specs.Prelude.{Contains, MatchOption, Option, Vec}
use Rattle.std.specs.declared.alloc.Global.{Global}
use Rattle.rn_graph.specs.Graph.{rows_of}
use Rattle.rn_graph.specs.Loops.{IsLoop}
use Rattle.rn_graph.specs.Ranks.{Leads}
use Rattle.rn_assemble.specs.inside.Views.{names_of}
use Rattle.rn_assemble.proofs.Diagnoses.LoopKeys.{loop_below}
use Rattle.rn_assemble.proofs.diagnosing.loops.loop_of.Goals as goal

pub defined_keys-requires : goal.defined_keys-requires
defined_keys-requires c = (names_of c.args.keys.now, c.requires)

pub places_along-requires-clause-within : goal.places_along-requires-clause-within
places_along-requires-clause-within c = λ y there.
    let rows = rows_of c.in_ok-references.references.outside in
    let key = c.in-Some.key.0 in
    let found = subst (λ (o : Option (Vec ℕ Global)). MatchOption o (¬ Leads rows key key) (λ nodes. IsLoop rows key nodes.items)) c.in-Some-2.is c.in_ok-passed.ensures in
    let below = loop_below rows c.in-Some-2.passed.items key found.2 y (subst (λ ks. Contains ks y) c.deref-in-Some-2.ensures.value there) in
    omega (arith, below, c.in_ok-references.ensures.outside_size, c.requires.rows_are.size)
