-- The modules without a mark.
use Rattle.std.proofs.Common.{◌≡◌, ◌∙◌, ap, length, arith, rules, tests}
use Rattle.std.specs.List.{enumerate_from, filter_map}
use Rattle.std.proofs.lemmas.Iterator.{YieldsList-from_slice}
use Rattle.std.proofs.lemmas.Iterator.Adapters.{items_from_extend}
use Rattle.std.proofs.lemmas.Iterator.Consumers.{YieldsList-at, YieldsList-from_enumerate, YieldsList-from_filter_map}
use Rattle.rn_graph.specs.Graph.{rows_of}
use Rattle.rn_assemble.specs.inside.Views.{module_numbers}
use Rattle.rn_assemble.proofs.Expansion.EntryMarks.{unmarked, unmarked_entries}
use Rattle.rn_assemble.proofs.including.inclusion.roots.Goals as goal

pub returns : goal.returns
returns c =
    let marks = c.in_ok-included.included.items in
    let rows = rows_of c.args.rows.now in
    let size : length marks ≡ length rows = omega (arith, c.in_ok-included.ensures.size, c.in_ok-included.included.ok) in
    let kept = items_from_extend c.extend.result c.extend.ensures.ran
    (YieldsList-from_filter_map _ unmarked
    (YieldsList-at c.filter_map.ensures.source (YieldsList-from_enumerate (YieldsList-at c.enumerate.ensures.source (YieldsList-from_slice marks (cc))) (cc)))
    c.filter_map.ensures.closure (λ x r q k. search (rules, tests))) in
    let made : c.extend.new.self.items ≡ filter_map unmarked (enumerate_from 0 marks) = search rules in
    ap module_numbers made ∙ unmarked_entries marks rows size c.in_ok-included.ensures.exact
