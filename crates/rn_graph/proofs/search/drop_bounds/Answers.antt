use Rattle.std.proofs.Common.{◌≡◌, ◌-◌, ◌<◌, ℕ, arith, ap, length, get_or, ◌∙◌}
use Rattle.std.specs.Prelude.{vec_len}
use Rattle.std.proofs.lemmas.List.{get_or_read}
use Rattle.std.proofs.lemmas.Grind.{common_steps}
use Rattle.rn_graph.proofs.Graphs.Searches.Rising.{uniting_goes_on, uniting_ends}
use Rattle.rn_graph.proofs.search.drop_bounds.Goals as goal

pub loop-bounds-preserved : goal.loop-bounds-preserved
loop-bounds-preserved c =
    let b = c.loop-bounds.bounds in
    let some : 0 < length b.items = grind (arith, common_steps) in
    let read : c.index.result.now ≡ get_or b.items (vec_len b - 1) 0 =
    get_or_read b.items (c.len.result - 1) c.index.result.now (omega (arith, some, c.len.ensures, b.ok)) c.index.ensures 0 ∙ ap (λ (n : ℕ). get_or b.items (n - 1) 0) c.len.ensures in
    uniting_goes_on c.args.bounds.now.items b.items c.pop.new.self.items c.args.place c.index.result.now (vec_len b) c.loop-bounds.invariant
    (omega (arith, b.ok)) read (omega (arith, some, b.ok)) c.if-index-place.true c.pop.ensures.rest

pub returns-else-index-place : goal.returns-else-index-place
returns-else-index-place c =
    let b = c.loop-bounds.bounds in
    uniting_ends c.args.bounds.now.items b.items c.args.place c.requires c.loop-bounds.invariant (λ some.
    let read : c.index.result.now ≡ get_or b.items (length b.items - 1) 0 =
    get_or_read b.items (c.len.result - 1) c.index.result.now (omega (arith, some, c.len.ensures, b.ok)) c.index.ensures 0 ∙ ap (λ (n : ℕ). get_or b.items (n - 1) 0) (omega (arith, c.len.ensures, b.ok)) in
    omega (arith, read, c.if-index-place.false))
