use Rattle.std.proofs.Common.{◌≡◌, ◌+◌, ◌-◌, ◌<◌, ◌≤◌, ◌∷◌, [], drop, get_or, length, length-append, map, take, sym, ap, ◌∙◌, arith}
use Rattle.std.proofs.lemmas.List.{get_or-map, length-map, map-append}
use Rattle.rn_pattern.specs.View.{pattern_view, shared_view}
use Rattle.rn_assemble.proofs.Joining.MembersSoFar.{taken_more}
use Rattle.rn_assemble.proofs.by_key.combining.repeat.Goals as goal

pub loop-index-preserved : goal.loop-index-preserved
loop-index-preserved c =
    let olds = c.args.members.now.items in
    let ms = c.loop-index.members.items in
    let ts = map shared_view olds in
    let b = c.args.begin in
    let i = c.loop-index.index in
    let from = c.index.result.now in
    let added = c.in_ok-member.member in
    let low : b ≤ i = c.loop-index.auto.index in
    let below : i < b + c.args.count = c.loop-index-test.true in
    let l : i < length ts = omega (arith, below, c.requires, length-map olds shared_view) in
    let within : i < length ms = omega (arith, l, ap length c.loop-index.invariant, length-map ms shared_view, length-append ts (take (i - b) (drop b ts))) in
    let read : shared_view added ≡ get_or (map shared_view ms) i (shared_view from) = ap pattern_view c.in_ok-member.ensures.cases ∙ ap shared_view c.index.ensures ∙ sym (get_or-map shared_view ms i from (shared_view from) within) in
    ap (map shared_view) c.in_ok-push.ensures.items ∙ map-append shared_view ms (added ∷ [])
    ∙ taken_more ts (map shared_view ms) b i (shared_view added) (shared_view from) low l c.loop-index.invariant read
