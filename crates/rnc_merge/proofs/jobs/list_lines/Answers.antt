use Rattle.std.proofs.Common.{◌∙◌, ap, map, sym}
use Rattle.std.specs.Slice.Iter.{iter_rest}
use Rattle.std.proofs.lemmas.Iterator.{YieldsList-from_slice}
use Rattle.std.proofs.lemmas.Iterator.Consumers.{YieldsList-end}
use Rattle.std.proofs.lemmas.Simd.{map-map}
use Rattle.rn_modset.specs.Contributions.{member}
use Rattle.rnc_merge.specs.Jobs.{list_lines}
use Rattle.rnc_merge.proofs.jobs.list_lines.Goals as goal

pub returns : goal.returns
returns c =
    let rest = iter_rest c.iter-contribution-items.result in
    let all = YieldsList-end (YieldsList-from_slice rest (cc)) c.loop-contribution.yielded _ c.loop-contribution.yielded_by _ _ c.in-None.is c.next.ensures.steps in
    c.loop-contribution.invariant
    ∙ ap list_lines (sym (map-map member (λ m. m.now) c.loop-contribution.yielded) ∙ ap (map member) all.0 ∙ c.iter-contribution-items.ensures.items)
