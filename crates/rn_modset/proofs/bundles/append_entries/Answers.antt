-- The digest at a place is that of the text there.
use Rattle.std.proofs.Common.{◌∙◌, ap, arith, length}
use Rattle.rn_modset.proofs.Numerals.TextDigests.{digest_at}
use Rattle.rn_modset.proofs.bundles.append_entries.Goals as goal

pub append_entry-requires : goal.append_entry-requires
append_entry-requires c =
    let members = c.args.members.now in
    let cs = c.as_slice-contributions in
    let beside = digest_at members.digests.items members.contributions.items c.loop-at.at c.index-contributions-at.result c.index.result.now c.requires (omega (arith, ap length cs.ensures.value)) (rw cs.ensures.value at c.index-contributions-at.is) in
    c.index.ensures ∙ beside
