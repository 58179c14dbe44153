-- The digests that are kept are those of the texts.
use Rattle.std.proofs.Common.{◌∙◌, ap, arith, take}
use Rattle.std.proofs.lemmas.List.{take_all}
use Rattle.std.specs.List.{flat_map}
use Rattle.sha2.specs.Sha256.{sha256}
use Rattle.rn_modset.proofs.Numerals.TextDigests.{digests_flat}
use Rattle.rn_modset.proofs.members.Members.digest.Goals as goal

pub returns : goal.returns
returns c =
    let members = c.args.self.now in
    let digests = c.as_slice-digests in
    let all = take_all c.loop-digest.digest-index digests.result.now (omega arith) in
    c.finalize.ensures (flat_map (λ digest. digest) (take c.loop-digest.digest-index digests.result.now)) c.loop-digest.invariant ∙ ap (λ z. sha256 (flat_map (λ digest. digest) z)) all
    ∙ ap sha256 (digests_flat digests.result.now members.contributions.items (digests.ensures.value ∙ c.requires))
