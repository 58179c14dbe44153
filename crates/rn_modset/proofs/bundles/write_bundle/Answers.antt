-- What is written is spelled as the bundle, so it is the bundle.
use Rattle.std.proofs.Common.{arith, ◌≡◌}
use Rattle.std.proofs.lemmas.Grind.{common_steps}
use Rattle.rn_modset.specs.Bundles.{bundle}
use Rattle.rn_modset.proofs.BundlesWritten.SpelledBundles.{bundle_at}
use Rattle.rn_modset.proofs.bundles.write_bundle.Goals as goal

pub returns : goal.returns
returns c =
    let spelled : c.extend_from_slice-2.new.self.items ≡ bundle c.args.set.now = grind (arith, common_steps) in
    bundle_at c.extend_from_slice-2.new.self.items c.args.set.now c.as_slice-members.ensures.kept spelled
