use Rattle.std.proofs.Common.{◌∙◌, ap}
use Rattle.rn_modset.specs.Digests.{set_digest}
use Rattle.rn_modset.proofs.sets.ModuleSet.digest.Goals as goal

pub returns : goal.returns
returns c = c.digest.ensures ∙ ap set_digest c.self.view_is
