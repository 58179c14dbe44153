use Rattle.rn_modset.proofs.BundlesWritten.SpelledBundles.{bundle_spelled, bundle_at}
use Rattle.rn_modset.proofs.laws.grammar_is_the_spelling.Goals as goal

pub returns : goal.returns
returns c = λ bytes s. (λ b. bundle_spelled bytes s b, λ h. bundle_at bytes s h.0 h.1)
