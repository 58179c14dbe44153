use Rattle.std.proofs.Common.{◌∷◌, ◌++◌}
use Rattle.std.specs.Prelude.{codes}
use Rattle.rn_rng.specs.Translation.{attribute}
use Rattle.rn_rng.proofs.pattern_xml.named_tag.Goals as goal

pub returns-clause-attributes : goal.returns-clause-attributes
returns-clause-attributes c = λ i. attribute (codes "name") (c.prefix_of.ensures i ++ c.args.name.local.now) ∷ c.ns_attribute.ensures i
