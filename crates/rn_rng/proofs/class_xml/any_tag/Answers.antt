use Rattle.std.proofs.Common.{append-nil, ◌∙◌}
use Rattle.rn_rng.proofs.class_xml.any_tag.Goals as goal

pub returns-clause-attributes : goal.returns-clause-attributes
returns-clause-attributes c = append-nil _ ∙ c.any_attribute.ensures
