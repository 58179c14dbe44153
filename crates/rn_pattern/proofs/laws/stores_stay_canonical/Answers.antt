use Rattle.rn_pattern.specs.inside.Stored.{trees_of_nodes}
use Rattle.rn_pattern.specs.declared.tables.interned.Interned.{Interned}
use Rattle.rn_pattern.specs.declared.tables.plain.Plain.{Plain}
use Rattle.rn_pattern.proofs.CanonicalForms.BuiltCanonical.{stays_canonical}
use Rattle.rn_pattern.proofs.laws.stores_stay_canonical.Goals as goal

pub returns-clause-interned : goal.returns-clause-interned
returns-clause-interned c = stays_canonical (λ (s : Interned). trees_of_nodes s.nodes.keys)

pub returns-clause-plain : goal.returns-clause-plain
returns-clause-plain c = stays_canonical (λ (s : Plain). trees_of_nodes s.nodes.items)
