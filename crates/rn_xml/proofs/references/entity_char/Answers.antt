use Rattle.std.proofs.Common.{refl}
use Rattle.std.specs.Prelude.{codes}
use Rattle.rn_xml.specs.XmlCharacters as x
use Rattle.rn_xml.proofs.Numbers.{entity_of, no_entity}
use Rattle.rn_xml.proofs.references.entity_char.Goals as goal

pub returns-in-amp : goal.returns-in-amp
returns-in-amp c = entity_of (codes "amp") c.args.name.now _ refl c.in-amp.is x.IsEntity.amp

pub returns-in-lt : goal.returns-in-lt
returns-in-lt c = entity_of (codes "lt") c.args.name.now _ refl c.in-lt.is x.IsEntity.lt

pub returns-in-gt : goal.returns-in-gt
returns-in-gt c = entity_of (codes "gt") c.args.name.now _ refl c.in-gt.is x.IsEntity.gt

pub returns-in-apos : goal.returns-in-apos
returns-in-apos c = entity_of (codes "apos") c.args.name.now _ refl c.in-apos.is x.IsEntity.apos

pub returns-in-quot : goal.returns-in-quot
returns-in-quot c = entity_of (codes "quot") c.args.name.now _ refl c.in-quot.is x.IsEntity.quot

pub returns-in_default : goal.returns-in_default
returns-in_default c = no_entity c.args.name.now c.utf8.name c.in_default.not-amp c.in_default.not-lt c.in_default.not-gt c.in_default.not-apos c.in_default.not-quot
