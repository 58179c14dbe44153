use Rattle.rn_xml.proofs.NamedAttributes.{still}
use Rattle.rn_xml.proofs.NamedAttributes.{pair_only}
use Rattle.rn_xml.proofs.tags.insert_pair.Goals as goal

pub returns-clause-still : goal.returns-clause-still
returns-clause-still c = λ p h. still _ _ _ (c.in_ok-insert.ensures.updates.0 p) h

pub returns-clause-only : goal.returns-clause-only
returns-clause-only c = λ p h. pair_only c.args.pair p _ _ (c.in_ok-insert.ensures.updates.0 p) h
