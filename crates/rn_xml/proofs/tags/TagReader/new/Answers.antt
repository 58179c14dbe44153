use Rattle.rn_xml.proofs.Openings.OpenReaders.{fresh_open}
use Rattle.rn_xml.proofs.tags.TagReader.new.Goals as goal

pub returns-clause-opened : goal.returns-clause-opened
returns-clause-opened c = fresh_open _ c.in_ok-new.ensures.elements c.in_ok-new.ensures.texts c.new-4.ensures.items c.new-2.ensures c.in_ok-new.ensures.uris
