use Rattle.std.proofs.Common.{◌≡◌, ◌≤◌, length, vec_len}
use Rattle.rn_xml.proofs.NamedAttributes.{NamesUpTo}
use Rattle.rn_xml.proofs.tags.TagReader.name_attributes.Given as goal

abbrev pub invariant-loop-index : goal.invariant-loop-index
invariant-loop-index l = (l.self.len ≡ l.fn.self.len) × (vec_len l.self.tables.document.elements ≡ vec_len l.fn.self.tables.document.elements)
    × (vec_len l.self.tables.document.attributes ≡ vec_len l.fn.self.tables.document.attributes)
    × (l.first ≤ length l.fn.self.tables.document.attributes.items → NamesUpTo l.fn.self l.self l.first l.index l.seen)
    × (l.self.tables.document ≡ record l.fn.self.tables.document { attributes = l.self.tables.document.attributes })
