-- The numbers that were found, and those of the parts that are left, are those of all.
use Rattle.std.proofs.Common.{◌≡◌, ◌+◌, ◌++◌, length}
use Rattle.rn_outline.specs.Links.{link_numbers, link_numbers_from}
use Rattle.rn_outline.proofs.file_parts.Outline.links.Given as goal

abbrev pub invariant-parts : goal.invariant-parts
invariant-parts l = (l.links.items ++ link_numbers_from l.number l.rest ≡ link_numbers l.self.parts.items) × (l.number + length l.rest ≡ length l.self.parts.items)

abbrev pub decreases-parts : goal.decreases-parts
decreases-parts l = length l.rest
