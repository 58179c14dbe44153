-- What was found, and what the parts that are left have, is what all have.
use Rattle.std.proofs.Common.{◌≡◌, ◌++◌, length}
use Rattle.rn_outline.specs.Links.{targets_of}
use Rattle.rn_scopes.proofs.input_files.targets_of.Given as goal

abbrev pub invariant-parts : goal.invariant-parts
invariant-parts l = l.found.items ++ targets_of l.rest l.left ≡ targets_of l.parts l.targets

abbrev pub decreases-parts : goal.decreases-parts
decreases-parts l = length l.rest
