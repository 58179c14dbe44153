-- The references of the components so far, with those of the components left, are the references of all that have a mark.
use Rattle.std.proofs.Common.{◌≡◌, ◌++◌, drop, map}
use Rattle.rn_assemble.specs.inside.Referred.{marked_references, reference_view}
use Rattle.rn_assemble.proofs.by_key.references.references_in.Given as goal

abbrev pub invariant-loop-index : goal.invariant-loop-index
invariant-loop-index l = map reference_view l.found.items ++ marked_references (drop l.index l.is_live.items) (drop l.index l.row) ≡ marked_references l.is_live.items l.row
