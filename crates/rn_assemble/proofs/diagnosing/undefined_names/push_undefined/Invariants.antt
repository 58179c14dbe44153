-- The names of the components so far were added.
use Rattle.std.proofs.Common.{◌≡◌, ◌++◌, List, drop}
use Rattle.rn_text.specs.Texts.{Text}
use Rattle.rn_pattern.specs.declared.references.Reach.{Reach}
use Rattle.rn_pattern.specs.declared.references.Reach.TheVariants.{Everywhere}
use Rattle.rn_assemble.specs.inside.Diagnosing.{AddsUnmarked}
use Rattle.rn_assemble.specs.inside.Referred.{marked_references, names_within}
use Rattle.rn_assemble.specs.inside.Views.{names_of}
use Rattle.rn_assemble.proofs.diagnosing.undefined_names.push_undefined.Given as goal

abbrev pub invariant-loop-index : goal.invariant-loop-index
invariant-loop-index l = (done : List (Text × Reach)) × (done ++ marked_references (drop l.index l.is_live) (drop l.index l.row) ≡ marked_references l.is_live l.row)
    × AddsUnmarked l.row (names_of l.keys) l.is_defined (names_within Everywhere done) l.fn.found.items l.found.items
