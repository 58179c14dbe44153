-- The names that the keys so far refer to and that have no mark are found.
use Rattle.std.proofs.Common.{List}
use Rattle.rn_assemble.specs.Components.{NamedModule}
use Rattle.rn_assemble.specs.inside.Diagnosing.{AreReferred}
use Rattle.rn_assemble.specs.inside.Pieces.{OfKeys}
use Rattle.rn_assemble.specs.inside.Rows.{AreRows}
use Rattle.rn_assemble.specs.inside.Views.{names_of}
use Rattle.rn_assemble.proofs.Diagnoses.UndefinedNames.{AreUnmarkedBelow}
use Rattle.rn_assemble.proofs.diagnosing.undefined_names.undefined_names.Given as goal

abbrev pub invariant-loop-number : goal.invariant-loop-number
invariant-loop-number l = OfKeys l.keys l.rows l.segments (λ names cs. AreUnmarkedBelow names cs l.is_defined.items l.number l.found.items)
    × ((modules : List NamedModule) → AreRows modules (names_of l.keys) l.rows.rows.items → AreReferred modules l.found.items)
