-- The canonical forms of the definitions that are reached.
use Rattle.std.specs.Prelude.{◌≡◌, List, Some, bytes_eq}
use Rattle.std.specs.Map.{lookup}
use Rattle.rn_pattern.specs.Canonical.{canonical}
use Rattle.rn_pattern.specs.Matching.{Grammar, definition_of}
use Rattle.rn_pattern.specs.Reached.{IsReached}
use Rattle.rn_pattern.specs.Tree.{Tree}
use Rattle.rn_text.specs.Texts.{Text}

-- the name of each definition that is reached has its canonical form, where references become what t says
abbrev pub HaveForms : Grammar → (Text → Tree) → List (Text × Tree) → Type 0
HaveForms G t fs = (x : Text) (p : Tree) → IsReached G x → definition_of G x ≡ Some p → lookup (bytes_eq x) fs ≡ Some (canonical t p)
