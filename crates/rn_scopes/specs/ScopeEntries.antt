-- The names of the modules of places: of any place, and of the first place of a scope.
use Rattle.std.specs.Prelude.{ℕ, List, [], Option, Some, None, slice_get, string_bytes}
use Rattle.rn_scopes.specs.declared.scopes.PlacedUnit.{PlacedUnit}
use Rattle.rn_scopes.specs.declared.scopes.Plan.{Plan}
use Rattle.rn_scopes.specs.declared.scopes.Scope.{Scope}

-- the name of the module of a place, if there is one
abbrev pub module_of : Option PlacedUnit → List ℕ
module_of (Some place) = string_bytes place.module
module_of None = []

-- the name of the module of a scope's first place
abbrev pub entry_of : Plan → Scope → List ℕ
entry_of plan scope = module_of (slice_get plan.places.items scope.entry)
