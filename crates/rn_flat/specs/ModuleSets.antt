-- The set of the modules that the files become.
use Rattle.std.specs.Prelude.{◌≡◌, List, [], Some, map, string_bytes}
use Rattle.rn_modset.specs.Contributions.{Member}
use Rattle.rn_modset.specs.Sets.{union}
use Rattle.rn_lift.specs.declared.lifted.LiftedModule.{LiftedModule}

-- a module in revision 1
abbrev pub lifted_member : LiftedModule → Member
lifted_member m = record { name = string_bytes m.name; revision = 1; text = Some (string_bytes m.text) }

-- the set of the modules, each in revision 1
abbrev pub set_of_modules : List LiftedModule → List Member
set_of_modules modules = union [] (map lifted_member modules)

-- the set is that of the modules
abbrev pub IsSetOf : List LiftedModule → List Member → Type 0
IsSetOf modules set = set ≡ set_of_modules modules
