use Rattle.std.proofs.Common.{◌≡◌, take}
use Rattle.std.specs.Prelude.{string_bytes}
use Rattle.rn_files.specs.ModuleNames.{name_of}
use Rattle.rn_files.proofs.module_names.module_name.Given as goal

abbrev pub invariant-loop-byte : goal.invariant-loop-byte
invariant-loop-byte l = string_bytes l.name ≡ name_of (take l.byte-index l.byte-items)
