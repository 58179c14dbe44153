use Rattle.std.proofs.Common.{◌≡◌, take}
use Rattle.std.specs.Prelude.{string_bytes}
use Rattle.rn_files.specs.inside.FileUris.{escaped_path}
use Rattle.rn_files.proofs.references.escapes.escaped_path.Given as goal

abbrev pub invariant-loop-byte : goal.invariant-loop-byte
invariant-loop-byte l = string_bytes l.out ≡ escaped_path (take l.byte-index l.byte-items)
