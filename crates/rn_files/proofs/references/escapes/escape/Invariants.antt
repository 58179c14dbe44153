use Rattle.std.proofs.Common.{◌≡◌, take}
use Rattle.std.specs.Prelude.{string_bytes}
use Rattle.rn_files.specs.Escapes.{escaped_reference}
use Rattle.rn_files.proofs.references.escapes.escape.Given as goal

abbrev pub invariant-loop-byte : goal.invariant-loop-byte
invariant-loop-byte l = string_bytes l.out ≡ escaped_reference (take l.byte-index l.byte-items)
