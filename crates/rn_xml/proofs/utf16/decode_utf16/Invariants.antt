use Rattle.std.proofs.Common.{◌≡◌, ◌++◌, length, string_bytes}
use Rattle.std.specs.Str.{chars}
use Rattle.rn_xml.specs.Encodings.{utf16_bytes}
use Rattle.rn_xml.specs.inside.Units.{unit_bytes}
use Rattle.rn_xml.proofs.utf16.decode_utf16.Given as goal

abbrev pub invariant-loop-c : goal.invariant-loop-c
invariant-loop-c l = l.initial.rest ≡ utf16_bytes (unit_bytes l.order) (chars (string_bytes l.text)) ++ l.rest

abbrev pub decreases-loop-c : goal.decreases-loop-c
decreases-loop-c l = length l.rest
