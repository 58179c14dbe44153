use Rattle.std.proofs.Common.{◌≤◌, length}
use Rattle.std.specs.Prelude.{string_bytes}
use Rattle.std.specs.Str.{chars}
use Rattle.rn_xml.specs.inside.Fronts.{LeavesValue}
use Rattle.rn_xml.specs.inside.Rests.{source}
use Rattle.rn_xml.proofs.AttributeValues.{Continued}
use denote.Shadow.{shadow}
use denote.Text.{Utf8}
use Rattle.rn_xml.proofs.values.split_value.Given as goal

abbrev pub invariant-loop-c : goal.invariant-loop-c
invariant-loop-c l = shadow (Utf8 l.rest) × (length l.rest ≤ length l.text) × Continued l.quote (source l.text) (chars (string_bytes l.value)) (source l.rest)
    × LeavesValue l.quote (source l.text) (source l.rest)

abbrev pub decreases-loop-c : goal.decreases-loop-c
decreases-loop-c l = length l.rest
