use Rattle.std.proofs.Common.{◌<◌, ◌≤◌, length}
use Rattle.std.specs.Prelude.{string_bytes, string_len}
use Rattle.std.specs.Str.{chars}
use Rattle.rn_xml.specs.XmlCharacters.{IsCharacters}
use Rattle.rn_xml.specs.inside.Rests.{source}
use denote.Shadow.{shadow}
use denote.Text.{Utf8}
use Rattle.rn_xml.proofs.markup.split_text.Given as goal

abbrev pub invariant-loop-content : goal.invariant-loop-content
invariant-loop-content l = shadow (Utf8 l.rest) × (length l.rest ≤ l.left) × (l.left ≤ length l.text) × (0 < string_len l.content → length l.rest < l.left) × IsCharacters (source l.text) (chars (string_bytes l.content)) (source l.rest)

abbrev pub decreases-loop-content : goal.decreases-loop-content
decreases-loop-content l = length l.rest
