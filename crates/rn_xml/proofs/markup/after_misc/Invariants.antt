use Rattle.std.proofs.Common.{◌≡◌, ◌≤◌, false, length}
use Rattle.std.specs.Str.{chars}
use Rattle.rn_text.specs.Segments.{begins_with}
use Rattle.rn_text.specs.Texts.{is_white}
use Rattle.rn_xml.specs.XmlCharacters.{AreMisc}
use Rattle.rn_xml.specs.inside.Rests.{source}
use denote.Shadow.{shadow}
use denote.Text.{Utf8}
use Rattle.rn_xml.proofs.markup.after_misc.Given as goal

abbrev pub invariant-loop-after : goal.invariant-loop-after
invariant-loop-after l = shadow (Utf8 l.rest) × (length l.rest ≤ length l.text) × AreMisc (source l.text) (source l.rest) × (begins_with is_white (chars l.rest) ≡ false)

abbrev pub decreases-loop-after : goal.decreases-loop-after
decreases-loop-after l = length l.rest
