use Rattle.std.proofs.Common.{◌≡◌, take}
use Rattle.std.specs.List.{list_all}
use Rattle.rn_text.specs.Characters.{is_xml_char}
use Rattle.rn_text.specs.inside.Ascii.{is_ascii_and}
use Rattle.rn_text.proofs.source.are_ascii_xml_chars.Given as goal

abbrev pub invariant-loop-b : goal.invariant-loop-b
invariant-loop-b l = l.all ≡ list_all (is_ascii_and is_xml_char) (take l.b-index l.bytes)
