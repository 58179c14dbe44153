use Rattle.std.proofs.Common.{◌≡◌, length}
use Rattle.rn_text.specs.Characters.{is_name_char}
use Rattle.rn_text.specs.Segments.{after_run}
use Rattle.rn_text.specs.inside.Ascii.{is_ascii_and}
use Rattle.rn_text.proofs.characters.after_ascii_name_chars.Given as goal

abbrev pub invariant-loop-rest : goal.invariant-loop-rest
invariant-loop-rest l = after_run (is_ascii_and is_name_char) l.rest ≡ after_run (is_ascii_and is_name_char) l.bytes

abbrev pub decreases-loop-rest : goal.decreases-loop-rest
decreases-loop-rest l = length l.rest
