use Rattle.std.proofs.Common.{◌≡◌, length}
use Rattle.rn_text.specs.Segments.{after_run}
use Rattle.rn_text.specs.Texts.{is_white}
use Rattle.rn_xml.proofs.encoding.after_white.Given as goal

abbrev pub invariant-loop-rest : goal.invariant-loop-rest
invariant-loop-rest l = after_run is_white l.rest ≡ after_run is_white l.bytes

abbrev pub decreases-loop-rest : goal.decreases-loop-rest
decreases-loop-rest l = length l.rest
