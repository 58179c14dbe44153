use Rattle.std.proofs.Common.{length}
use Rattle.rn_xml.proofs.utf16.begins_with_tag.Given as goal

abbrev pub decreases-loop-c : goal.decreases-loop-c
decreases-loop-c l = length l.rest
