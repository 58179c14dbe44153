use Rattle.std.proofs.Common.{◌≤◌, length}
use Rattle.rn_xml.specs.inside.Rests.{source}
use Rattle.rn_xml.proofs.UpToEnds.{Reaches}
use Rattle.rn_xml.proofs.Refusals.RefusedMarkup.{LeavesEnd}
use denote.Shadow.{shadow}
use denote.Text.{Utf8}
use Rattle.rn_xml.proofs.markup.after_end.Given as goal

abbrev pub invariant-loop-c : goal.invariant-loop-c
invariant-loop-c l = shadow (Utf8 l.rest) × (length l.rest ≤ length l.text) × Reaches l.end (source l.text) (source l.rest) × LeavesEnd l.end (source l.text) (source l.rest)

abbrev pub decreases-loop-c : goal.decreases-loop-c
decreases-loop-c l = length l.rest
