use Rattle.std.proofs.Common.{◌≡◌, take}
use Rattle.rn_files.specs.Paths.{walked_folder}
use Rattle.rn_files.proofs.WalkedSegments.{AreWithin, texts}
use Rattle.rn_files.proofs.references.paths.lead_above.Given as goal

-- where the segments so far lead, and none of them leads above
abbrev pub invariant-loop-segment : goal.invariant-loop-segment
invariant-loop-segment l = (texts l.folder.items ≡ walked_folder (texts (take l.segment-index l.segments))) × AreWithin (texts l.segments) l.segment-index
