use Rattle.rn_text.proofs.Quoting.SegmentReadings.{segments_are_read}
use Rattle.rn_text.proofs.laws.segments_are_read.Goals as goal

pub returns : goal.returns
returns c = segments_are_read
