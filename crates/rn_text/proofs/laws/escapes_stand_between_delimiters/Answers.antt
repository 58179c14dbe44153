use Rattle.rn_text.proofs.Quoting.SegmentEscapes.{segments_hold}
use Rattle.rn_text.proofs.laws.escapes_stand_between_delimiters.Goals as goal

pub returns : goal.returns
returns c = segments_hold
