-- The first two in order.
use Rattle.rn_assemble.proofs.Diagnoses.Occurrences.{two_kept}
use Rattle.rn_assemble.proofs.diagnosing.occurrences.keep_two.Goals as goal

pub returns : goal.returns
returns c = two_kept c.args.found.now.items c.sort_by_key.new.self.items c.truncate.new.self.items c.in_ok-sort_by_key.ensures.permutation c.truncate.ensures.items
