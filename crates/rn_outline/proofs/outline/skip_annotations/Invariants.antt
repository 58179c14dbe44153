-- The annotations so far were read.
use Rattle.std.proofs.Common.{◌≤◌, ◌-◌, length}
use Rattle.rn_outline.proofs.outline.skip_annotations.Given as goal

abbrev pub invariant-annotations : goal.invariant-annotations
invariant-annotations l = record { further : l.fn.at ≤ l.at; inside : l.at ≤ length l.tokens }

abbrev pub decreases-annotations : goal.decreases-annotations
decreases-annotations l = length l.tokens - l.at
