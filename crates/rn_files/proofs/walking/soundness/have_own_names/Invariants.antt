use Rattle.std.proofs.Common.{◌≡◌, length}
use Rattle.rn_files.specs.inside.Sources.{have_own_names}
use Rattle.rn_files.proofs.walking.soundness.have_own_names.Given as goal

-- what is left decides
abbrev pub invariant-loop-rest : goal.invariant-loop-rest
invariant-loop-rest l = have_own_names l.files ≡ have_own_names l.rest

abbrev pub decreases-loop-rest : goal.decreases-loop-rest
decreases-loop-rest l = length l.rest
