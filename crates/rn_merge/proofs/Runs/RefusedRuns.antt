-- What comes of a set whose merge is refused, and of a run whose union was printed.
use Rattle.std.specs.Prelude.{ℕ, Bool, List, Option, Result, Ok, Err}
use Rattle.rn_modset.specs.Contributions.{Member}
use Rattle.rn_assemble.specs.declared.refusal.Refusal as code
use Rattle.rn_assemble.specs.declared.refusal.Refusal.TheVariants as r
use Rattle.rn_merge.specs.declared.run.RunFault.{RunFault}
use Rattle.rn_merge.specs.declared.run.RunFault.TheVariants.{Bundle, Full, Memory, Write}
use Rattle.rn_merge.specs.declared.run.Status.{Status}
use Rattle.rn_merge.specs.Runs.{IsUnion, IsPrinting, IsRun, LeavesSink}
use Rattle.rn_merge.specs.inside.Outcomes.{refusal_outcome}
use Rattle.rn_merge.proofs.Verdicts.SetVerdict.{IsRefusedAs}

pub refused_printing : (old new : Option (List ℕ)) (failed : Bool) (s : List Member) (q : code.Refusal) → IsRefusedAs s q → IsPrinting s old new failed (refusal_outcome q)
refused_printing old new failed s r.Memory h = tt
refused_printing old new failed s q h = h

pub refused_leaves : (q : code.Refusal) (Kept : Type 0) → Kept → LeavesSink (refusal_outcome q) Kept
refused_leaves r.Memory Kept kept = kept
refused_leaves q Kept kept = kept

pub printed_run : (bundles : List (List ℕ)) (old new : Option (List ℕ)) (failed : Bool) (s : List Member) (result : Result Status RunFault) → IsUnion bundles s → IsPrinting s old new failed result → IsRun bundles old new failed result
printed_run bundles old new failed s (Ok status) union h = (s, union, h)
printed_run bundles old new failed s (Err Write) union h = (s, union, h)
printed_run bundles old new failed s (Err Memory) union h = tt
printed_run bundles old new failed s (Err Full) union h = absurd h
printed_run bundles old new failed s (Err (Bundle index fault)) union h = absurd h
