-- Words of the laws: what lists of calls and what bundles bring, and what a run tells.
use Rattle.std.specs.Prelude.{◌≡◌, ◌↔◌, ℕ, List, [], Option, Some, Contains}
use Rattle.std.specs.Io.KnownBytes.{Appends}
use Rattle.rn_modset.specs.Contributions.{Member}
use Rattle.rn_modset.specs.BundleGrammar.{IsBundle}
use Rattle.rn_modset.specs.Laws.{Call, after, brought}
use Rattle.rn_simplify.specs.Verdict.{Verdict, prints}
use Rattle.rn_merge.specs.declared.run.Status.{Status}
use Rattle.rn_merge.specs.declared.run.Status.TheVariants.{Done, Refused}
use Rattle.rn_merge.specs.Verdicts.{verdict_view}

-- calls of `add` and `join` that answered Ok, one after the other on a set that began empty, left it as s; a set that was
-- joined may have come about in any way
abbrev pub IsLeftBy : List Call → List Member → Type 0
IsLeftBy calls s = s ≡ after [] calls

-- a call of the list added the contribution, or joined a set that holds it
abbrev pub Bring : List Call → Member → Type 0
Bring calls m = (call : Call) × Contains calls call × Contains (brought call) m

-- the calls bring the same contributions, in any order, however joined and however often
abbrev pub BringAlike : List Call → List Call → Type 0
BringAlike calls others = (m : Member) → Bring calls m ↔ Bring others m

-- one of the bundles holds the contribution
abbrev pub Brings : List (List ℕ) → Member → Type 0
Brings bundles m = (bytes : List ℕ) × (s : List Member) × Contains bundles bytes × IsBundle bytes s × Contains s m

-- the bundles hold the same contributions
abbrev pub BringSame : List (List ℕ) → List (List ℕ) → Type 0
BringSame bundles others = (m : Member) → Brings bundles m ↔ Brings others m

-- the same bundles, in any order and however often
abbrev pub AreSame : List (List ℕ) → List (List ℕ) → Type 0
AreSame bundles others = (bytes : List ℕ) → Contains bundles bytes ↔ Contains others bytes

-- the verdict that a run tells: by the text that was written, or by a refusal
abbrev pub Tells : Option (List ℕ) → Option (List ℕ) → Status → Verdict → Type 0
Tells old new Done verdict = (text : List ℕ) × (verdict ≡ prints text) × Appends old new text
Tells old new (Refused refusal) verdict = verdict_view refusal ≡ Some verdict
