-- Runs over bundles: the union of the sets of which they are the bundles, and what is written.
use Rattle.std.specs.Prelude.{◌≡◌, ◌≢◌, ℕ, ◌<◌, ◌≤◌, Bool, true, false, List, [], ◌∷◌, length, map, take, IsSomeAnd, Option, Result, Ok, Err, slice_get, Some, Vec}
use Rattle.std.specs.declared.alloc.Global.{Global}
use Rattle.std.specs.Io.KnownBytes.{Appends}
use Rattle.rn_modset.specs.Contributions.{Member}
use Rattle.rn_modset.specs.Sets.{union}
use Rattle.rn_modset.specs.BundleGrammar.{IsBundle}
use Rattle.rn_modset.specs.BundleFaults.{HasBundleFault}
use Rattle.rn_modset.specs.Limits.{max_contributions}
use Rattle.rn_modset.specs.declared.faults.BundleFault.{BundleFault}
use Rattle.rn_modset.specs.declared.faults.BundleFault.TheVariants as reading
use Rattle.rn_simplify.specs.Verdict.{IsVerdict}
use Rattle.rn_merge.specs.declared.run.RunFault.{RunFault}
use Rattle.rn_merge.specs.declared.run.RunFault.TheVariants.{Bundle, Full, Memory, Write}
use Rattle.rn_merge.specs.declared.run.Status.{Status}
use Rattle.rn_merge.specs.declared.run.Status.TheVariants.{Done, Refused}
use Rattle.rn_merge.specs.Streams.{AppendsFront}
use Rattle.rn_merge.specs.Schemas.{IsSchemaOfSet}
use Rattle.rn_merge.specs.Verdicts.{verdict_view}

-- the bytes of each bundle
abbrev pub bundles_view : List (Vec ℕ Global) → List (List ℕ)
bundles_view bundles = map (λ bundle. bundle.items) bundles

-- sets joined to a set, one after the other
abbrev pub unions : List Member → List (List Member) → List Member
unions s [] = s
unions s (t ∷ ts) = unions (union s t) ts

-- each is the bundle of its set
abbrev pub AreBundles : List (List ℕ) → List (List Member) → Type 0
AreBundles [] [] = Unit {0}
AreBundles [] (s ∷ sets) = ⊥
AreBundles (b ∷ bundles) [] = ⊥
AreBundles (b ∷ bundles) (s ∷ sets) = IsBundle b s × AreBundles bundles sets

-- these are the bundles of sets, and s, which has no more contributions than a set may have, is the union of them all
pub record IsUnion (bundles : List (List ℕ)) (s : List Member) : Type 0 where
  pub sets : List (List Member)
  pub are : AreBundles bundles sets
  pub is : s ≡ unions [] sets
  pub few : length s ≤ max_contributions

-- the bundles before the index have a union
abbrev pub IsUnionBefore : List (List ℕ) → ℕ → List Member → Type 0
IsUnionBefore bundles index s = IsUnion (take index bundles) s

-- the set of the bundle at the index makes the union too large
pub record IsTooMany (bundles : List (List ℕ)) : Type 0 where
  pub index : ℕ
  pub before : List Member
  pub bytes : List ℕ
  pub next : List Member
  pub union_before : IsUnionBefore bundles index before
  pub at : slice_get bundles index ≡ Some bytes
  pub is_bundle : IsBundle bytes next
  pub many : max_contributions < length (union before next)

-- the bytes at the index, which come behind bundles that have a union, are no set's bundle: they have this fault
pub record ComesToFault (bundles : List (List ℕ)) (index : ℕ) (fault : BundleFault) : Type 0 where
  pub before : List Member
  pub bytes : List ℕ
  pub union_before : IsUnionBefore bundles index before
  pub at : slice_get bundles index ≡ Some bytes
  pub has : HasBundleFault bytes fault
  pub is_damage : fault ≢ reading.Memory

-- why the bundles have no union
abbrev pub HasNoUnion : List (List ℕ) → RunFault → Type 0
HasNoUnion bundles (Bundle index fault) = ComesToFault bundles index fault
HasNoUnion bundles Full = IsTooMany bundles
HasNoUnion bundles Memory = Unit {0}
HasNoUnion bundles Write = ⊥

-- what printing a set comes to: its schema was written, all of it; or its verdict is a refusal; or there is a schema, of which the sink took a front and then failed
abbrev pub IsPrinting : List Member → Option (List ℕ) → Option (List ℕ) → Bool → Result Status RunFault → Type 0
IsPrinting s old new failed (Ok Done) = (text : List ℕ) × IsSchemaOfSet s text × Appends old new text × (failed ≡ false)
IsPrinting s old new failed (Ok (Refused refusal)) = IsSomeAnd (verdict_view refusal) (IsVerdict s)
IsPrinting s old new failed (Err Write) = (text : List ℕ) × IsSchemaOfSet s text × AppendsFront old new text × (failed ≡ true)
IsPrinting s old new failed (Err Memory) = Unit {0}
IsPrinting s old new failed (Err fault) = ⊥

-- what came of a run: the bundles have a union, and it was printed; or they have none
abbrev pub IsRun : List (List ℕ) → Option (List ℕ) → Option (List ℕ) → Bool → Result Status RunFault → Type 0
IsRun bundles old new failed (Ok status) = (s : List Member) × IsUnion bundles s × IsPrinting s old new failed (Ok status)
IsRun bundles old new failed (Err Write) = (s : List Member) × IsUnion bundles s × IsPrinting s old new failed (Err Write)
IsRun bundles old new failed (Err fault) = HasNoUnion bundles fault

-- a run that comes to no text leaves the sink as it was
abbrev pub LeavesSink : Result Status RunFault → Type 0 → Type 0
LeavesSink (Ok Done) kept = Unit {0}
LeavesSink (Err Write) kept = Unit {0}
LeavesSink result kept = kept
