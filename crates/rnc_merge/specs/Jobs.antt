-- What each job makes of the bytes of its files, what it writes of that, and the fault in its place.
use Rattle.std.specs.Prelude.{◌≡◌, ◌⊎◌, ℕ, Bool, true, false, List, [], ◌∷◌, ◌++◌, map, IsOk, IsErrAnd, Option, Some, None, Result, Ok, Err, string_bytes}
use Rattle.std.specs.List.{AllZip, flat_map}
use Rattle.std.specs.Io.KnownBytes.{Appends}
use Rattle.rn_modset.specs.Contributions.{Member}
use Rattle.rn_modset.specs.Sets.{IsRefused}
use Rattle.rn_modset.specs.BundleGrammar.{IsBundle}
use Rattle.rn_merge.specs.Lines.{list_line}
use Rattle.rn_merge.specs.ProgramFaults.{run_fault}
use Rattle.rn_merge.specs.Runs.{IsUnion, HasNoUnion, IsRun}
use Rattle.rn_merge.specs.Streams.{AppendsFront}
use Rattle.rn_merge.specs.TextFaults.{IsGood, HasPlace}
use Rattle.rn_merge.specs.declared.run.RunFault.{RunFault}
use Rattle.rn_merge.specs.declared.run.Status.{Status}
use Rattle.rn_merge.specs.declared.run.Status.TheVariants.{Done, Refused}
use Rattle.rn_merge.specs.declared.streams.ReadFault.{ReadFault}
use Rattle.rn_merge.specs.declared.words.Job.{Job}
use Rattle.rn_merge.specs.declared.words.Job.TheVariants.{Pack, Withdraw, Join, List as Listing, Print, Check}
use Rattle.rn_merge.specs.declared.words.ProgramFault.{ProgramFault}
use Rattle.rn_merge.specs.declared.words.ProgramFault.TheVariants as failing
use Rattle.rnc_merge.specs.Inputs.{IsInputFault}

-- the files of a job, in order
abbrev pub files_of : Job → List (List ℕ)
files_of (Pack name revision file) = string_bytes file ∷ []
files_of (Withdraw name revision) = []
files_of (Join files) = map string_bytes files.items
files_of (Listing files) = map string_bytes files.items
files_of (Print files) = map string_bytes files.items
files_of (Check file) = string_bytes file ∷ []

-- ---- what is written

-- the output took the bytes, all of them; or it took a front of them and failed
abbrev pub IsWritten : {T : Type 0} → List ℕ → Option (List ℕ) → Option (List ℕ) → Bool → Result T ProgramFault → Type 0
IsWritten bytes old new failed (Ok x) = Appends old new bytes × (failed ≡ false)
IsWritten bytes old new failed (Err failing.Write) = AppendsFront old new bytes × (failed ≡ true)
IsWritten bytes old new failed (Err fault) = ⊥

-- such bytes were made, and written; or there is a fault in their place
abbrev pub Writes : {T : Type 0} → (List ℕ → Type 0) → (ProgramFault → Type 0) → Option (List ℕ) → Option (List ℕ) → Bool → Result T ProgramFault → Type 0
Writes IsMade IsFault old new failed result = ((bytes : List ℕ) × IsMade bytes × IsWritten bytes old new failed result) ⊎ IsErrAnd result IsFault

-- ---- jobs on one contribution

-- the bundle of the contribution alone
abbrev pub IsBundleOf : Member → List ℕ → Type 0
IsBundleOf m bytes = IsBundle bytes (m ∷ [])

-- why a contribution is in no bundle
abbrev pub IsPackFault : Member → ProgramFault → Type 0
IsPackFault m (failing.Add fault) = IsRefused [] m fault
IsPackFault m failing.Memory = Unit {0}
IsPackFault m fault = ⊥

-- ---- jobs on bundles

-- the bundle of their union
abbrev pub IsUnionBundle : List (List ℕ) → List ℕ → Type 0
IsUnionBundle bundles bytes = (s : List Member) × IsUnion bundles s × IsBundle bytes s

-- a line for each contribution of their union, in order
abbrev pub list_lines : List Member → List ℕ
list_lines s = flat_map (λ m. list_line m ++ 10 ∷ []) s

abbrev pub IsUnionList : List (List ℕ) → List ℕ → Type 0
IsUnionList bundles bytes = (s : List Member) × IsUnion bundles s × (bytes ≡ list_lines s)

-- why they have no union
abbrev pub IsUnionFault : List (List ℕ) → ProgramFault → Type 0
IsUnionFault bundles fault = (why : RunFault) × HasNoUnion bundles why × (fault ≡ run_fault why)

-- the program answers as the run does
abbrev pub AnswersRun : {T : Type 0} → Result Status RunFault → Result T ProgramFault → Type 0
AnswersRun (Ok Done) result = IsOk result
AnswersRun (Ok (Refused refusal)) result = IsErrAnd result (λ fault. fault ≡ failing.Refused refusal)
AnswersRun (Err why) result = IsErrAnd result (λ fault. fault ≡ run_fault why)

-- the bundles were run, and the schema of their union is written, or the fault of the run is answered
abbrev pub IsPrinted : {T : Type 0} → List (List ℕ) → Option (List ℕ) → Option (List ℕ) → Bool → Result T ProgramFault → Type 0
IsPrinted bundles old new failed result = (run : Result Status RunFault) × IsRun bundles old new failed run × AnswersRun run result

-- ---- the job on a module text

-- the text is good, or it has the fault that is answered
abbrev pub IsChecked : {T : Type 0} → List ℕ → Result T ProgramFault → Type 0
IsChecked text (Ok x) = IsGood text
IsChecked text (Err (failing.Check place)) = HasPlace text place
IsChecked text (Err fault) = ⊥

-- ---- all jobs

-- what comes of a job on the bytes of its files
abbrev pub IsOutcome : {T : Type 0} → Job → List (List ℕ) → Option (List ℕ) → Option (List ℕ) → Bool → Result T ProgramFault → Type 0
IsOutcome (Pack name revision file) (text ∷ []) old new failed result =
    let m : Member = record { name = string_bytes name; revision = revision; text = Some text } in
    Writes (IsBundleOf m) (IsPackFault m) old new failed result
IsOutcome (Withdraw name revision) [] old new failed result =
    let m : Member = record { name = string_bytes name; revision = revision; text = None } in
    Writes (IsBundleOf m) (IsPackFault m) old new failed result
IsOutcome (Join files) bundles old new failed result = Writes (IsUnionBundle bundles) (IsUnionFault bundles) old new failed result
IsOutcome (Listing files) bundles old new failed result = Writes (IsUnionList bundles) (IsUnionFault bundles) old new failed result
IsOutcome (Print files) bundles old new failed result = IsPrinted bundles old new failed result
IsOutcome (Check file) (text ∷ []) old new failed result = IsChecked text result
IsOutcome job inputs old new failed result = ⊥

-- what comes of a job: its files gave bytes, and this came of them; or not all of the files are read
abbrev pub IsPerformed : {T : Type 0} → Job → (List ℕ → List ℕ → Type 0) → (List ℕ → ReadFault → Type 0) → Option (List ℕ) → Option (List ℕ) → Bool → Result T ProgramFault → Type 0
IsPerformed job gives refuses old new failed result =
    ((inputs : List (List ℕ)) × AllZip gives (files_of job) inputs × IsOutcome job inputs old new failed result)
    ⊎ IsErrAnd result (IsInputFault gives refuses (files_of job))

-- a check, and a job that ends with any fault but `Write`, leave the output as it was
abbrev pub KeepsOutput : {T : Type 0} → Job → Result T ProgramFault → Type 0 → Type 0
KeepsOutput (Check file) result kept = kept
KeepsOutput job (Ok x) kept = Unit {0}
KeepsOutput job (Err failing.Write) kept = Unit {0}
KeepsOutput job (Err fault) kept = kept
