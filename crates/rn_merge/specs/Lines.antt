-- The lines and statuses of the program, in bytes without a line end. They are the project's own.
use Rattle.std.specs.Prelude.{ℕ, if◌then◌else◌, List, [], ◌∷◌, length, codes, decimal, Option, Some, None}
use Rattle.std.specs.String.{string_bytes}
use Rattle.std.specs.Str.{chars}
use Rattle.rn_text.specs.Characters.{is_keyword}
use Rattle.rn_text.specs.Literals.{literal_bytes}
use Rattle.rn_modset.specs.Contributions.{Member}
use Rattle.rn_modset.specs.Bundles.{spaced, digest}
use Rattle.rn_modset.specs.declared.faults.AddFault.{AddFault}
use Rattle.rn_modset.specs.declared.faults.BundleFault.{BundleFault}
use Rattle.rn_syntax.specs.declared.fault.FaultKind.{FaultKind}
use Rattle.rn_syntax.specs.Faults.{kind_name}
use Rattle.rn_assemble.specs.declared.refusal.Key.{Key}
use Rattle.rn_assemble.specs.declared.refusal.Refusal.{Refusal}
use Rattle.rn_merge.specs.declared.text_faults.Place.{Place}
use Rattle.rn_merge.specs.TextFaults.{kind_and_place}
use Rattle.rn_merge.specs.declared.words.ProgramFault.{ProgramFault}
use Rattle.rn_modset.specs.declared.faults.AddFault.TheVariants as adding
use Rattle.rn_modset.specs.declared.faults.BundleFault.TheVariants as reading
use Rattle.rn_assemble.specs.declared.refusal.Key.TheVariants.{Start, Define}
use Rattle.rn_assemble.specs.declared.refusal.Refusal.TheVariants as refusing
use Rattle.rn_merge.specs.declared.text_faults.Place.TheVariants as placing
use Rattle.rn_merge.specs.declared.words.ProgramFault.TheVariants as failing

-- a definition's name (RELAX NG Compact Syntax, appendix A, identifier)
abbrev pub identifier : List ℕ → List ℕ
identifier name = if is_keyword (chars name) then 92 ∷ name else name

abbrev pub key_field : Key → List ℕ
key_field Start = codes "start"
key_field (Define name) = identifier (string_bytes name)

-- ---- refusals: the name, and the fields behind it

abbrev pub refusal_name : Refusal → List ℕ
refusal_name (refusing.Conflict m revision) = codes "Conflict"
refusal_name (refusing.Encoding m) = codes "Encoding"
refusal_name (refusing.Lexical m) = codes "Lexical"
refusal_name (refusing.Deep m) = codes "Deep"
refusal_name (refusing.Syntax m) = codes "Syntax"
refusal_name (refusing.Prefix m) = codes "Prefix"
refusal_name (refusing.Builtin m) = codes "Builtin"
refusal_name (refusing.ContextValue m) = codes "ContextValue"
refusal_name (refusing.Except m) = codes "Except"
refusal_name (refusing.Missing m wanted) = codes "Missing"
refusal_name (refusing.Cycle m) = codes "Cycle"
refusal_name refusing.Instances = codes "Instances"
refusal_name (refusing.Override m key) = codes "Override"
refusal_name (refusing.PlainTwice key) = codes "PlainTwice"
refusal_name (refusing.MixedMethods key) = codes "MixedMethods"
refusal_name refusing.NoStart = codes "NoStart"
refusal_name (refusing.Undefined name) = codes "Undefined"
refusal_name (refusing.Recursive name) = codes "Recursive"
refusal_name (refusing.NameClass key) = codes "NameClass"
refusal_name refusing.OutputTooLarge = codes "OutputTooLarge"
refusal_name refusing.OutputTooDeep = codes "OutputTooDeep"
refusal_name refusing.Memory = codes "Memory"

-- a key is `start` or an identifier, a wanted name is a literal
abbrev pub refusal_fields : Refusal → List (List ℕ)
refusal_fields (refusing.Conflict m revision) = string_bytes m ∷ decimal revision ∷ []
refusal_fields (refusing.Encoding m) = string_bytes m ∷ []
refusal_fields (refusing.Lexical m) = string_bytes m ∷ []
refusal_fields (refusing.Deep m) = string_bytes m ∷ []
refusal_fields (refusing.Syntax m) = string_bytes m ∷ []
refusal_fields (refusing.Prefix m) = string_bytes m ∷ []
refusal_fields (refusing.Builtin m) = string_bytes m ∷ []
refusal_fields (refusing.ContextValue m) = string_bytes m ∷ []
refusal_fields (refusing.Except m) = string_bytes m ∷ []
refusal_fields (refusing.Missing m wanted) = string_bytes m ∷ literal_bytes (string_bytes wanted) ∷ []
refusal_fields (refusing.Cycle m) = string_bytes m ∷ []
refusal_fields (refusing.Override m key) = string_bytes m ∷ key_field key ∷ []
refusal_fields (refusing.PlainTwice key) = key_field key ∷ []
refusal_fields (refusing.MixedMethods key) = key_field key ∷ []
refusal_fields (refusing.Undefined name) = identifier (string_bytes name) ∷ []
refusal_fields (refusing.Recursive name) = identifier (string_bytes name) ∷ []
refusal_fields (refusing.NameClass key) = key_field key ∷ []
refusal_fields refusing.Instances = []
refusal_fields refusing.NoStart = []
refusal_fields refusing.OutputTooLarge = []
refusal_fields refusing.OutputTooDeep = []
refusal_fields refusing.Memory = []

-- one space between the name and each field
abbrev pub refusal_line : Refusal → List ℕ
refusal_line r = spaced (refusal_name r ∷ refusal_fields r)

-- ---- contributions

-- name, revision, and the text's length in bytes with its digest, or that it is withdrawn
abbrev pub list_words : List ℕ → ℕ → Option (List ℕ) → List (List ℕ)
list_words name revision (Some text) = name ∷ decimal revision ∷ decimal (length text) ∷ digest text ∷ []
list_words name revision None = name ∷ decimal revision ∷ codes "withdrawn" ∷ []

abbrev pub list_line : Member → List ℕ
list_line m = spaced (list_words m.name m.revision m.text)

-- ---- faults

abbrev pub add_line : AddFault → List ℕ
add_line adding.BadName = codes "BadName"
add_line adding.TooLong = codes "TooLong"
add_line adding.Full = codes "Full"
add_line adding.Memory = codes "Memory"

-- want of memory in a bundle is want of memory
abbrev pub bundle_line : ℕ → BundleFault → List ℕ
bundle_line n reading.Magic = spaced (codes "bundle" ∷ decimal n ∷ codes "Magic" ∷ [])
bundle_line n (reading.Header entry) = spaced (codes "bundle" ∷ decimal n ∷ codes "Header" ∷ decimal entry ∷ [])
bundle_line n (reading.Order entry) = spaced (codes "bundle" ∷ decimal n ∷ codes "Order" ∷ decimal entry ∷ [])
bundle_line n (reading.Digest entry) = spaced (codes "bundle" ∷ decimal n ∷ codes "Digest" ∷ decimal entry ∷ [])
bundle_line n reading.Truncated = spaced (codes "bundle" ∷ decimal n ∷ codes "Truncated" ∷ [])
bundle_line n reading.Trailing = spaced (codes "bundle" ∷ decimal n ∷ codes "Trailing" ∷ [])
bundle_line n reading.Memory = codes "Memory"

abbrev pub line_or_memory : Option (FaultKind × ℕ) → List ℕ
line_or_memory (Some fault) = spaced (kind_name fault.0 ∷ decimal fault.1 ∷ [])
line_or_memory None = codes "Memory"

abbrev pub place_line : Place → List ℕ
place_line place = line_or_memory (kind_and_place place)

abbrev pub fault_line : ProgramFault → List ℕ
fault_line failing.Usage = codes "usage"
fault_line failing.Rev = codes "usage: REV"
fault_line failing.Dash = codes "usage: -"
fault_line (failing.Read n) = spaced (codes "read" ∷ decimal n ∷ [])
fault_line (failing.Large n) = spaced (codes "large" ∷ decimal n ∷ [])
fault_line failing.Write = codes "write"
fault_line failing.Memory = codes "Memory"
fault_line (failing.Bundle n fault) = bundle_line n fault
fault_line (failing.Add fault) = add_line fault
fault_line (failing.Refused refusal) = refusal_line refusal
fault_line (failing.Check place) = place_line place

-- ---- statuses: 1 where the input is refused, 2 for the words, 3 for files and want of memory

abbrev pub add_status : AddFault → ℕ
add_status adding.Memory = 3
add_status _ = 1

abbrev pub bundle_status : BundleFault → ℕ
bundle_status reading.Memory = 3
bundle_status _ = 1

abbrev pub refusal_status : Refusal → ℕ
refusal_status refusing.Memory = 3
refusal_status _ = 1

abbrev pub place_status : Place → ℕ
place_status placing.Memory = 3
place_status _ = 1

abbrev pub status : ProgramFault → ℕ
status failing.Usage = 2
status failing.Rev = 2
status failing.Dash = 2
status (failing.Read n) = 3
status (failing.Large n) = 3
status failing.Write = 3
status failing.Memory = 3
status (failing.Bundle n fault) = bundle_status fault
status (failing.Add fault) = add_status fault
status (failing.Refused refusal) = refusal_status refusal
status (failing.Check place) = place_status place
