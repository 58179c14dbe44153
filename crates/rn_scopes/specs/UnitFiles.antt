-- The files of units, and which file each part of a file names.
use Rattle.std.specs.Prelude.{◌≡◌, ℕ, List, Option, None, map, slice_get, unwrap_or}
use Rattle.rn_outline.specs.Links.{targets_of}
use Rattle.rn_scopes.specs.declared.input_files.InputFile.{InputFile}
use Rattle.rn_scopes.specs.declared.input_files.Lifting.{Lifting}
use Rattle.rn_scopes.specs.declared.units.Units.{Units}

-- the files of which these are the grammars
abbrev pub files_of : Units → List Lifting
files_of units = map (λ g. g.file) units.files.items

-- for each part of a file it is known which file it names
abbrev pub HasTargets : InputFile → Type 0
HasTargets g = g.targets.items ≡ targets_of g.file.outline.now.parts.items g.file.targets.now

-- the file that the part of this number names
abbrev pub target_of : InputFile → ℕ → Option ℕ
target_of g part = unwrap_or (slice_get g.targets.items part) None
