-- The names that the files so far write are free.
use Rattle.std.proofs.Common.{ℕ, ◌<◌, get_or, string_bytes}
use Rattle.rn_scopes.specs.FreeNames.{FileIsFree}
use Rattle.rn_scopes.specs.declared.input_files.InputFile.{InputFile}
use Rattle.rn_scopes.proofs.free_names.are_free.Given as goal

abbrev pub invariant-loop-given : goal.invariant-loop-given
invariant-loop-given l = (k : ℕ) (d : InputFile) → k < l.given-index → FileIsFree l.names.made_stems (string_bytes l.names.start) (get_or l.units.files.items k d).file
