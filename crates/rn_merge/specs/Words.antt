-- The files that a job names.
use Rattle.std.specs.Prelude.{◌≢◌, ℕ, ◌≤◌, List, [], map, count_by, codes, bytes_eq}
use Rattle.std.specs.String.{string_bytes}
use Rattle.rn_merge.specs.declared.words.Job.{Job}
use Rattle.rn_merge.specs.declared.words.Job.TheVariants.{Join, List as Listing, Print}

-- there is a file, and one at most is standard input
pub record AreFiles (files : List (List ℕ)) : Type 0 where
  pub some : files ≢ []
  pub one_input : count_by (λ file. bytes_eq file (codes "-")) files ≤ 1

-- the files of a job on bundles
abbrev pub NamesFiles : Job → Type 0
NamesFiles (Join files) = AreFiles (map string_bytes files.items)
NamesFiles (Listing files) = AreFiles (map string_bytes files.items)
NamesFiles (Print files) = AreFiles (map string_bytes files.items)
NamesFiles job = Unit {0}
