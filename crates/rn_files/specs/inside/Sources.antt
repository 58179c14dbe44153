-- How sources are looked at: numbers of files, and names.
use Rattle.std.specs.Prelude.{ℕ, ◌&&◌, Bool, true, not, List, [], ◌∷◌, nat_lt, string_bytes}
use Rattle.std.specs.List.{list_all}
use Rattle.std.specs.Str.{bytes_eq}
use Rattle.rn_files.specs.declared.sources.SourceFile.{SourceFile}

-- each number is less than the count
abbrev pub are_below : ℕ → List ℕ → Bool
are_below count numbers = list_all (λ x. nat_lt x count) numbers

-- two files have different names
abbrev pub differ_in_name : SourceFile → SourceFile → Bool
differ_in_name f g = not (bytes_eq (string_bytes f.name) (string_bytes g.name))

-- no file has the name of one after it, as the code looks at it
abbrev pub have_own_names : List SourceFile → Bool
have_own_names [] = true
have_own_names (f ∷ fs) = list_all (differ_in_name f) fs && have_own_names fs
