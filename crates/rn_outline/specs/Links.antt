-- Parts that name another file.
use Rattle.std.specs.Prelude.{ℕ, ◌+◌, Bool, true, false, if◌then◌else◌, List, [], ◌∷◌, Option, Some, None}
use Rattle.rn_outline.specs.declared.file_parts.FilePart.{FilePart}
use Rattle.rn_outline.specs.declared.file_parts.FilePartKind.{FilePartKind}
use Rattle.rn_outline.specs.declared.file_parts.FilePartKind.TheVariants.{External, Include}

-- an external or an include
abbrev pub is_link_kind : FilePartKind → Bool
is_link_kind (External _ _ _) = true
is_link_kind (Include _ _ _) = true
is_link_kind _ = false

-- a part that names another file
abbrev pub is_link : FilePart → Bool
is_link p = is_link_kind p.kind

-- the first of these numbers, and the others
abbrev pub first_of : List ℕ → Option ℕ
first_of [] = None
first_of (t ∷ ts) = Some t

abbrev pub behind_first : List ℕ → List ℕ
behind_first [] = []
behind_first (t ∷ ts) = ts

-- for each part, the number that is given for it: those that name a file have these numbers in turn
abbrev pub targets_of : List FilePart → List ℕ → List (Option ℕ)
targets_of [] ts = []
targets_of (p ∷ ps) ts = if is_link p then first_of ts ∷ targets_of ps (behind_first ts) else None ∷ targets_of ps ts

-- the numbers of those parts that name another file, where the first part has this number
abbrev pub link_numbers_from : ℕ → List FilePart → List ℕ
link_numbers_from number [] = []
link_numbers_from number (p ∷ ps) = if is_link p then number ∷ link_numbers_from (number + 1) ps else link_numbers_from (number + 1) ps

-- the numbers of the parts that name another file
abbrev pub link_numbers : List FilePart → List ℕ
link_numbers parts = link_numbers_from 0 parts
