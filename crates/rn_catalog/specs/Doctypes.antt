-- Texts in which a document type declaration is blanked, so that all else has the place that it had.
use Rattle.std.specs.Prelude.{◌≡◌, ℕ, List, ◌++◌, codes, length}
use Rattle.std.specs.List.{repeat}

-- the text with a space in place of each byte of one part of it
abbrev pub IsBlanked : List ℕ → List ℕ → Type 0
IsBlanked text new =
    (front part rest : List ℕ) × (text ≡ front ++ (part ++ rest)) × (new ≡ front ++ (repeat (length part) (codes " ") ++ rest))
