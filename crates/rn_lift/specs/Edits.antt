-- Texts in the place of bytes of another text.
use Rattle.std.specs.Prelude.{ℕ, ◌≤◌, List, [], ◌∷◌, ◌++◌, slice_range, string_bytes}
use Rattle.rn_lift.specs.declared.edits.Edit.{Edit}

-- the bytes of a source from one up to, and without, another, but for what makes way for these texts
abbrev pub edited_bytes : List ℕ → ℕ → ℕ → List Edit → List ℕ
edited_bytes source from to [] = slice_range source from to
edited_bytes source from to (e ∷ es) = slice_range source from e.span.from ++ (string_bytes e.text ++ edited_bytes source e.span.to to es)

-- what makes way stands one behind another, from one byte on, and ends at another or before it
abbrev pub AreInTurn : ℕ → ℕ → List Edit → Type 0
AreInTurn from to [] = from ≤ to
AreInTurn from to (e ∷ es) = (from ≤ e.span.from) × (e.span.from ≤ e.span.to) × AreInTurn e.span.to to es
