-- Parents and rows of elements that are read.
use Rattle.std.specs.Prelude.{◌≡◌, ℕ, ◌<◌, ◌≤◌, Option, Some, None}
use Rattle.rn_xml.specs.declared.document.Rows.{Rows}

-- this may be the parent of the next of so many elements
abbrev pub MayHaveParent : ℕ → Option ℕ → Type 0
MayHaveParent count parent = ((p : ℕ) → parent ≡ Some p → p < count) × (parent ≡ None → count ≡ 0)

-- the rows from this one on, if the table has so many
abbrev pub AreRowsFrom : ℕ → ℕ → Rows → Type 0
AreRowsFrom from count rows = (from ≤ count → rows.from ≡ from) × (rows.to ≡ count)
