-- Parts of a document's tables.
use Rattle.std.specs.Prelude.{◌-◌, ◌&&◌, nat_le, if◌then◌else◌, List, [], length, take, drop}
use Rattle.rn_xml.specs.declared.document.Rows.{Rows}

-- the rows of the table in this range; none, where it doesn't lie within the table
abbrev pub rows_of : {A : Type 0} → Rows → List A → List A
rows_of rows table = if nat_le rows.from rows.to && nat_le rows.to (length table) then take (rows.to - rows.from) (drop rows.from table) else []
