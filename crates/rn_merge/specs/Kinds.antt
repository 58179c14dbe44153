-- The kind of fault that a place names, among those that refuse a module.
use Rattle.std.specs.Prelude.{ℕ, Option, Some, None}
use Rattle.rn_syntax.specs.declared.fault.FaultKind.{FaultKind}
use Rattle.rn_merge.specs.declared.text_faults.Place.{Place}
use Rattle.rn_merge.specs.TextFaults.{kind_and_place}

abbrev pub kind_alone : Option (FaultKind × ℕ) → Option FaultKind
kind_alone (Some k) = Some k.0
kind_alone None = None

-- want of memory is none of the text's
abbrev pub kind_of : Place → Option FaultKind
kind_of place = kind_alone (kind_and_place place)
