-- Sets of names, and one name more in them.
use Rattle.std.specs.Prelude.{◌≡◌, ℕ, true, if◌then◌else◌, List, bytes_eq, String}
use Rattle.std.specs.BTreeSet.{BTreeSet, contains_text}
use Rattle.std.specs.declared.alloc.Global.{Global}

-- the later set has this name, and else the names of the earlier one
abbrev pub Takes : List ℕ → BTreeSet (String Global) → BTreeSet (String Global) → Type 0
Takes name a b = (q : List ℕ) → contains_text b q ≡ (if bytes_eq name q then true else contains_text a q)
