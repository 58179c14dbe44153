-- URIs that are gathered in a set, one after the other.
use Rattle.std.specs.Prelude.{◌≡◌, List, ◌++◌}
use Rattle.std.specs.BTreeSet.{BTreeSet}
use Rattle.std.specs.Borrow.{Bor}
use Rattle.rn_text.specs.Texts.{Text, text_cmp}
use Rattle.rn_pattern.specs.Canonical.{sorted_once}
use Rattle.rn_assemble.specs.inside.Views.{texts_of}

-- the set has these URIs, each once
abbrev pub AreGathered : List Text → BTreeSet (Bor Text) → Type 0
AreGathered zs s = texts_of s.keys ≡ sorted_once text_cmp zs

-- the new set has these URIs in addition to those of the old one
abbrev pub GathersUris : List Text → BTreeSet (Bor Text) → BTreeSet (Bor Text) → Type 0
GathersUris us a b = (zs : List Text) → AreGathered zs a → AreGathered (zs ++ us) b
