-- References whose `..` leads above the root, which RFC 3986 lets fall (5.2.4), and what the others stand for.
use Rattle.std.specs.Prelude.{◌≡◌, ◌⊎◌, ℕ, ◌&&◌, Bool, true, false, List, [], ◌∷◌, ◌++◌, None}
use Rattle.std.specs.Str.{bytes_eq}
use Rattle.rn_files.specs.Escapes.{escaped_reference}
use Rattle.rn_files.specs.Maps.{Groups, IsFound}
use Rattle.rn_files.specs.Paths.{Segment, is_up, walked_folder}
use Rattle.rn_files.specs.UriReferences.{fault_of, resolved_uri}
use Rattle.rn_files.specs.Uris as uris
use Rattle.rn_files.specs.Uris.{parts_of}
use Rattle.rn_files.specs.declared.mapping.maps.Map.{Map}
use Rattle.rn_files.specs.inside.FileUris.{file_uri}

-- no segment is there that `..` takes away: the folder is the root, or nothing was entered
abbrev pub is_top : List Segment → Bool
is_top [] = true
is_top (s ∷ []) = bytes_eq s []
is_top (s ∷ t ∷ more) = false

-- the segment is a `..`, and the folder has none that it takes away
abbrev pub finds_none : List Segment → Segment → Bool
finds_none folder s = is_up s && is_top folder

-- a `..` among the segments finds none before it that it takes away
abbrev pub LeadAbove : List Segment → Type 0
LeadAbove ss = (before : List Segment) × (up : Segment) × (after : List Segment) × (ss ≡ before ++ (up ∷ after))
    × (finds_none (walked_folder before) up ≡ true)

-- the segments of the path that a reference in a file with the URI `base` stands for, before the dot segments are removed
abbrev pub target_segments : List ℕ → List ℕ → List Segment
target_segments base reference = uris.dotted_segments (parts_of base) (parts_of (escaped_reference reference))

-- the reference in a file with the URI `base` stands for this URI: it has no fault, and no `..` of it leads above the root
abbrev pub StandsFor : List ℕ → List ℕ → List ℕ → Type 0
StandsFor base reference uri =
    (uri ≡ resolved_uri base reference) × ¬ (LeadAbove (target_segments base reference)) × (fault_of reference ≡ None)

-- a map finds the URI
abbrev pub IsKnown : Groups → List ℕ → Type 0
IsKnown maps uri = (m : Map) × (rest : List ℕ) × IsFound maps uri m rest

-- the reference in a file with the URI `base`, which lies at this path, is looked for by this URI: what it stands for; or the reference
-- itself, as a map finds that; or what it stands for beside the file
abbrev pub IsMeant : Groups → List ℕ → List ℕ → List ℕ → List ℕ → Type 0
IsMeant maps base path reference uri =
    StandsFor base reference uri ⊎ ((IsKnown maps uri × (uri ≡ escaped_reference reference)) ⊎ StandsFor (file_uri path) reference uri)
