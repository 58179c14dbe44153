-- Where URIs lie: where maps lead, or at the paths of `file` URIs.
use Rattle.std.specs.Prelude.{◌≡◌, ℕ, ◌<◌, ◌≤◌, ◌-◌, ◌==◌, ◌||◌, nat_eq, Bool, true, false, List, [], ◌∷◌, ◌++◌, length, take, drop, slice_index, codes, All, IfSome, MatchBool, Option, Some, None, Vec, string_bytes, if◌then◌else◌}
use Rattle.std.specs.List.{ends_with, starts_with}
use Rattle.std.specs.Option.{option_map_or}
use Rattle.std.specs.Str.{bytes_eq, str_eq_ignore_ascii_case}
use Rattle.std.specs.declared.alloc.Global.{Global}
use Rattle.percent_encoding.specs.Percent.{percent_decode}
use Rattle.rn_files.specs.Paths.{has_dots}
use Rattle.rn_files.specs.Uris.{parts_of}
use Rattle.rn_files.specs.declared.mapping.maps.Map.{Map}
use Rattle.rn_files.specs.declared.mapping.maps.MapTarget.{MapTarget}
use Rattle.rn_files.specs.declared.mapping.maps.MapTarget.TheVariants.{Files, Elsewhere, Delegated}
use Rattle.rn_files.specs.declared.mapping.maps.UriPart.{UriPart}
use Rattle.rn_files.specs.declared.mapping.maps.UriPart.TheVariants.{Front, Whole, End}

-- the rest behind a prefix begins where a segment ends: nothing is left, or a slash comes next, or came last
abbrev pub is_whole : List ℕ → List ℕ → Bool
is_whole prefix rest = length rest == 0 || slice_index rest 0 == 47 || ends_with nat_eq prefix (codes "/")

-- what comes behind the prefix of a URI
abbrev pub behind : List ℕ → List ℕ → Option (List ℕ)
behind uri prefix = if starts_with nat_eq uri prefix then Some (drop (length prefix) uri) else None

-- the rest behind a prefix, if it begins where a segment ends
abbrev pub if_whole : List ℕ → Option (List ℕ) → Option (List ℕ)
if_whole prefix None = None
if_whole prefix (Some rest) = if is_whole prefix rest then Some rest else None

-- what comes behind the prefix of a path, by whole segments
abbrev pub behind_prefix : List ℕ → List ℕ → Option (List ℕ)
behind_prefix uri prefix = if_whole prefix (behind uri prefix)

-- what comes before the end of a URI
abbrev pub ahead : List ℕ → List ℕ → Option (List ℕ)
ahead uri end = if ends_with nat_eq uri end then Some (take (length uri - length end) uri) else None

-- what is left where the URI is this text: nothing
abbrev pub rest_of_whole : List ℕ → List ℕ → Option (List ℕ)
rest_of_whole uri text = if bytes_eq uri text then Some [] else None

-- what is left of the URI where it has this text as its front (XML Catalogs 1.1, 6.5.10 and 6.5.5), is this text (6.5.9, 6.5.4), or has it
-- as its end (6.5.11, 6.5.6)
abbrev pub left_of : List ℕ → UriPart → List ℕ → Option (List ℕ)
left_of uri Front text = behind uri text
left_of uri Whole text = rest_of_whole uri text
left_of uri End text = ahead uri text

-- what the map leaves of the URI
abbrev pub left_by : List ℕ → Map → Option (List ℕ)
left_by uri m = left_of uri m.part (string_bytes m.text)

-- the map is the one that has most of the URI, the first one among equals, and leaves this rest: the maps before it leave more, and
-- those after it no less
abbrev pub IsLongest : List Map → List ℕ → Map → List ℕ → Type 0
IsLongest maps uri m rest = (before after : List Map) × (maps ≡ before ++ (m ∷ after)) × (left_by uri m ≡ Some rest)
    × All (λ n. IfSome (left_by uri n) (λ more. length rest < length more)) before
    × All (λ n. IfSome (left_by uri n) (λ more. length rest ≤ length more)) after

-- no map of the group has its part in the URI
abbrev pub HasNoMap : List Map → List ℕ → Type 0
HasNoMap maps uri = All (λ m. left_by uri m ≡ None) maps

-- groups of maps, of which each counts where those before it have none: the maps of words, and then of each catalog in turn the entries
-- `uri`, `rewriteURI`, `uriSuffix` and `delegateURI` (XML Catalogs 1.1, 7.2.2, steps 3 to 7)
abbrev pub Groups : Type 0
Groups = List (Vec Map Global)

-- no group has a map for the URI
abbrev pub HasNoMapIn : Groups → List ℕ → Type 0
HasNoMapIn groups uri = All (λ g. HasNoMap g.items uri) groups

-- the map finds the URI and leaves this rest of it: it is the longest of the first group that has one
abbrev pub IsFound : Groups → List ℕ → Map → List ℕ → Type 0
IsFound groups uri m rest = (before : Groups) × (group : Vec Map Global) × (after : Groups) × (groups ≡ before ++ (group ∷ after))
    × HasNoMapIn before uri × IsLongest group.items uri m rest

-- the path below a folder: one slash stands between
abbrev pub below : List ℕ → List ℕ → List ℕ
below folder tail = folder ++ (if is_whole folder tail then [] else codes "/") ++ tail

-- what a map keeps of a URI, of which this is left: what comes behind a front
abbrev pub kept : UriPart → List ℕ → List ℕ
kept Front rest = rest
kept Whole rest = []
kept End rest = []

-- the path of the file to which a map leads that keeps this of a URI: below the folder the stem, and behind it what is kept, with its
-- escapes decoded. No segment of these is `.` or `..`
abbrev pub IsPlaced : MapTarget → List ℕ → List ℕ → Type 0
IsPlaced (Files place) rest path =
    (path ≡ below (string_bytes place.folder) (string_bytes place.stem ++ percent_decode rest))
    × (has_dots (string_bytes place.stem ++ percent_decode rest) ≡ false)
IsPlaced (Elsewhere uri) rest path = ⊥
IsPlaced (Delegated catalog) rest path = ⊥

-- the folder below which all lies to which a map leads
abbrev pub IsFolderOf : MapTarget → List ℕ → Type 0
IsFolderOf (Files place) folder = folder ≡ string_bytes place.folder
IsFolderOf (Elsewhere uri) folder = ⊥
IsFolderOf (Delegated catalog) folder = ⊥

-- the folder is that of the map that finds the URI, which a word or an entry of a catalog names
abbrev pub IsFoundFolder : Groups → List ℕ → List ℕ → Type 0
IsFoundFolder groups uri folder = (m : Map) × (rest : List ℕ) × IsFound groups uri m rest × IsFolderOf m.target folder

-- the scheme of a URI is `file`, in upper or lower case
abbrev pub is_file_scheme : Option (List ℕ) → Bool
is_file_scheme scheme = option_map_or (λ s. str_eq_ignore_ascii_case s (codes "file")) scheme false

-- the authority of a URI names no host
abbrev pub has_no_host : Option (List ℕ) → Bool
has_no_host authority = option_map_or (λ a. length a == 0) authority true

-- the path of a `file` URI that names no host (RFC 8089), with its escapes decoded; then no segment of it is `.` or `..`
pub record IsFilePath (uri path : List ℕ) : Type 0 where
  pub scheme : is_file_scheme (parts_of uri).scheme ≡ true
  pub host : has_no_host (parts_of uri).authority ≡ true
  pub rooted : slice_index (parts_of uri).path 0 ≡ 47
  pub path_is : path ≡ percent_decode (parts_of uri).path
  pub plain : has_dots path ≡ false

-- the path that the URI stands for, and whether a map says so: then it is below the map's folder, since no segment behind that is
-- `.` or `..`
abbrev pub IsLocation : Groups → List ℕ → List ℕ → Bool → Type 0
IsLocation groups uri path is_mapped = MatchBool is_mapped
    ((m : Map) × (rest : List ℕ) × IsFound groups uri m rest × IsPlaced m.target (kept m.part rest) path)
    (HasNoMapIn groups uri × IsFilePath uri path)
