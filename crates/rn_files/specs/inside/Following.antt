-- What was found and read of files, and which files references lead to.
use Rattle.std.specs.Prelude.{◌≡◌, ℕ, ◌≤◌, Bool, List, take, IfSome, OnSome, MatchOption, Option, Some, None, string_bytes, vec_len}
use Rattle.std.specs.Borrow.{Bor}
use Rattle.rn_files.specs.Maps.{Groups, IsLocation}
use Rattle.rn_files.specs.ReadableFiles.{Gives, IsKept, IsReadAt, IsTextRead, Leads, Reads, with_slash}
use Rattle.rn_xml.specs.Encodings.{IsDecoded}
use Rattle.rn_files.specs.declared.sources.XmlSource.{XmlSource}
use Rattle.rn_files.specs.declared.opening.bounds.Ways.{Ways}
use Rattle.rn_files.specs.declared.opening.root_folder.RootFolder.{RootFolder}
use Rattle.rn_files.specs.declared.walking.walk.Followed.{Followed}
use Rattle.rn_files.specs.declared.walking.walk.Walk.{Walk}

-- a walk found as many files as it had found before, or more
abbrev pub EntriesGrow : Walk → Walk → Type 0
EntriesGrow before after = vec_len before.entries ≤ vec_len after.entries

-- the real path of the root folder, with a slash at its end, if one is given
abbrev pub root_path : Option (Bor RootFolder) → Option (List ℕ)
root_path None = None
root_path (Some root) = Some (string_bytes root.now.real)

-- these bytes were read on these ways
abbrev pub IsReadBy : Leads → Gives → Ways → Reads
IsReadBy leads gives ways = IsReadAt leads gives (root_path ways.root) ways.maps.now

-- the root folder is the one to which the path leads that is asked for
abbrev pub IsRootOf : Leads → List ℕ → RootFolder → Type 0
IsRootOf leads named root = (folder : List ℕ) × leads named folder × (string_bytes root.real ≡ with_slash folder)

-- where a file has no fault, its text is what was read; else it is a front of what was read, or nothing. Of a file in the XML syntax
-- it is made of what was read
abbrev pub IsFollowed : Reads → Followed → Type 0
IsFollowed reads f =
    MatchOption f.outline (IsKept reads (string_bytes f.text) f.written)
    (λ o. IsTextRead reads (string_bytes f.found.uri) (string_bytes f.found.path) (string_bytes f.text) f.written)

-- a URI leads to the file at this path: it lies at a place (below the folder of a map, or at the path of a `file` URI), and what is
-- there is the file, whose one path this is
abbrev pub IsFoundAt : Leads → Groups → List ℕ → List ℕ → Type 0
IsFoundAt leads maps uri path = (place : List ℕ) × (is_mapped : Bool) × IsLocation maps uri place is_mapped × leads place path

-- the text is a front of the bytes
abbrev pub IsFront : List ℕ → List ℕ → Type 0
IsFront bytes text = (n : ℕ) × (text ≡ take n bytes)

-- what is written in a file is the text that the bytes are
abbrev pub IsDecodedIn : List ℕ → Option XmlSource → Type 0
IsDecodedIn bytes written = IfSome written (λ w. IsDecoded bytes (string_bytes w.text))

-- the same, if something could be made of it
abbrev pub IsKeptIn : List ℕ → Option XmlSource → Type 0
IsKeptIn bytes written = IfSome written (λ w. OnSome w.origins (IsDecoded bytes (string_bytes w.text)))
