-- Which files may be read where a root folder is given: those in that folder, those that a map finds in its own folder, and standard
-- input. Where a file lies says its real path, and that is the one of what was opened, whatever lies at its path before and after.
use Rattle.std.specs.Prelude.{◌≡◌, ◌⊎◌, ℕ, Bool, true, List, [], ◌++◌, nat_eq, codes, is_some, take, All, Option, Some, None, OnSome, string_bytes, ⊤, if◌then◌else◌}
use Rattle.std.specs.List.{ends_with}
use Rattle.std.specs.Option.{option_copied}
use Rattle.rn_files.specs.Maps.{Groups, IsFoundFolder, behind_prefix}
use Rattle.rn_files.specs.declared.walking.source_reading.ReadingFault.{ReadingFault}
use Rattle.rn_files.specs.declared.walking.source_reading.ReadingFault.TheVariants.{Faults, Memory}
use Rattle.rn_files.specs.declared.sources.Asked.{Asked}
use Rattle.rn_files.specs.declared.sources.SourceFile.{SourceFile}
use Rattle.rn_files.specs.declared.sources.XmlSource.{XmlSource}
use Rattle.rn_xml.specs.Encodings.{may_be_xml, IsDecoded}

-- where the words of the command and the folders of maps lead: from a path to a real path
abbrev pub Leads : Type 1
Leads = List ℕ → List ℕ → Type 0

-- what may be opened: at a path, a file with a real path and with bytes
abbrev pub Gives : Type 1
Gives = List ℕ → List ℕ → List ℕ → Type 0

-- a file at the path, wherever that leads, has these bytes
abbrev pub IsGiven : Gives → List ℕ → List ℕ → Type 0
IsGiven gives path bytes = (real : List ℕ) × gives path real bytes

-- what was read for a URI at a path: bytes
abbrev pub Reads : Type 1
Reads = List ℕ → List ℕ → List ℕ → Type 0

-- the path is the folder's, or goes on behind that by whole segments
abbrev pub lies_in : List ℕ → List ℕ → Bool
lies_in folder path = is_some (behind_prefix path folder)

-- the path of a folder, with a slash at its end
abbrev pub with_slash : List ℕ → List ℕ
with_slash folder = if ends_with nat_eq folder (codes "/") then folder else folder ++ codes "/"

-- the file lies in the folder of the map that finds the URI, which a word or an entry of a catalog names
abbrev pub LiesInMap : Leads → Groups → List ℕ → List ℕ → Type 0
LiesInMap leads maps uri real = (named folder : List ℕ) × IsFoundFolder maps uri named × leads named folder × (lies_in folder real ≡ true)

-- what was opened at a path, where a URI led, and has this real path, may be read. The root folder is a real path with a slash at its
-- end; without one each file may be read
abbrev pub MayBeRead : Leads → Option (List ℕ) → Groups → List ℕ → List ℕ → List ℕ → Type 0
MayBeRead leads None maps uri path real = ⊤
MayBeRead leads (Some root) maps uri path real = (path ≡ codes "-") ⊎ ((lies_in root real ≡ true) ⊎ LiesInMap leads maps uri real)

-- these bytes were read: what was opened at the path has them, and may be read
abbrev pub IsReadAt : Leads → Gives → Option (List ℕ) → Groups → Reads
IsReadAt leads gives root maps uri path bytes = (real : List ℕ) × gives path real bytes × MayBeRead leads root maps uri path real

-- these bytes were read, where a root folder may be asked for by a path
abbrev pub IsReadWithin : Leads → Gives → Option (List ℕ) → Groups → Reads
IsReadWithin leads gives None maps uri path bytes = IsReadAt leads gives None maps uri path bytes
IsReadWithin leads gives (Some named) maps uri path bytes =
    (folder : List ℕ) × leads named folder × IsReadAt leads gives (Some (with_slash folder)) maps uri path bytes

-- these bytes were read for what is asked for
abbrev pub IsReadFor : Leads → Gives → Asked → Reads
IsReadFor leads gives asked = IsReadWithin leads gives (option_copied asked.root) asked.maps.now

-- what was read for a URI at a path has this text: its bytes. Of a file in the XML syntax it is made of bytes that begin so, and what is
-- written is the text that they are in the encoding that they declare
abbrev pub IsTextRead : Reads → (uri path text : List ℕ) → Option XmlSource → Type 0
IsTextRead reads uri path text None = reads uri path text
IsTextRead reads uri path text (Some w) = (bytes : List ℕ) × reads uri path bytes × (may_be_xml bytes ≡ true) × IsDecoded bytes (string_bytes w.text)

-- the text of a source is what was read at its path
abbrev pub IsReadSource : Reads → SourceFile → Type 0
IsReadSource reads f = IsTextRead reads (string_bytes f.uri) (string_bytes f.path) (string_bytes f.text) f.written

-- the text is a front of what was read of a file, or nothing
abbrev pub IsFrontOfRead : Reads → List ℕ → Type 0
IsFrontOfRead reads text = (text ≡ []) ⊎ ((uri path bytes : List ℕ) × (n : ℕ) × reads uri path bytes × (text ≡ take n bytes))

-- what is kept of a file: such a text. Of a file in the XML syntax it is made of bytes that were read, and what is written is the text
-- that they are, if something could be made of it
abbrev pub IsKept : Reads → List ℕ → Option XmlSource → Type 0
IsKept reads text None = IsFrontOfRead reads text
IsKept reads text (Some w) = (uri path bytes : List ℕ) × reads uri path bytes × (may_be_xml bytes ≡ true) × OnSome w.origins (IsDecoded bytes (string_bytes w.text))

-- what is kept of files that are refused is such texts
abbrev pub KeepsWhatIsRead : Reads → ReadingFault → Type 0
KeepsWhatIsRead reads (Faults reading) = All (λ a. IsKept reads (string_bytes a.text) a.written) reading.files.items
KeepsWhatIsRead reads Memory = ⊤
