-- Readers of a document's elements, by how much of the text they leave.
use Rattle.std.specs.Prelude.{ℕ, ◌<◌, ◌≤◌, length, vec_len, Result, MatchResult}
use Rattle.std.specs.Borrow.{Bor}
use Rattle.rn_text.specs.Texts.{Text}
use Rattle.rn_xml.specs.declared.stop.Stop.{Stop}
use Rattle.rn_xml.specs.declared.tags.TagReader.{TagReader}

-- this may be the end of the reader's text
abbrev pub HasRoomFor : TagReader → Text → Type 0
HasRoomFor r rest = length rest ≤ r.len

-- a place of the reader's text
abbrev pub StopsIn : TagReader → Stop → Type 0
StopsIn r stop = stop.left ≤ r.len

-- a reader of this text went on and left a rest of it, or stopped at a place of the whole text
abbrev pub ReadsOn : TagReader → Text → Result (Bor Text) Stop → Type 0
ReadsOn r text result = MatchResult result (λ rest. length rest.now < length text) (StopsIn r)

-- the same, where nothing need be read
abbrev pub MayReadOn : TagReader → Text → Result (Bor Text) Stop → Type 0
MayReadOn r text result = MatchResult result (λ rest. length rest.now ≤ length text) (StopsIn r)

-- how many elements were read, and how many names of namespaces
abbrev pub element_count : TagReader → ℕ
element_count r = vec_len r.tables.document.elements

abbrev pub uri_count : TagReader → ℕ
uri_count r = vec_len r.tables.document.uris
