-- Messages: where they are told, and their lines.
use Rattle.std.specs.Prelude.{◌≡◌, ℕ, ◌≤◌, List, [], ◌∷◌, ◌++◌, Option, Some, None, codes, decimal, nat_lt, slice_get, string_bytes, vec_len, if◌then◌else◌}
use Rattle.std.specs.Borrow.{Bor}
use Rattle.rn_files.specs.TextLines.{IsPosition}
use Rattle.rn_files.specs.declared.sources.XmlSource.{XmlSource}
use Rattle.rn_translate.specs.Origins.{origin_of}
use Rattle.rn_translate.specs.declared.translated.Origins.{Origins}
use Rattle.rn_report.specs.Limits.{max_told}
use Rattle.rn_report.specs.PrintedCharacters.{head, printed}
use Rattle.rn_report.specs.declared.report.Colours.{Colours}
use Rattle.rn_report.specs.declared.report.Grade.TheVariants.{Error, Note}
use Rattle.rn_report.specs.declared.report.Message.{Message}
use Rattle.rn_report.specs.declared.report.Page.{Page}
use Rattle.rn_report.specs.declared.report.Spot.{Spot}
use Rattle.rn_report.specs.declared.report.Messages.{Messages}

-- FILE:LINE:COLUMN of a byte of a text in the file with this path
abbrev pub IsPlaceIn : (path text : List ℕ) → ℕ → List ℕ → Type 0
IsPlaceIn path text at place = (line column : ℕ) × IsPosition text at line column
    × (place ≡ path ++ (codes ":" ++ (decimal line ++ (codes ":" ++ decimal column))))

-- what is written where a text was made of it, if it was; else the text
abbrev pub written_for : List ℕ → Option (Bor XmlSource) → List ℕ
written_for text None = text
written_for text (Some w) = string_bytes w.now.text

-- the byte of a document for which a byte of the text stands; where there is no text, it is a byte of the document
abbrev pub byte_in : ℕ → Option Origins → ℕ
byte_in at None = at
byte_in at (Some places) = origin_of places.items.items at

-- the byte of what is written for which a byte of the text stands
abbrev pub byte_for : ℕ → Option (Bor XmlSource) → ℕ
byte_for at None = at
byte_for at (Some w) = byte_in at w.now.origins

-- what is written in a file
abbrev pub written_text : Page → List ℕ
written_text page = written_for page.text.now page.written

-- the byte of it for which a byte of the text stands
abbrev pub written_byte : Page → ℕ → ℕ
written_byte page at = byte_for at page.written

-- the place of a byte of a file, if there is one; else the name of the program
abbrev pub IsPlaceAt : Option Page → ℕ → List ℕ → Type 0
IsPlaceAt (Some page) at place = IsPlaceIn page.path.now (written_text page) (written_byte page at) place
IsPlaceAt None at place = place ≡ codes "rnc-flat"

-- the place of a message among these files
abbrev pub IsMessagePlace : List Page → Option Spot → List ℕ → Type 0
IsMessagePlace pages (Some spot) place = IsPlaceAt (slice_get pages spot.file) spot.at place
IsMessagePlace pages None place = place ≡ codes "rnc-flat"

-- the lines of a message: its place, the sentence, and then more of the file
abbrev pub IsMessageText : List Page → Colours → Message → List ℕ → Type 0
IsMessageText pages colours message lines = (place rest : List ℕ) × IsMessagePlace pages message.spot place
    × (lines ≡ head colours place Error ++ (printed (string_bytes message.sentence) ++ (10 ∷ rest)))

-- the lines of the messages, in their order
abbrev pub AreMessageTexts : List Page → Colours → List Message → List ℕ → Type 0
AreMessageTexts pages colours [] lines = lines ≡ []
AreMessageTexts pages colours (m ∷ ms) lines = (first others : List ℕ) × IsMessageText pages colours m first
    × AreMessageTexts pages colours ms others × (lines ≡ first ++ others)

-- the line that says how many faults are not told; nothing where all are told
abbrev pub note : Colours → ℕ → List ℕ
note colours count = if nat_lt 0 count then head colours (codes "rnc-flat") Note ++ (codes "there are more faults, which are not told: " ++ (decimal count ++ (10 ∷ []))) else []

-- all lines: those of the messages, and the note
abbrev pub AreLines : List Page → Colours → Messages → List ℕ → Type 0
AreLines pages colours told lines = (messages : List ℕ) × AreMessageTexts pages colours told.messages.items messages
    × (lines ≡ messages ++ note colours told.further)

-- no more messages are told than may be
abbrev pub IsFew : Messages → Type 0
IsFew told = vec_len told.messages ≤ max_told
