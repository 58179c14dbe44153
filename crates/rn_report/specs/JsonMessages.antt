-- Messages as JSON: the tokens of each (RFC 8259), and a line for each.
use Rattle.std.specs.Prelude.{◌≡◌, ℕ, List, [], ◌∷◌, ◌++◌, Option, Some, None, codes, decimal, nat_lt, slice_get, string_bytes, if◌then◌else◌}
use Rattle.json.specs.Print.{print}
use Rattle.json.specs.Token.{Token, begin_object, end_object, begin_array, end_array, key, string, number}
use Rattle.rn_files.specs.TextLines.{IsPosition}
use Rattle.rn_report.specs.Messages.{written_byte, written_text}
use Rattle.rn_report.specs.declared.message_kinds.MessageKind.{MessageKind}
use Rattle.rn_report.specs.declared.message_kinds.MessageKind.TheVariants.{Unreadable, Reference, FileLoop, Encoding, Lexical, Syntax, Prefix, Datatype, Except, Parent, Undefined, Duplicate, Combine, Override, Start, Recursive, NameClass, Limit, Difference, Usage, Unwritable, Internal, Memory}
use Rattle.rn_report.specs.declared.report.Message.{Message}
use Rattle.rn_report.specs.declared.report.Messages.{Messages}
use Rattle.rn_report.specs.declared.report.Page.{Page}
use Rattle.rn_report.specs.declared.report.Spot.{Spot}

-- the word of a kind
abbrev pub kind_word : MessageKind → List ℕ
kind_word Unreadable = codes "unreadable"
kind_word Reference = codes "reference"
kind_word FileLoop = codes "file-loop"
kind_word Encoding = codes "encoding"
kind_word Lexical = codes "lexical"
kind_word Syntax = codes "syntax"
kind_word Prefix = codes "prefix"
kind_word Datatype = codes "datatype"
kind_word Except = codes "except"
kind_word Parent = codes "parent"
kind_word Undefined = codes "undefined"
kind_word Duplicate = codes "duplicate"
kind_word Combine = codes "combine"
kind_word Override = codes "override"
kind_word Start = codes "start"
kind_word Recursive = codes "recursive"
kind_word NameClass = codes "name-class"
kind_word Limit = codes "limit"
kind_word Difference = codes "difference"
kind_word Usage = codes "usage"
kind_word Unwritable = codes "unwritable"
kind_word Internal = codes "internal"
kind_word Memory = codes "memory"

-- a member with a text
abbrev pub text_member : List ℕ → List ℕ → List Token
text_member name text = key name ∷ string text ∷ []

-- a member with a number
abbrev pub number_member : List ℕ → ℕ → List Token
number_member name n = key name ∷ number (decimal n) ∷ []

-- the members of a place: the path of the file, the line and the column of the byte of its text, and a column behind it
abbrev pub IsTextPlace : (path text : List ℕ) → ℕ → List Token → Type 0
IsTextPlace path text at tokens = (line column end : ℕ) × IsPosition text at line column
    × (tokens ≡ text_member (codes "file") path ++ (number_member (codes "line") line
    ++ (number_member (codes "column") column ++ number_member (codes "end") end)))

-- the same of the byte of what is written in a file for which a byte of its text stands
abbrev pub IsPlaceOf : Page → ℕ → List Token → Type 0
IsPlaceOf page at tokens = IsTextPlace page.path.now (written_text page) (written_byte page at) tokens

-- the members of the place of a byte of a file, if there is one; else none
abbrev pub ArePlaceMembers : Option Page → ℕ → List Token → Type 0
ArePlaceMembers (Some page) at tokens = IsPlaceOf page at tokens
ArePlaceMembers None at tokens = tokens ≡ []

-- the members of the place of a message among these files
abbrev pub AreSpotMembers : List Page → Option Spot → List Token → Type 0
AreSpotMembers pages (Some spot) tokens = ArePlaceMembers (slice_get pages spot.file) spot.at tokens
AreSpotMembers pages None tokens = tokens ≡ []

-- the members that every message has
abbrev pub sentence_members : Message → List Token
sentence_members message = text_member (codes "severity") (codes "error")
    ++ (text_member (codes "kind") (kind_word message.kind) ++ text_member (codes "sentence") (string_bytes message.sentence))

-- the array of further places, each an object
abbrev pub ArePlaces : List Token → Type 0
ArePlaces tokens = (places : List Token) × (tokens ≡ key (codes "places") ∷ begin_array ∷ (places ++ (end_array ∷ [])))

-- the object of a message: its place, its sentence, and further places
abbrev pub IsObject : List Page → Message → List Token → Type 0
IsObject pages message tokens = (place others : List Token) × AreSpotMembers pages message.spot place × ArePlaces others
    × (tokens ≡ begin_object ∷ (place ++ (sentence_members message ++ (others ++ (end_object ∷ [])))))

-- the objects of the messages in their order, each in a line
abbrev pub AreObjects : List Page → List Message → List ℕ → Type 0
AreObjects pages [] lines = lines ≡ []
AreObjects pages (m ∷ ms) lines = (object : List Token) × (others : List ℕ) × IsObject pages m object
    × AreObjects pages ms others × (lines ≡ (print object ++ (10 ∷ [])) ++ others)

-- the object that says how many faults are not told
abbrev pub note_members : ℕ → List Token
note_members count = text_member (codes "severity") (codes "note") ++ (text_member (codes "kind") (codes "further") ++ number_member (codes "count") count)

abbrev pub note_tokens : ℕ → List Token
note_tokens count = begin_object ∷ (note_members count ++ (end_object ∷ []))

-- its line; nothing where all are told
abbrev pub note_line : ℕ → List ℕ
note_line count = if nat_lt 0 count then print (note_tokens count) ++ (10 ∷ []) else []

-- all lines: those of the messages, and the note
abbrev pub AreObjectLines : List Page → Messages → List ℕ → Type 0
AreObjectLines pages told lines = (objects : List ℕ) × AreObjects pages told.messages.items objects × (lines ≡ objects ++ note_line told.further)
