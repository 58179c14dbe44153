-- What is appended to a text up to a limit, and the brackets that are open at its end.
use Rattle.std.specs.Prelude.{◌≡◌, ℕ, ◌+◌, ◌-◌, ◌<◌, ◌≤◌, Bool, true, false, cond, ◌||◌, List, [], ◌∷◌, ◌++◌, length, codes, Option, Some, None, option_and_then, nat_lt, bytes_eq, map, string_bytes}
use Rattle.std.specs.Rc.{rc_str_bytes}
use Rattle.std.specs.Str.{chars, encode_utf8_all}
use Rattle.rn_text.specs.declared.parts.Part.{Part}
use Rattle.rn_text.specs.declared.parts.Part.TheVariants.{Token}
use Rattle.rn_text.specs.declared.parts.Kind.TheVariants.{Symbol}
use Rattle.rn_text.specs.Parts.{Piece, text_of}
use Rattle.rn_text.specs.Texts.{Text}
use Rattle.rn_assemble.specs.declared.refusal.Refusal.{Refusal}
use Rattle.rn_assemble.specs.declared.refusal.Refusal.TheVariants as r
use Rattle.rn_simplify.specs.declared.writer.Writer.{Writer}
use Rattle.rn_simplify.specs.declared.writer.Stop.{Stop}
use Rattle.rn_simplify.specs.declared.writer.Stop.TheVariants.{Memory, TooLarge}
use Rattle.rn_simplify.specs.declared.shapes.Shape.{Shape}
use Rattle.rn_simplify.specs.declared.shapes.Shape.TheVariants.{Closed, Postfixed, Chained}
use Rattle.rn_simplify.specs.declared.declared_prefixes.Prefixes as code
use Rattle.rn_simplify.specs.Spelling as s
use Rattle.rn_simplify.specs.Spelling.{closed, postfixed, chained, NodeText, written_tree, bindings, datum_pieces, default_line, empty_entries, entries, library_prefix, namespace_prefix, value_pieces}
use Rattle.std.specs.declared.rc.Rc.{Rc}
use Rattle.std.specs.declared.alloc.Global.{Global}
use Rattle.rn_pattern.specs.declared.tree.Data.{Data}
use Rattle.rn_pattern.specs.declared.tree.Pattern.{Pattern}
use Rattle.rn_pattern.specs.declared.tree.Value.{Value}
use Rattle.rn_pattern.specs.View.{parameters_view, pattern_view}
pub use Rattle.rn_modset.specs.Limits.{max_text}
use Rattle.rn_syntax.specs.Places.{max_open}

-- the pieces in bytes
abbrev pub bytes_of : List Piece → Text
bytes_of ps = encode_utf8_all (text_of ps)

pub data Bracket : Type 0 where
  opening : Bracket
  closing : Bracket
  none : Bracket

abbrev pub is_opening : List ℕ → Bool
is_opening s = bytes_eq (codes "{") s || (bytes_eq (codes "(") s || bytes_eq (codes "[") s)

abbrev pub is_closing : List ℕ → Bool
is_closing s = bytes_eq (codes "}") s || (bytes_eq (codes ")") s || bytes_eq (codes "]") s)

abbrev pub symbol_bracket : List ℕ → Bracket
symbol_bracket s = cond (is_opening s) opening (cond (is_closing s) closing none)

-- a symbol is told by its bytes
abbrev pub bracket_of : Part → List ℕ → Bracket
bracket_of (Token Symbol) s = symbol_bracket (chars (encode_utf8_all s))
bracket_of p s = none

-- how many brackets are open behind a bracket, or behind none; None: too many are open at once
abbrev pub depth_behind : Bracket → ℕ → Option ℕ
depth_behind opening n = cond (nat_lt n max_open) (Some (n + 1)) None
depth_behind closing n = Some (n - 1)
depth_behind none n = Some n

-- how many brackets are open behind pieces; None: too many were open at once
abbrev pub depth_after : List Piece → ℕ → Option ℕ
depth_after [] n = Some n
depth_after (p ∷ ps) n = option_and_then (depth_after ps) (depth_behind (bracket_of p.part p.spelling) n)

abbrev pub depth_of : Writer → Option ℕ
depth_of w = cond w.too_deep None (Some w.depth)

-- the pieces are appended to what is written
pub record Appends (ps : List Piece) (a b : Writer) : Type 0 where
  pub text : string_bytes b.text ≡ string_bytes a.text ++ bytes_of ps
  pub depth : depth_of b ≡ option_and_then (depth_after ps) (depth_of a)

-- the text has no more bytes than it may have
abbrev pub IsWithin : Writer → Type 0
IsWithin w = length (string_bytes w.text) ≤ max_text

-- the pieces are appended, unless the writer is stopped
pub record Writes (ps : List Piece) (a b : Writer) : Type 0 where
  pub stays : (s : Stop) → a.stopped ≡ Some s → b.stopped ≡ Some s
  pub appends : b.stopped ≡ None → Appends ps a b
  pub within : b.stopped ≡ None → IsWithin a → IsWithin b
  pub too_large : a.stopped ≡ None → b.stopped ≡ Some TooLarge → max_text < length (string_bytes a.text ++ bytes_of ps)

-- the bytes are appended, and a bracket or none is opened or closed, unless the writer is stopped
pub record WritesBytes (bs : Text) (k : Bracket) (a b : Writer) : Type 0 where
  pub stays : (s : Stop) → a.stopped ≡ Some s → b.stopped ≡ Some s
  pub text : b.stopped ≡ None → string_bytes b.text ≡ string_bytes a.text ++ bs
  pub depth : b.stopped ≡ None → depth_of b ≡ option_and_then (depth_behind k) (depth_of a)
  pub within : b.stopped ≡ None → IsWithin a → IsWithin b
  pub too_large : a.stopped ≡ None → b.stopped ≡ Some TooLarge → max_text < length (string_bytes a.text ++ bs)

abbrev pub shape_view : Shape → s.Shape
shape_view Closed = closed
shape_view Postfixed = postfixed
shape_view Chained = chained

-- the texts that have prefixes, in their order
abbrev pub prefixes_view : code.Prefixes → s.Prefixes
prefixes_view f = record { namespaces = map (λ u. string_bytes u) f.namespaces.keys; libraries = map (λ l. string_bytes l) f.libraries.keys }

-- a value and data as they are written
abbrev pub value_text : s.Prefixes → Value → List Piece
value_text f v = value_pieces f (rc_str_bytes v.library) (string_bytes v.type_name) (string_bytes v.text)

abbrev pub data_text : s.Prefixes → Data → List Piece
data_text f d = datum_pieces f (rc_str_bytes d.library) (string_bytes d.type_name) (parameters_view d.params.items)

-- the members of a list as they are written
abbrev pub written_members : s.Prefixes → List (Rc Pattern Global) → List NodeText
written_members f ps = map (λ (p : Rc Pattern Global). written_tree f (pattern_view p.value)) ps

-- there is a first member, and it passes
abbrev pub begins : (NodeText → Bool) → List NodeText → Bool
begins p [] = false
begins p (w ∷ ws) = p w

-- the lines of declarations; named: the URI that a text stands for; has_empty: the empty namespace has a prefix
abbrev pub declaration_lines : (named : Text → Text) → s.Prefixes → (has_empty : Bool) → List Piece
declaration_lines named f has_empty =
    default_line
    ++ (bindings (codes "namespace") (empty_entries has_empty)
    ++ (bindings (codes "namespace") (entries named (namespace_prefix f) f.namespaces)
    ++ bindings (codes "datatypes") (entries named (library_prefix f) f.libraries)))

-- what stops a writer behind an append: there was no memory for it, or the text has become too large; else what stopped it before
abbrev pub stop_behind : (appended : Bool) → Writer → Option Stop
stop_behind appended w = cond appended (cond (nat_lt max_text (length (string_bytes w.text))) (Some TooLarge) w.stopped) (Some Memory)

-- why the writer has no text
abbrev pub IsHindrance : Writer → Refusal → Type 0
IsHindrance w r.Memory = w.stopped ≡ Some Memory
IsHindrance w r.OutputTooLarge = w.stopped ≡ Some TooLarge
IsHindrance w r.OutputTooDeep = (w.stopped ≡ None) × (w.too_deep ≡ true)
IsHindrance w e = ⊥
