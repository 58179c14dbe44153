-- A text has no more declarations of prefixes than bytes.
use Rattle.std.proofs.Common.{◌≡◌, ◌≤◌, ◌<◌, ◌+◌, ℕ, List, [], ◌∷◌, ◌++◌, length, ap, ◌∙◌, arith}
use Rattle.std.specs.Prelude.{codes}
use Rattle.std.proofs.lemmas.List.{length-append, length-map}
use Rattle.std.proofs.lemmas.Str.{length-le-encodes}
use Rattle.rn_text.specs.Parts.{Piece, text_of}
use Rattle.rn_text.proofs.Cutting.SoundPieces.{text_of-append}
use Rattle.rn_text.specs.Texts.{Text}
use Rattle.rn_pattern.specs.Matching.{Grammar}
use Rattle.rn_simplify.specs.Spelling.{keyword, space, word, binding, bindings, default_line, definition_line, definition_lines, prefixes, namespace_entries, library_entries, namespace_prefix, library_prefix, has_empty_ns_name, spelling_pieces, spelling, bound_to, empty_entries, own_entries}

-- how many characters the pieces have
abbrev width : List Piece → ℕ
width ps = length (text_of ps)

width-append : (ps qs : List Piece) → width (ps ++ qs) ≡ width ps + width qs
width-append ps qs = ap length (text_of-append ps qs) ∙ length-append (text_of ps) (text_of qs)

width-cons : (p : Piece) (ps : List Piece) → width (p ∷ ps) ≡ length p.spelling + width ps
width-cons p ps = length-append p.spelling (text_of ps)

-- a line for each entry
lines : (w : List ℕ) → 0 < length w → (es : List (List ℕ × Text)) → length es ≤ width (bindings w es)
lines w some [] = omega arith
lines w some (e ∷ es) =
    let first = binding w e.0 e.1 in
    omega (arith, some, lines w some es, width-append first (bindings w es), width-cons (keyword w) (space ∷ word e.0 ∷ bound_to e.1))

module _ (n : Grammar) where
  abbrev body : List Piece
  body = definition_line (prefixes n) (keyword (codes "start")) n.start ++ definition_lines (prefixes n) n.definitions

  entries : (length (namespace_entries n) ≤ width (spelling_pieces n)) × (length (library_entries n) ≤ width (spelling_pieces n))
  entries =
      let ns = bindings (codes "namespace") (namespace_entries n) in
      let ls = bindings (codes "datatypes") (library_entries n) in
      let whole = width-append default_line (ns ++ (ls ++ body)) in
      let first = width-append ns (ls ++ body) in
      let second = width-append ls body in (
        omega (arith, lines (codes "namespace") (omega arith) (namespace_entries n), whole, first),
        omega (arith, lines (codes "datatypes") (omega arith) (library_entries n), whole, first, second),
      )

  abbrev named : List (List ℕ × Text)
  named = own_entries (namespace_prefix (prefixes n)) (prefixes n).namespaces

  pub few_namespaces : length (prefixes n).namespaces ≤ length (spelling n)
  few_namespaces =
      let all : length (namespace_entries n) ≡ length (empty_entries (has_empty_ns_name n)) + length named = length-append {A = List ℕ × Text} (empty_entries (has_empty_ns_name n)) named in
      let same : length named ≡ length (prefixes n).namespaces = length-map {A = Text} {B = List ℕ × Text} (prefixes n).namespaces (λ u. (namespace_prefix (prefixes n) u, u)) in
      omega (arith, entries.0, length-le-encodes (text_of (spelling_pieces n)), all, same)

  pub few_libraries : length (prefixes n).libraries ≤ length (spelling n)
  few_libraries =
      let same : length (library_entries n) ≡ length (prefixes n).libraries = length-map {A = Text} {B = List ℕ × Text} (prefixes n).libraries (λ l. (library_prefix (prefixes n) l, l)) in
      omega (arith, entries.1, length-le-encodes (text_of (spelling_pieces n)), same)
