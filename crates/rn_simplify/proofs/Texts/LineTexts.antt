-- The texts of lines.
use Rattle.std.proofs.Common.{◌≡◌, ℕ, ◌+◌, ◌<◌, Bool, true, List, [], ◌∷◌, ◌++◌, length, map, take, get_or, refl, sym, ap, ◌∙◌, append_assoc, append-nil}
use Rattle.std.specs.Prelude.{codes, String, string_bytes}
use Rattle.std.specs.Str.{chars, encode_utf8_all}
use Rattle.std.specs.declared.alloc.Global.{Global}
use Rattle.std.proofs.lemmas.List.{take_more, map-append}
use Rattle.rn_text.specs.Characters.{is_keyword, keywords}
use Rattle.rn_text.specs.Literals.{literal_bytes}
use Rattle.rn_text.specs.Parts.{Piece}
use Rattle.rn_pattern.specs.Tree.{Tree}
use Rattle.rn_text.specs.Texts.{Text}
use Rattle.rn_pattern.specs.Matching.{Grammar}
use Rattle.rn_pattern.specs.View.{pattern_view}
use Rattle.rn_pattern.specs.declared.tree.Pattern.{Pattern}
use Rattle.rn_assemble.specs.Renamed.{IsOfKnownUris, IsRenaming, renamed_grammar}
use Rattle.rn_simplify.specs.declared.writer.Writer.{Writer}
use Rattle.rn_simplify.specs.Spelling.{Prefixes, prefixes, binding, bindings, default_line, definition_line, definition_lines, has_empty_ns_name, identifier, infix_of, keyword, library_prefix, line_end, literal, namespace_entries, namespace_prefix, space, spelling_pieces, word, written_tree, bound_to, defined_as, empty_entries, entries, own_entries}
use Rattle.rn_simplify.specs.inside.Writes.{declaration_lines, none, Writes, WritesBytes}
use Rattle.rn_simplify.specs.NormalView.{definitions_view}
use Rattle.rn_simplify.proofs.Renaming.RenamedEntries.{renamed_entries}
use Rattle.rn_simplify.proofs.Renaming.RenamedLines.{empty_entry_renamed, spelling_renamed}
use Rattle.rn_simplify.proofs.Texts.Writing.{writes_then, writes_pieces, writes_as}
use Rattle.rn_simplify.proofs.Texts.PartTexts.{writes_spelled}
use Rattle.rn_simplify.proofs.Texts.PatternTexts.{equals_written, writes_literal}

end_written : {a b : Writer} → WritesBytes (10 ∷ []) none a b → Writes (line_end ∷ []) a b
unfolding lib.Utf8.encode chars
end_written h = writes_pieces (line_end ∷ []) refl (λ n. refl) h

pub writes_bound : (u : Text) {a b c d : Writer} → WritesBytes (codes " = ") none a b → WritesBytes (literal_bytes u) none b c → WritesBytes (10 ∷ []) none c d → Writes (bound_to u) a d
writes_bound u h j k = writes_then (infix_of (codes "=")) (literal u ++ line_end ∷ []) (equals_written h) (writes_then (literal u) (line_end ∷ []) (writes_literal u j) (end_written k))

pub writes_defined : (f : Prefixes) (p : Tree) {a b c d : Writer} → WritesBytes (codes " = ") none a b → Writes (written_tree f p).pieces b c → WritesBytes (10 ∷ []) none c d → Writes (defined_as f p) a d
writes_defined f p h j k = writes_then (infix_of (codes "=")) ((written_tree f p).pieces ++ line_end ∷ []) (equals_written h) (writes_then (written_tree f p).pieces (line_end ∷ []) j (end_written k))

-- ---- declarations

namespace_written : {a b : Writer} → WritesBytes (codes "namespace ") none a b → Writes (keyword (codes "namespace") ∷ space ∷ []) a b
unfolding lib.Utf8.encode chars
namespace_written h = writes_pieces _ refl (λ n. refl) h

datatypes_written : {a b : Writer} → WritesBytes (codes "datatypes ") none a b → Writes (keyword (codes "datatypes") ∷ space ∷ []) a b
unfolding lib.Utf8.encode chars
datatypes_written h = writes_pieces _ refl (λ n. refl) h

pub writes_namespace : (p : List ℕ) (u : Text) {a b c d : Writer} → WritesBytes (codes "namespace ") none a b → WritesBytes (encode_utf8_all p) none b c → Writes (bound_to u) c d → Writes (binding (codes "namespace") p u) a d
writes_namespace p u h j k = writes_then (keyword (codes "namespace") ∷ space ∷ []) (word p ∷ bound_to u) (namespace_written h) (writes_then (word p ∷ []) (bound_to u) (writes_spelled p j) k)

pub writes_datatypes : (p : List ℕ) (u : Text) {a b c d : Writer} → WritesBytes (codes "datatypes ") none a b → WritesBytes (encode_utf8_all p) none b c → Writes (bound_to u) c d → Writes (binding (codes "datatypes") p u) a d
writes_datatypes p u h j k = writes_then (keyword (codes "datatypes") ∷ space ∷ []) (word p ∷ bound_to u) (datatypes_written h) (writes_then (word p ∷ []) (bound_to u) (writes_spelled p j) k)

bindings_more : (w : List ℕ) (es : List (List ℕ × Text)) (e : List ℕ × Text) → bindings w (es ++ e ∷ []) ≡ bindings w es ++ binding w e.0 e.1
bindings_more w [] e = append-nil (binding w e.0 e.1)
bindings_more w (d ∷ es) e = ap (λ ps. binding w d.0 d.1 ++ ps) (bindings_more w es e) ∙ sym (append_assoc (binding w d.0 d.1) (bindings w es) (binding w e.0 e.1))

pub writes_one_binding : (w : List ℕ) (named : Text → Text) (prefix : Text → List ℕ) (us : List Text) (u : Text) {a b c : Writer} → Writes (bindings w (entries named prefix us)) a b → Writes (binding w (prefix u) (named u)) b c
    → Writes (bindings w (entries named prefix (us ++ u ∷ []))) a c
writes_one_binding w named prefix us u h k =
    let more : entries named prefix (us ++ u ∷ []) ≡ entries named prefix us ++ (prefix u, named u) ∷ [] = map-append {A = Text} {B = List ℕ × Text} (λ (v : Text). (prefix v, named v)) us (u ∷ []) in
    writes_as (sym (ap (bindings w) more ∙ bindings_more w (entries named prefix us) (prefix u, named u))) (writes_then (bindings w (entries named prefix us)) (binding w (prefix u) (named u)) h k)

-- the texts of the keys up to a place
pub texts_more : (ks : List (String Global)) (i : ℕ) (k : String Global) → i < length ks → k ≡ get_or ks i k → map (λ u. string_bytes u) (take (i + 1) ks) ≡ map (λ u. string_bytes u) (take i ks) ++ string_bytes k ∷ []
texts_more ks i k h e =
    ap (map (λ (u : String Global). string_bytes u)) (take_more ks i k h ∙ ap (λ l. take i ks ++ l ∷ []) (sym e)) ∙ map-append (λ (u : String Global). string_bytes u) (take i ks) (k ∷ [])

pub default_written : {a b : Writer} → WritesBytes (codes "default namespace = \"\"" ++ 10 ∷ []) none a b → Writes default_line a b
unfolding lib.Utf8.encode chars
default_written h = writes_pieces default_line refl (λ n. refl) h

pub empty_written : {a b : Writer} → WritesBytes (codes "namespace n0 = \"\"" ++ 10 ∷ []) none a b → Writes (bindings (codes "namespace") ((codes "n0", []) ∷ [])) a b
unfolding lib.Utf8.encode chars is_keyword keywords
empty_written h = writes_pieces (bindings (codes "namespace") ((codes "n0", []) ∷ [])) refl (λ n. refl) h

-- ---- the start and the definitions

pub writes_start : (f : Prefixes) (p : Tree) {a b c : Writer} → WritesBytes (codes "start") none a b → Writes (defined_as f p) b c → Writes (definition_line f (keyword (codes "start")) p) a c
unfolding lib.Utf8.encode chars
writes_start f p h k = writes_then (keyword (codes "start") ∷ []) (defined_as f p) (writes_pieces (keyword (codes "start") ∷ []) refl (λ n. refl) h) k

definitions_more : (f : Prefixes) (ds : List (Text × Tree)) (d : Text × Tree) → definition_lines f (ds ++ d ∷ []) ≡ definition_lines f ds ++ definition_line f (identifier (chars d.0)) d.1
definitions_more f [] d = append-nil (definition_line f (identifier (chars d.0)) d.1)
definitions_more f (e ∷ ds) d =
    let line : Text × Tree → List Piece = λ x. definition_line f (identifier (chars x.0)) x.1 in
    ap (λ ps. line e ++ ps) (definitions_more f ds d) ∙ sym (append_assoc (line e) (definition_lines f ds) (line d))

pub writes_one_definition : (f : Prefixes) (ds : List (Text × Tree)) (d : Text × Tree) {a b c : Writer} → Writes (definition_lines f ds) a b → Writes (definition_line f (identifier (chars d.0)) d.1) b c → Writes (definition_lines f (ds ++ d ∷ [])) a c
writes_one_definition f ds d h k = writes_as (sym (definitions_more f ds d)) (writes_then (definition_lines f ds) (definition_line f (identifier (chars d.0)) d.1) h k)

pub definitions_up_to : (ds : List (String Global × Pattern)) (i : ℕ) (d : String Global × Pattern) → i < length ds → d ≡ get_or ds i d → definitions_view (take (i + 1) ds) ≡ definitions_view (take i ds) ++ (string_bytes d.0, pattern_view d.1) ∷ []
definitions_up_to ds i d h e =
    ap definitions_view (take_more ds i d h ∙ ap (λ c. take i ds ++ c ∷ []) (sym e)) ∙ map-append {A = String Global × Pattern} {B = Text × Tree} (λ (c : String Global × Pattern). (string_bytes c.0, pattern_view c.1)) (take i ds) (d ∷ [])

-- ---- the whole text

bindings-append : (w : List ℕ) (es fs : List (List ℕ × Text)) → bindings w (es ++ fs) ≡ bindings w es ++ bindings w fs
bindings-append w [] fs = refl
bindings-append w (e ∷ es) fs = ap (λ ps. binding w e.0 e.1 ++ ps) (bindings-append w es fs) ∙ sym (append_assoc (binding w e.0 e.1) (bindings w es) (bindings w fs))

regrouped : (d e n l s : List Piece) → (d ++ (e ++ (n ++ l))) ++ s ≡ d ++ ((e ++ n) ++ (l ++ s))
regrouped d e n l s = simp append_assoc

-- what prefixes are bound to in the declarations
entries_named : (named : Text → Text) (prefix : Text → List ℕ) (us : List Text) → renamed_entries named (own_entries prefix us) ≡ entries named prefix us
entries_named named prefix [] = refl
entries_named named prefix (u ∷ us) = ap (λ es. (prefix u, named u) ∷ es) (entries_named named prefix us)

namespaces_named : (named : Text → Text) → named [] ≡ [] → (g : Grammar) → renamed_entries named (namespace_entries g) ≡ empty_entries (has_empty_ns_name g) ++ entries named (namespace_prefix (prefixes g)) (prefixes g).namespaces
namespaces_named named e g =
    let f = prefixes g in
    map-append (λ (d : List ℕ × Text). (d.0, named d.1)) (empty_entries (has_empty_ns_name g)) (map (λ (u : Text). (namespace_prefix f u, u)) f.namespaces)
    ∙ (λ i. empty_entry_renamed named e (has_empty_ns_name g) i ++ entries_named named (namespace_prefix f) f.namespaces i)

lines_are : {named : Text → Text} {known : Text → Bool} (r : IsRenaming named (λ u. known u ≡ true)) (g : Grammar) → IsOfKnownUris (λ u. known u ≡ true) g
    → declaration_lines named (prefixes g) (has_empty_ns_name g) ++ (definition_line (prefixes g) (keyword (codes "start")) g.start ++ definition_lines (prefixes g) g.definitions) ≡ spelling_pieces (renamed_grammar named g)
lines_are {named} r g k =
    let f = prefixes g in
    let none = empty_entries (has_empty_ns_name g) in
    let namespaces = entries named (namespace_prefix f) f.namespaces in
    let libraries = entries named (library_prefix f) f.libraries in
    let rest = definition_line f (keyword (codes "start")) g.start ++ definition_lines f g.definitions in
    regrouped default_line (bindings (codes "namespace") none) (bindings (codes "namespace") namespaces) (bindings (codes "datatypes") libraries) rest
    ∙ ap (λ ps. default_line ++ (ps ++ (bindings (codes "datatypes") libraries ++ rest))) (sym (bindings-append (codes "namespace") none namespaces))
    ∙ sym (λ i. default_line ++ (bindings (codes "namespace") (namespaces_named named r.none g i) ++ (bindings (codes "datatypes") (entries_named named (library_prefix f) f.libraries i) ++ rest)))
    ∙ sym (spelling_renamed r g k)

pub writes_lines : {named : Text → Text} {known : Text → Bool} (r : IsRenaming named (λ u. known u ≡ true)) (g : Grammar) → IsOfKnownUris (λ u. known u ≡ true) g
    → (f : Prefixes) (has_empty : Bool) {a b c d : Writer} → f ≡ prefixes g → has_empty ≡ has_empty_ns_name g → Writes (declaration_lines named f has_empty) a b → Writes (definition_line f (keyword (codes "start")) g.start) b c
    → Writes (definition_lines f g.definitions) c d → Writes (spelling_pieces (renamed_grammar named g)) a d
writes_lines {named} r g known f has_empty {a} {b} {c} {d} e w h j k =
    let start = definition_line f (keyword (codes "start")) g.start in
    let lines = definition_lines f g.definitions in
    let same : declaration_lines named f has_empty ++ (start ++ lines) ≡ spelling_pieces (renamed_grammar named g) =
    (λ i. declaration_lines named (e i) (w i) ++ (definition_line (e i) (keyword (codes "start")) g.start ++ definition_lines (e i) g.definitions)) ∙ lines_are r g known in
    writes_as same (writes_then (declaration_lines named f has_empty) (start ++ lines) h (writes_then start lines j k))
