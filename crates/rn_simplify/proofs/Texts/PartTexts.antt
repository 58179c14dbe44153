-- The bytes of the parts of a text.
use Rattle.std.proofs.Common.{◌≡◌, ℕ, ◌+◌, ◌<◌, List, [], ◌∷◌, ◌++◌, length, refl, sym, ap, ◌∙◌, append-nil, cond, nat_eq, true, false, Bool, Some}
use Rattle.std.specs.Prelude.{codes, bytes_eq, option_and_then, None, nat_lt, decimal, ◌^◌}
use Rattle.std.specs.Str.{chars, encode_utf8_all, IsUtf8}
use Rattle.std.proofs.lemmas.Str.{encodes-append, encodes-chars}
use Rattle.std.proofs.Math.Dec.{eqb-suc-zero}
use Rattle.rn_text.specs.declared.parts.Part.{Part}
use Rattle.rn_text.specs.declared.parts.Part.TheVariants.{Token}
use Rattle.rn_text.specs.declared.parts.Kind.TheVariants.{Name, Keyword, Quoted, Prefixed, AnyOf}
use Rattle.rn_text.specs.Characters.{is_keyword}
use Rattle.rn_text.specs.Parts.{Piece}
use Rattle.rn_pattern.specs.Tree.{NameTree, any_name, any_name_but, ns_name, ns_name_but, name, name_choice}
use Rattle.rn_text.specs.Texts.{Text}
use Rattle.rn_simplify.specs.declared.writer.Writer.{Writer}
use Rattle.rn_simplify.specs.Spelling.{Prefixes, NodeText, chained, space, symbol, keyword, word, identifier, prefixed_piece, any_of, name_piece, type_piece, namespace_prefix, library_prefix, place, infix_of, in_parentheses, in_braces, operand, primary, operand_in, written_name}
use Rattle.rn_simplify.specs.inside.Writes.{bytes_of, bracket_of, depth_after, depth_behind, opening, closing, none, Writes, WritesBytes}
use Rattle.rn_syntax.specs.Places.{xml_uri, xsd_uri}
use Rattle.rn_simplify.proofs.ReadBack.NumberedPrefixes.{numbered_bytes}
use Rattle.rn_simplify.proofs.Texts.Writing.{writes_then, writes_pieces, writes_as, bytes_then}

-- ---- one part

pub piece_bytes : (k : Part) (s : List ℕ) → bytes_of (record { part = k; spelling = s } ∷ []) ≡ encode_utf8_all s
piece_bytes k s = ap encode_utf8_all (append-nil s)

-- a part that is no bracket, of characters that are these bytes
pub writes_part : (k : Part) (s bs : List ℕ) {a b : Writer} → bracket_of k s ≡ none → encode_utf8_all s ≡ bs → WritesBytes bs none a b → Writes (record { part = k; spelling = s } ∷ []) a b
writes_part k s bs f e h = writes_pieces _ (piece_bytes k s ∙ e) (λ n. ap (λ r. option_and_then (depth_after []) (depth_behind r n)) f) h

word_kind : (b : Bool) (s : List ℕ) → bracket_of (Token (cond b Keyword Name)) s ≡ none
word_kind true s = refl
word_kind false s = refl

identifier_kind : (b : Bool) (s : List ℕ) → bracket_of (Token (cond b Quoted Name)) s ≡ none
identifier_kind true s = refl
identifier_kind false s = refl

pub writes_word : (l : Text) {a b : Writer} → IsUtf8 l → WritesBytes l none a b → Writes (word (chars l) ∷ []) a b
writes_word l u h = writes_part _ (chars l) l (word_kind (is_keyword (chars l)) (chars l)) (encodes-chars l u) h

-- of any characters
pub writes_spelled : (s : List ℕ) {a b : Writer} → WritesBytes (encode_utf8_all s) none a b → Writes (word s ∷ []) a b
writes_spelled s h = writes_part _ s _ (word_kind (is_keyword s) s) refl h

pub writes_keyword : (l : Text) {a b : Writer} → IsUtf8 l → WritesBytes l none a b → Writes (keyword (chars l) ∷ []) a b
writes_keyword l u h = writes_part (Token Keyword) (chars l) l refl (encodes-chars l u) h

identifier_bytes : (b : Bool) (l : Text) → IsUtf8 l → encode_utf8_all (cond b (92 ∷ chars l) (chars l)) ≡ cond b (92 ∷ l) l
unfolding lib.Utf8.encode chars
identifier_bytes true l u = ap (λ t. 92 ∷ t) (encodes-chars l u)
identifier_bytes false l u = encodes-chars l u

pub writes_identifier : (l : Text) {a b : Writer} → IsUtf8 l → WritesBytes (cond (is_keyword (chars l)) (92 ∷ l) l) none a b → Writes (identifier (chars l) ∷ []) a b
writes_identifier l u h = writes_part _ _ _ (identifier_kind (is_keyword (chars l)) _) (identifier_bytes (is_keyword (chars l)) l u) h

-- a name behind a prefix
pub writes_prefixed : (p : List ℕ) (l : Text) {a b c d : Writer} → IsUtf8 l → WritesBytes (encode_utf8_all p) none a b → WritesBytes (58 ∷ []) none b c → WritesBytes l none c d → Writes (prefixed_piece p (chars l) ∷ []) a d
unfolding lib.Utf8.encode chars
writes_prefixed p l u h j k =
    writes_part (Token Prefixed) (p ++ 58 ∷ chars l) _ refl (encodes-append p (58 ∷ chars l) ∙ ap (λ t. encode_utf8_all p ++ (58 ∷ t)) (encodes-chars l u))
    (bytes_then (encode_utf8_all p) (58 ∷ l) h (bytes_then (58 ∷ []) l j k))

pub writes_any_of : (p : List ℕ) {a b c : Writer} → WritesBytes (encode_utf8_all p) none a b → WritesBytes (58 ∷ 42 ∷ []) none b c → Writes (any_of p ∷ []) a c
unfolding lib.Utf8.encode chars
writes_any_of p h k = writes_part (Token AnyOf) (p ++ 58 ∷ 42 ∷ []) _ refl (encodes-append p (58 ∷ 42 ∷ [])) (bytes_then (encode_utf8_all p) (58 ∷ 42 ∷ []) h k)

-- ---- names

pub writes_local : (f : Prefixes) (u l : Text) {a b : Writer} → nat_eq (length u) 0 ≡ true → IsUtf8 l → WritesBytes l none a b → Writes (name_piece f u l ∷ []) a b
writes_local f [] l e i h = writes_word l i h
writes_local f (c ∷ u) l e i h = absurd (let x = eqb-suc-zero (length u) in cc)

pub writes_full : (f : Prefixes) (u l : Text) {a b c d : Writer} → nat_eq (length u) 0 ≡ false → IsUtf8 l → WritesBytes (encode_utf8_all (namespace_prefix f u)) none a b → WritesBytes (58 ∷ []) none b c → WritesBytes l none c d → Writes (name_piece f u l ∷ []) a d
writes_full f [] l e i h j k = absurd (let x : true ≡ false = e in cc)
writes_full f (c ∷ u) l e i h j k = writes_prefixed (namespace_prefix f (c ∷ u)) l i h j k

-- ---- connectors

pub writes_bar : {a b : Writer} → WritesBytes (codes " | ") none a b → Writes (infix_of (codes "|")) a b
unfolding lib.Utf8.encode chars
writes_bar h = writes_pieces _ refl (λ n. refl) h

pub writes_minus : {a b : Writer} → WritesBytes (codes " - ") none a b → Writes (infix_of (codes "-")) a b
unfolding lib.Utf8.encode chars
writes_minus h = writes_pieces _ refl (λ n. refl) h

-- ---- brackets

kept : (b : Bool) (n : ℕ) → option_and_then (depth_after []) (cond b (Some n) None) ≡ cond b (Some n) None
kept true n = refl
kept false n = refl

one : (n : ℕ) → option_and_then (depth_after []) (depth_behind opening n) ≡ depth_behind opening n
one n = kept (nat_lt n 256) (n + 1)

one_then : (n : ℕ) → option_and_then (depth_after (space ∷ [])) (depth_behind opening n) ≡ depth_behind opening n
one_then n = kept_then (nat_lt n 256) (n + 1)
  where
    kept_then : (b : Bool) (n : ℕ) → option_and_then (depth_after (space ∷ [])) (cond b (Some n) None) ≡ cond b (Some n) None
    kept_then true n = refl
    kept_then false n = refl

pub writes_parenthesized : (ps : List Piece) {a b c d : Writer} → WritesBytes (codes "(") opening a b → Writes ps b c → WritesBytes (codes ")") closing c d → Writes (in_parentheses ps) a d
unfolding lib.Utf8.encode chars
writes_parenthesized ps h j k =
    writes_then (symbol (codes "(") ∷ []) (ps ++ symbol (codes ")") ∷ []) (writes_pieces (symbol (codes "(") ∷ []) refl one h)
    (writes_then ps (symbol (codes ")") ∷ []) j (writes_pieces (symbol (codes ")") ∷ []) refl (λ n. refl) k))

pub writes_braced : (ps : List Piece) {a b c d : Writer} → WritesBytes (codes " { ") opening a b → Writes ps b c → WritesBytes (codes " }") closing c d → Writes (in_braces ps) a d
unfolding lib.Utf8.encode chars
writes_braced ps h j k =
    writes_then (space ∷ symbol (codes "{") ∷ space ∷ []) (ps ++ space ∷ symbol (codes "}") ∷ []) (writes_pieces _ refl one_then h)
    (writes_then ps (space ∷ symbol (codes "}") ∷ []) j (writes_pieces _ refl (λ n. refl) k))

-- ---- operands

pub operand_chained : (w : NodeText) → chained ≡ w.shape → operand w ≡ in_parentheses w.pieces
operand_chained w e = ap (λ s. operand_in s w.pieces) (sym e)

-- ---- name classes

class_primary : (f : Prefixes) (n : NameTree) → operand (written_name f n) ≡ primary (written_name f n)
class_primary f any_name = refl
class_primary f (any_name_but n) = refl
class_primary f (ns_name u) = refl
class_primary f (ns_name_but u n) = refl
class_primary f (name u l) = refl
class_primary f (name_choice ns) = refl

pub writes_any_but : (f : Prefixes) (n : NameTree) {a b c : Writer} → WritesBytes (codes "* - ") none a b → Writes (operand (written_name f n)) b c → Writes (written_name f (any_name_but n)).pieces a c
unfolding lib.Utf8.encode chars
writes_any_but f n h k =
    writes_then (symbol (codes "*") ∷ infix_of (codes "-")) (primary (written_name f n)) (writes_pieces _ refl (λ i. refl) h) (writes_as (class_primary f n) k)

pub writes_ns_but : (f : Prefixes) (u : Text) (n : NameTree) {a b c d : Writer} → Writes (any_of (namespace_prefix f u) ∷ []) a b → WritesBytes (codes " - ") none b c → Writes (operand (written_name f n)) c d → Writes (written_name f (ns_name_but u n)).pieces a d
unfolding lib.Utf8.encode chars
writes_ns_but f u n h j k =
    writes_then (any_of (namespace_prefix f u) ∷ []) (infix_of (codes "-") ++ primary (written_name f n)) h
    (writes_then (infix_of (codes "-")) (primary (written_name f n)) (writes_pieces _ refl (λ i. refl) j) (writes_as (class_primary f n) k))

-- ---- prefixes

pub empty_namespace : (f : Prefixes) (u : Text) → nat_eq (length u) 0 ≡ true → codes "n0" ≡ encode_utf8_all (namespace_prefix f u)
unfolding lib.Utf8.encode chars
empty_namespace f [] e = refl
empty_namespace f (c ∷ u) e = absurd (let x = eqb-suc-zero (length u) in cc)

xml_by : (b d : Bool) (n : List ℕ) → b ≡ false → d ≡ true → codes "xml" ≡ encode_utf8_all (cond b (codes "n0") (cond d (codes "xml") n))
unfolding lib.Utf8.encode chars
xml_by true d n e h = absurd cc
xml_by false true n e h = refl
xml_by false false n e h = absurd cc

numbered_by : (b d : Bool) (n : List ℕ) → b ≡ false → d ≡ false → encode_utf8_all n ≡ encode_utf8_all (cond b (codes "n0") (cond d (codes "xml") n))
numbered_by true d n e h = absurd cc
numbered_by false true n e h = absurd cc
numbered_by false false n e h = refl

not_empty : (u : Text) → nat_eq (length u) 0 ≡ false → bytes_eq u [] ≡ false
not_empty [] e = absurd cc
not_empty (c ∷ u) e = refl

pub xml_namespace : (f : Prefixes) (u : Text) → nat_eq (length u) 0 ≡ false → bytes_eq u xml_uri ≡ true → codes "xml" ≡ encode_utf8_all (namespace_prefix f u)
xml_namespace f u e h = xml_by (bytes_eq u []) (bytes_eq u xml_uri) _ (not_empty u e) h

pub other_namespace : (f : Prefixes) (u : Text) → nat_eq (length u) 0 ≡ false → bytes_eq u xml_uri ≡ false → place u f.namespaces < 2 ^ 64 → codes "n" ++ decimal (place u f.namespaces) ≡ encode_utf8_all (namespace_prefix f u)
other_namespace f u e h l = sym (numbered_bytes 110 (place u f.namespaces) refl l) ∙ numbered_by (bytes_eq u []) (bytes_eq u xml_uri) _ (not_empty u e) h

-- ---- datatypes

pub writes_built_in : (f : Prefixes) (l x : Text) {a b : Writer} → nat_eq (length l) 0 ≡ true → IsUtf8 x → WritesBytes x none a b → Writes (type_piece f l x ∷ []) a b
writes_built_in f [] x e u h = writes_keyword x u h
writes_built_in f (c ∷ l) x e u h = absurd (let y = eqb-suc-zero (length l) in cc)

xsd_by : (b : Bool) (n : List ℕ) → b ≡ true → cond b (codes "xsd") n ≡ codes "xsd"
xsd_by true n e = refl
xsd_by false n e = absurd cc

other_by : (b : Bool) (n : List ℕ) → b ≡ false → cond b (codes "xsd") n ≡ n
other_by true n e = absurd cc
other_by false n e = refl

xsd_bytes : (f : Prefixes) (l : Text) → bytes_eq l xsd_uri ≡ true → encode_utf8_all (library_prefix f l) ≡ codes "xsd"
unfolding lib.Utf8.encode chars
xsd_bytes f l e = ap encode_utf8_all (xsd_by (bytes_eq l xsd_uri) _ e)

other_library : (f : Prefixes) (l : Text) → bytes_eq l xsd_uri ≡ false → place l f.libraries < 2 ^ 64 → encode_utf8_all (library_prefix f l) ≡ codes "d" ++ decimal (place l f.libraries)
other_library f l e h = ap encode_utf8_all (other_by (bytes_eq l xsd_uri) _ e) ∙ numbered_bytes 100 (place l f.libraries) refl h

prefixed_type : (f : Prefixes) (l x : Text) {a b : Writer} → nat_eq (length l) 0 ≡ false → Writes (prefixed_piece (library_prefix f l) (chars x) ∷ []) a b → Writes (type_piece f l x ∷ []) a b
prefixed_type f [] x e h = absurd cc
prefixed_type f (c ∷ l) x e h = h

pub xsd_library : (f : Prefixes) (l : Text) → bytes_eq l xsd_uri ≡ true → codes "xsd" ≡ encode_utf8_all (library_prefix f l)
xsd_library f l e = sym (xsd_bytes f l e)

pub numbered_library : (f : Prefixes) (l : Text) → bytes_eq l xsd_uri ≡ false → place l f.libraries < 2 ^ 64 → codes "d" ++ decimal (place l f.libraries) ≡ encode_utf8_all (library_prefix f l)
numbered_library f l e h = sym (other_library f l e h)

pub writes_library_type : (f : Prefixes) (l x : Text) {a b c d : Writer} → nat_eq (length l) 0 ≡ false → IsUtf8 x → WritesBytes (encode_utf8_all (library_prefix f l)) none a b → WritesBytes (codes ":") none b c → WritesBytes x none c d → Writes (type_piece f l x ∷ []) a d
writes_library_type f l x e u h j k = prefixed_type f l x e (writes_prefixed (library_prefix f l) x u h j k)
