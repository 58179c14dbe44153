-- The texts of values and of data.
use Rattle.std.proofs.Common.{◌≡◌, ℕ, zero, suc, ◌<◌, List, [], ◌∷◌, ◌++◌, length, take, refl, sym, ap, ◌∙◌, subst, append_assoc, append-nil, cond, nat_eq, true, false, Bool, Some, arith}
use Rattle.std.specs.Prelude.{codes, String, bytes_eq, ◌&&◌}
use Rattle.std.specs.declared.alloc.Global.{Global}
use Rattle.rn_pattern.specs.View.{parameters_view}
use Rattle.std.specs.Str.{chars, encode_utf8_all, IsUtf8}
use Rattle.rn_text.specs.Literals.{literal_bytes, segments, delimited, joined, literal_of}
use Rattle.rn_text.specs.Parts.{Piece, text_of}
use Rattle.rn_pattern.specs.Tree.{Parameters}
use Rattle.rn_text.specs.Texts.{Text}
use Rattle.rn_simplify.specs.declared.writer.Writer.{Writer}
use Rattle.rn_simplify.specs.Spelling as s
use Rattle.rn_simplify.specs.Spelling.{Prefixes, literal, infix_of, space, word, type_piece, value_pieces, datum_pieces, param_pieces, params_pieces, in_braces}
use Rattle.rn_simplify.specs.inside.Writes.{depth_after, none, opening, closing, Writes, WritesBytes}
use Rattle.rn_simplify.proofs.Texts.Writing.{writes_nil, writes_then, writes_pieces, writes_as}
use Rattle.rn_simplify.proofs.Texts.PartTexts.{writes_word, writes_braced}

-- ---- literals

literal_text : (rs : List (List ℕ)) → text_of (s.segment_pieces rs) ≡ joined rs
literal_text [] = refl
literal_text (r ∷ []) = append-nil (delimited r)
literal_text (r ∷ q ∷ rs) = ap (λ t. delimited r ++ (codes " ~ " ++ t)) (literal_text (q ∷ rs))

literal_depth : (rs : List (List ℕ)) (n : ℕ) → depth_after (s.segment_pieces rs) n ≡ Some n
unfolding lib.Utf8.encode chars
literal_depth [] n = refl
literal_depth (r ∷ []) n = refl
literal_depth (r ∷ q ∷ rs) n = literal_depth (q ∷ rs) n

pub writes_literal : (t : Text) {a b : Writer} → WritesBytes (literal_bytes t) none a b → Writes (literal t) a b
unfolding literal_of
writes_literal t h = writes_pieces (literal t) (ap encode_utf8_all (literal_text (segments (chars t)))) (literal_depth (segments (chars t))) h

-- ---- values

value_by : (b : Bool) (xs ys : List Piece) {a c : Writer} → b ≡ true → Writes xs a c → Writes (cond b xs ys) a c
value_by true xs ys e h = h
value_by false xs ys e h = absurd cc

value_but : (b : Bool) (xs ys : List Piece) {a c : Writer} → b ≡ false → Writes ys a c → Writes (cond b xs ys) a c
value_but true xs ys e h = absurd cc
value_but false xs ys e h = h

pub space_written : {a b : Writer} → WritesBytes (32 ∷ []) none a b → Writes (space ∷ []) a b
unfolding lib.Utf8.encode chars
space_written h = writes_pieces (space ∷ []) refl (λ n. refl) h

pub writes_token : (f : Prefixes) (l x t : Text) {a b : Writer} → (bytes_eq l [] && bytes_eq x (codes "token")) ≡ true → WritesBytes (literal_bytes t) none a b → Writes (value_pieces f l x t) a b
writes_token f l x t e h = value_by _ (literal t) _ e (writes_literal t h)

pub writes_value : (f : Prefixes) (l x t : Text) {a b c d : Writer} → (bytes_eq l [] && bytes_eq x (codes "token")) ≡ false → Writes (type_piece f l x ∷ []) a b → WritesBytes (32 ∷ []) none b c → WritesBytes (literal_bytes t) none c d → Writes (value_pieces f l x t) a d
writes_value f l x t e h j k = value_but _ (literal t) (type_piece f l x ∷ space ∷ literal t) e (writes_then (type_piece f l x ∷ []) (space ∷ literal t) h (writes_then (space ∷ []) (literal t) (space_written j) (writes_literal t k)))

-- ---- parameters

pub equals_written : {a b : Writer} → WritesBytes (codes " = ") none a b → Writes (infix_of (codes "=")) a b
unfolding lib.Utf8.encode chars
equals_written h = writes_pieces _ refl (λ n. refl) h

pub writes_param : (k t : Text) {a b c d : Writer} → IsUtf8 k → WritesBytes k none a b → WritesBytes (codes " = ") none b c → WritesBytes (literal_bytes t) none c d → Writes (param_pieces (k, t)) a d
writes_param k t u h j l = writes_then (word (chars k) ∷ []) (infix_of (codes "=") ++ literal t) (writes_word k u h) (writes_then (infix_of (codes "=")) (literal t) (equals_written j) (writes_literal t l))

-- what stands before a further parameter
abbrev pub spaced : {A : Type 0} → List A → List Piece
spaced [] = []
spaced (v ∷ vs) = space ∷ []

params_more : (ps : Parameters) (p : Text × Text) → params_pieces (ps ++ p ∷ []) ≡ params_pieces ps ++ (spaced ps ++ param_pieces p)
params_more [] p = refl
params_more (q ∷ []) p = refl
params_more (q ∷ r ∷ ps) p = ap (λ x. param_pieces q ++ (space ∷ x)) (params_more (r ∷ ps) p) ∙ sym (append_assoc (param_pieces q) (space ∷ params_pieces (r ∷ ps)) (space ∷ param_pieces p))

pub writes_params_more : (ps : Parameters) (p : Text × Text) {a b c d : Writer} → Writes (params_pieces ps) a b → Writes (spaced ps) b c → Writes (param_pieces p) c d → Writes (params_pieces (ps ++ p ∷ [])) a d
writes_params_more ps p h j k = writes_as (sym (params_more ps p)) (writes_then (params_pieces ps) (spaced ps ++ param_pieces p) h (writes_then (spaced ps) (param_pieces p) j k))

pub spaced_first : (xs : List (String Global × String Global)) (i : ℕ) {a : Writer} → i ≡ 0 → Writes (spaced (parameters_view (take i xs))) a a
spaced_first xs i {a} e = subst (λ j. Writes (spaced (parameters_view (take j xs))) a a) (sym e) (writes_nil a)

pub spaced_viewed : (xs : List (String Global × String Global)) (i : ℕ) {a b : Writer} → 0 < i → i < length xs → WritesBytes (32 ∷ []) none a b → Writes (spaced (parameters_view (take i xs))) a b
spaced_viewed [] i h l k = absurd (omega (arith, l))
spaced_viewed (x ∷ xs) zero h l k = absurd (omega (arith, h))
spaced_viewed (x ∷ xs) (suc i) h l k = space_written k

pub writes_data : (f : Prefixes) (l x : Text) (ps : Parameters) {a b c d z : Writer} → nat_eq (length ps) 0 ≡ false → Writes (type_piece f l x ∷ []) a b → WritesBytes (codes " { ") opening b c → Writes (params_pieces ps) c d → WritesBytes (codes " }") closing d z → Writes (datum_pieces f l x ps) a z
writes_data f l x [] e h j k m = absurd cc
writes_data f l x (p ∷ ps) e h j k m = writes_then (type_piece f l x ∷ []) (in_braces (params_pieces (p ∷ ps))) h (writes_braced (params_pieces (p ∷ ps)) j k m)
