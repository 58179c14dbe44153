-- Datatypes with their parameters, and values, as they are written are read back.
use Rattle.std.proofs.Common.{◌≡◌, ℕ, ◌+◌, Bool, true, false, List, [], ◌∷◌, ◌++◌, refl, sym, ap, ◌∙◌, subst, is_some}
use Rattle.std.specs.Prelude.{codes, not, ◌&&◌, ◌||◌, unwrap_or, bytes_eq}
use Rattle.std.specs.Str.{chars, encode_utf8_all}
use Rattle.std.proofs.lemmas.Str.{encodes-chars}
use Rattle.rn_text.specs.Characters.{is_keyword, keywords}
use Rattle.rn_text.specs.Parts.{Piece}
use Rattle.rn_text.specs.Tokens.{width}
use Rattle.rn_text.proofs.Cutting.SoundPieces.{Sound, no_pieces, free_sound, free_then, sound_then, keyword_sound, prefixed_sound}
use Rattle.rn_pattern.specs.Tree.{Parameters}
use Rattle.rn_text.specs.Texts.{Text}
use Rattle.rn_syntax.specs.Terminal as t
use Rattle.rn_syntax.specs.Terminal.{◌#◌}
use Rattle.rn_syntax.specs.Tree as s
use Rattle.rn_syntax.specs.Tree.{Datatype, Declaration}
use Rattle.rn_syntax.specs.Grammar as g
use Rattle.rn_syntax.specs.Grammar.{Tokens, IsDatatype, MayHaveParams}
use Rattle.rn_syntax.specs.Places.{place_if, xsd_uri, unbound_type, wrong_builtin, context_value, is_context_type, is_library, has_any}
use Rattle.rn_syntax.specs.TokenTerminals.{symbol_rows, keyword_rows}
use Rattle.rn_syntax.specs.declared.tree.Method.TheVariants as m
use Rattle.rn_text.specs.declared.keywords.Keyword.TheVariants as k
use Rattle.rn_syntax.proofs.TokenKinds.PieceTokens.{before, terms, behind, terms-append, prefixed_term}
use Rattle.rn_assemble.specs.Resolve.{type_library, type_name}
use Rattle.rn_simplify.specs.Spelling.{space, symbol, word, literal, in_braces, Prefixes, library_prefix, type_piece, params_pieces, datum_pieces}
use Rattle.rn_assemble.specs.WritableTexts.{IsName, AreParams, IsType, string_type, token_type, library_type, IsData, bare, with_params, needs_context}
use Rattle.rn_simplify.proofs.ReadBack.NamesAndLiterals.{space_breaks, space_free, equals_free, braced_sound, word_sound, word_term, literal_sound, literal_reads}
use Rattle.rn_simplify.proofs.ReadBack.NeededBindings.{IsLibrary}

-- where braces and what is in them stand
abbrev pub inside_at : ℕ → ℕ
inside_at i = i + width space + width (symbol (codes "{")) + width space

pub braced_terms : (i : ℕ) (ps : List Piece) (rest : Tokens) → terms i (in_braces ps) rest ≡ t.left_brace # (i + width space) ∷ terms (inside_at i) ps (t.right_brace # (behind (inside_at i) ps + width space) ∷ rest)
unfolding symbol_rows
braced_terms i ps rest = ap (λ l. t.left_brace # (i + width space) ∷ l) (terms-append (inside_at i) ps (space ∷ symbol (codes "}") ∷ []) rest)

params_sound : (es : Parameters) → AreParams es → Sound (params_pieces es)
params_sound [] h = free_sound no_pieces
params_sound (e ∷ []) h = sound_then (word_sound h.0) (space_breaks _) (free_then equals_free (literal_sound h.1))
params_sound (e ∷ d ∷ es) h = sound_then (sound_then (word_sound h.0) (space_breaks _) (free_then equals_free (literal_sound h.1))) (space_breaks _) (free_then space_free (params_sound (d ∷ es) h.2))

params_read : (es : Parameters) → AreParams es → (i b : ℕ) (rest : Tokens) → g.AreParams (terms i (params_pieces es) (t.right_brace # b ∷ rest)) es rest
unfolding symbol_rows
params_read [] h i b rest = g.close
params_read (e ∷ []) h i b rest =
    let w = word_term h.0 in
    let k = i + width (word (chars e.0)) in
    let l = k + width space + width (symbol (codes "=")) + width space in
    let after = t.right_brace # b ∷ rest in
    subst (λ ts. g.AreParams ts (e ∷ []) rest) (sym (w.is i (t.assign m.Plain # (k + width space) ∷ terms l (literal e.1) after)))
    (g.param g.bare w.is_word (literal_reads h.1 l after) g.close)
params_read (e ∷ d ∷ es) h i b rest =
    let w = word_term h.0 in
    let k = i + width (word (chars e.0)) in
    let l = k + width space + width (symbol (codes "=")) + width space in
    let after = t.right_brace # b ∷ rest in
    let n = behind l (literal e.1) + width space in
    let behind_literal = terms n (params_pieces (d ∷ es)) after in
    subst (λ ts. g.AreParams ts (e ∷ d ∷ es) rest)
    (sym (w.is i (t.assign m.Plain # (k + width space) ∷ terms l (literal e.1 ++ space ∷ params_pieces (d ∷ es)) after)
    ∙ ap (λ x. w.terminal # i ∷ t.assign m.Plain # (k + width space) ∷ x) (terms-append l (literal e.1) (space ∷ params_pieces (d ∷ es)) after)))
    (g.param g.bare w.is_word (literal_reads h.1 l behind_literal) (params_read (d ∷ es) h.2 n b rest))

module _ (f : Prefixes) (ds : List Declaration) where
  abbrev pub Library : Text → Type 0
  Library l = IsLibrary ds (library_prefix f l) l

  -- the token of a datatype, and what it is resolved to
  pub record TypeTerm (l x : Text) (i : ℕ) : Type 0 where
    pub terminal : t.Terminal
    pub datatype : Datatype
    pub is : (ts : Tokens) → before (type_piece f l x).part i (type_piece f l x).spelling ts ≡ terminal # i ∷ ts
    pub is_datatype : IsDatatype (terminal # i) datatype
    pub library : type_library [] ds datatype ≡ l
    pub name : type_name [] ds datatype ≡ x
    pub bound : (v : Bool) (ps : Parameters) → unbound_type ds v datatype ps ≡ []
    pub builtin : (v : Bool) → wrong_builtin ds v datatype [] ≡ []
    pub context : needs_context l x ≡ false → context_value ds true datatype [] ≡ []

  library_term : {c : ℕ} {l x : Text} → Library (c ∷ l) → IsName x → (i : ℕ) → TypeTerm (c ∷ l) x i
  library_term {c = c} {l = l} {x = x} b n i =
      let p = library_prefix f (c ∷ l) in
      let e : encode_utf8_all (chars x) ≡ x = encodes-chars x n.utf8 in
      record {
        terminal = t.prefixed (encode_utf8_all p) (encode_utf8_all (chars x));
        datatype = s.named (encode_utf8_all p) (encode_utf8_all (chars x)) i;
        is = λ ts. ap (λ y. y # i ∷ ts) (prefixed_term p (chars x) b.name);
        is_datatype = g.named;
        library = ap (λ o. unwrap_or o []) b.meaning;
        name = e;
        bound = λ v ps. ap (λ o. place_if (not (is_some o)) i) b.meaning;
        builtin = λ v. ap (λ o. place_if (is_library o [] && (has_any [] || not (bytes_eq (encode_utf8_all (chars x)) (codes "string") || bytes_eq (encode_utf8_all (chars x)) (codes "token")))) i) b.meaning;
        context = λ k. (λ j. place_if (is_library (b.meaning j) xsd_uri && is_context_type (e j)) i) ∙ ap (λ y. place_if y i) k;
      }

  pub type_term : {l x : Text} → IsType Library l x → (i : ℕ) → TypeTerm l x i
  unfolding keyword_rows chars
  type_term string_type i = record { terminal = t.keyword k.String; datatype = s.string i; is = λ ts. refl; is_datatype = g.string; library = refl; name = refl; bound = λ v ps. refl; builtin = λ v. refl; context = λ h. refl }
  type_term token_type i = record { terminal = t.keyword k.Token; datatype = s.token i; is = λ ts. refl; is_datatype = g.token; library = refl; name = refl; bound = λ v ps. refl; builtin = λ v. refl; context = λ h. refl }
  type_term (library_type b n) i = library_term b n i

  pub type_sound : {l x : Text} → IsType Library l x → Sound (type_piece f l x ∷ [])
  unfolding is_keyword keywords chars
  type_sound string_type = keyword_sound (codes "string") refl
  type_sound token_type = keyword_sound (codes "token") refl
  type_sound (library_type {x = x} b n) = prefixed_sound _ (chars x) b.name n.is

  -- data before `-` or what stands behind a pattern
  pub record DataTerm (l x : Text) (ps : Parameters) (i : ℕ) (rest : Tokens) : Type 0 where
    pub terminal : t.Terminal
    pub behind_it : Tokens
    pub datatype : Datatype
    pub is : terms i (datum_pieces f l x ps) rest ≡ terminal # i ∷ behind_it
    pub is_datatype : IsDatatype (terminal # i) datatype
    pub params : MayHaveParams behind_it ps rest
    pub library : type_library [] ds datatype ≡ l
    pub name : type_name [] ds datatype ≡ x
    pub bound : unbound_type ds false datatype ps ≡ []
    pub builtin : wrong_builtin ds false datatype ps ≡ []

  pub data_term : {l x : Text} {ps : Parameters} → IsData Library l x ps → (i : ℕ) (rest : Tokens) → DataTerm l x ps i rest
  unfolding library_term
  data_term (bare {l = l} {x = x} h) i rest =
      let y = type_term h i in
      record { terminal = y.terminal; behind_it = rest; datatype = y.datatype; is = y.is rest; is_datatype = y.is_datatype; params = g.none; library = y.library; name = y.name; bound = y.bound false []; builtin = y.builtin false }
  data_term (with_params {c = c} {l = l} {x = x} {e = e} {es = es} b n h) i rest =
      let y = library_term b n i in
      let j = i + width (type_piece f (c ∷ l) x) in
      record {
        terminal = y.terminal;
        behind_it = t.left_brace # (j + width space) ∷ terms (inside_at j) (params_pieces (e ∷ es)) (t.right_brace # (behind (inside_at j) (params_pieces (e ∷ es)) + width space) ∷ rest);
        datatype = y.datatype;
        is = y.is (terms j (in_braces (params_pieces (e ∷ es))) rest) ∙ ap (λ l. y.terminal # i ∷ l) (braced_terms j (params_pieces (e ∷ es)) rest);
        is_datatype = y.is_datatype;
        params = g.braces (params_read (e ∷ es) h (inside_at j) _ rest);
        library = y.library;
        name = y.name;
        bound = y.bound false (e ∷ es);
        builtin = ap (λ o. place_if (is_library o [] && (has_any (e ∷ es) || not (bytes_eq (encode_utf8_all (chars x)) (codes "string") || bytes_eq (encode_utf8_all (chars x)) (codes "token")))) i) b.meaning;
      }

  pub data_sound : {l x : Text} {ps : Parameters} → IsData Library l x ps → Sound (datum_pieces f l x ps)
  data_sound (bare h) = type_sound h
  data_sound (with_params {e = e} {es = es} b n h) = sound_then (type_sound (library_type b n)) (space_breaks _) (braced_sound (params_sound (e ∷ es) h))
