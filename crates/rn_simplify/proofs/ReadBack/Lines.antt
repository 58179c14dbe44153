-- The lines of a printed grammar are read back.
use Rattle.std.proofs.Common.{◌≡◌, ℕ, ◌+◌, true, List, [], ◌∷◌, ◌++◌, refl, sym, ap, ◌∙◌, subst, map}
use Rattle.std.specs.Prelude.{codes, not, None}
use Rattle.std.specs.List.{AllByRecursion, list_all}
use Rattle.std.proofs.lemmas.Str.{IsUtf8-nil, chars-nil}
use Rattle.std.specs.Str.{chars, encode_utf8_all}
use Rattle.rn_text.specs.Characters.{is_ncname, is_keyword, keywords, is_xml_char}
use Rattle.rn_text.specs.Parts.{Piece}
use Rattle.rn_text.specs.Tokens.{width}
use Rattle.rn_text.proofs.Cutting.SoundPieces.{Sound, Free, Breaks, no_pieces, free_free, sound_free, keyword_sound}
use Rattle.rn_pattern.specs.Tree.{Tree}
use Rattle.rn_text.specs.Texts.{Text}
use Rattle.rn_pattern.specs.Opened.{opened}
use Rattle.rn_syntax.specs.Terminal as t
use Rattle.rn_syntax.specs.Terminal.{◌#◌}
use Rattle.rn_syntax.specs.Tree as s
use Rattle.rn_syntax.specs.Tree.{Declaration, Item, items_of, includes}
use Rattle.rn_syntax.specs.Grammar as g
use Rattle.rn_syntax.specs.Grammar.{Tokens, IsDeclaration, AreDeclarations, AreItems}
use Rattle.rn_syntax.specs.Places.{items_places, class_places, unbound_type, wrong_builtin, context_value, inherit_places, place_if, is_allowed}
use Rattle.rn_syntax.specs.TokenTerminals.{symbol_rows, keyword_rows}
use Rattle.rn_syntax.specs.declared.tree.Method.TheVariants as m
use Rattle.rn_text.specs.declared.keywords.Keyword.TheVariants as k
use Rattle.rn_syntax.proofs.TokenKinds.PieceTokens.{before, terms, behind, terms-append}
use Rattle.rn_syntax.proofs.Lists.EmptyLists.{both_nil}
use Rattle.rn_assemble.specs.Resolve.{default_of}
use Rattle.rn_assemble.specs.Components.{Component, start_key, name_key, all_components}
use Rattle.rn_simplify.specs.Spelling.{space, line_end, symbol, keyword, word, identifier, literal, Prefixes, binding, bindings, default_line, definition_line, definition_lines, written_tree}
use Rattle.rn_simplify.specs.Printable.{IsPrintable}
use Rattle.rn_assemble.specs.WritableTexts.{IsName, IsXml}
use Rattle.rn_simplify.proofs.ReadBack.NamesAndLiterals.{space_breaks, space_free, end_free, equals_free, spelled_word_sound, spelled_word_term, identifier_sound, identifier_term, literal_sound, literal_reads}
use Rattle.rn_simplify.proofs.ReadBack.Classes.{Bound}
use Rattle.rn_simplify.proofs.ReadBack.Types.{Library}
use Rattle.rn_simplify.proofs.ReadBack.Patterns.{tree_reads}

-- a prefix that is a name, and a URI of XML characters
abbrev pub IsEntry : List ℕ × Text → Type 0
IsEntry e = (is_ncname e.0 ≡ true) × IsXml e.1

abbrev pub prefix_at : (w : List ℕ) → ℕ → ℕ
prefix_at w i = i + width (keyword w) + width space

abbrev pub literal_at : (w : List ℕ) → ℕ → List ℕ → ℕ
literal_at w i p = prefix_at w i + width (word p) + width space + width (symbol (codes "=")) + width space

end_breaks : Breaks (line_end ∷ [])
end_breaks = record { first = 10; more = []; is = refl; breaks = refl }

-- what is behind `=`, to the end of the line
ended : {ps : List Piece} → Sound ps → Free (ps ++ line_end ∷ [])
ended h = sound_free h end_breaks end_free

ended_terms : (i : ℕ) (ps : List Piece) (rest : Tokens) → terms i (ps ++ line_end ∷ []) rest ≡ terms i ps rest
ended_terms i ps rest = terms-append i ps (line_end ∷ []) rest

namespace_sound : Sound (keyword (codes "namespace") ∷ [])
unfolding is_keyword keywords
namespace_sound = keyword_sound _ refl

default_sound : Sound (keyword (codes "default") ∷ [])
unfolding is_keyword keywords
default_sound = keyword_sound _ refl

start_sound : Sound (keyword (codes "start") ∷ [])
unfolding is_keyword keywords
start_sound = keyword_sound _ refl

pub empty_xml : IsXml []
empty_xml = record { utf8 = IsUtf8-nil; is = ap (λ cs. list_all is_xml_char cs) chars-nil }

binding_free : (w : List ℕ) (e : List ℕ × Text) → Sound (keyword w ∷ []) → IsEntry e → Free (binding w e.0 e.1)
binding_free w e k h = sound_free k (space_breaks _) (free_free space_free (sound_free (spelled_word_sound e.0 h.0) (space_breaks _) (free_free equals_free (ended (literal_sound h.1)))))

pub bindings_free : (w : List ℕ) (es : List (List ℕ × Text)) → Sound (keyword w ∷ []) → AllByRecursion IsEntry es → Free (bindings w es)
bindings_free w [] k h = no_pieces
bindings_free w (e ∷ es) k h = free_free (binding_free w e k h.0) (bindings_free w es k h.1)

-- the declarations of the lines, of which the first stands at this place
abbrev pub namespaces_from : ℕ → List (List ℕ × Text) → List Declaration
namespaces_from i [] = []
namespaces_from i (e ∷ es) = s.namespace (encode_utf8_all e.0) (prefix_at (codes "namespace") i) (s.literal e.1) ∷ namespaces_from (behind i (binding (codes "namespace") e.0 e.1)) es

abbrev pub libraries_from : ℕ → List (List ℕ × Text) → List Declaration
libraries_from i [] = []
libraries_from i (e ∷ es) = s.datatypes (encode_utf8_all e.0) (prefix_at (codes "datatypes") i) e.1 ∷ libraries_from (behind i (binding (codes "datatypes") e.0 e.1)) es

-- a word, `=` and a literal behind the keyword
binding_terms : (w : List ℕ) (e : List ℕ × Text) (i : ℕ) (rest : Tokens)
    → terms i (binding w e.0 e.1) rest ≡ before (keyword w).part i w ((spelled_word_term e.0).terminal # prefix_at w i ∷ t.assign m.Plain # (prefix_at w i + width (word e.0) + width space) ∷ terms (literal_at w i e.0) (literal e.1) rest)
unfolding symbol_rows
binding_terms w e i rest =
    ap (before (keyword w).part i w)
    ((spelled_word_term e.0).is (prefix_at w i) (t.assign m.Plain # (prefix_at w i + width (word e.0) + width space) ∷ terms (literal_at w i e.0) (literal e.1 ++ line_end ∷ []) rest)
    ∙ ap (λ ts. (spelled_word_term e.0).terminal # prefix_at w i ∷ t.assign m.Plain # (prefix_at w i + width (word e.0) + width space) ∷ ts) (ended_terms (literal_at w i e.0) (literal e.1) rest))

pub namespaces_read : (es : List (List ℕ × Text)) → AllByRecursion IsEntry es → (i : ℕ) (rest : Tokens) → AreDeclarations (terms i (bindings (codes "namespace") es) rest) (namespaces_from i es) rest
unfolding keyword_rows
namespaces_read [] h i rest = g.none
namespaces_read (e ∷ es) h i rest =
    let j = behind i (binding (codes "namespace") e.0 e.1) in
    let others = bindings (codes "namespace") es in
    subst (λ ts. AreDeclarations ts (namespaces_from i (e ∷ es)) rest)
    (sym (terms-append i (binding (codes "namespace") e.0 e.1) others rest ∙ binding_terms (codes "namespace") e i (terms j others rest)))
    (g.more (g.namespace (spelled_word_term e.0).is_word (g.literal (literal_reads h.0.1 (literal_at (codes "namespace") i e.0) (terms j others rest)))) (namespaces_read es h.1 j rest))

pub libraries_read : (es : List (List ℕ × Text)) → AllByRecursion IsEntry es → (i : ℕ) (rest : Tokens) → AreDeclarations (terms i (bindings (codes "datatypes") es) rest) (libraries_from i es) rest
unfolding keyword_rows
libraries_read [] h i rest = g.none
libraries_read (e ∷ es) h i rest =
    let j = behind i (binding (codes "datatypes") e.0 e.1) in
    let others = bindings (codes "datatypes") es in
    subst (λ ts. AreDeclarations ts (libraries_from i (e ∷ es)) rest)
    (sym (terms-append i (binding (codes "datatypes") e.0 e.1) others rest ∙ binding_terms (codes "datatypes") e i (terms j others rest)))
    (g.more (g.datatypes (spelled_word_term e.0).is_word (literal_reads h.0.1 (literal_at (codes "datatypes") i e.0) (terms j others rest))) (libraries_read es h.1 j rest))

pub default_free : Free default_line
default_free = sound_free default_sound (space_breaks _) (free_free space_free (sound_free namespace_sound (space_breaks _) (free_free equals_free (ended (literal_sound empty_xml)))))

pub default_reads : (rest : Tokens) → IsDeclaration (terms 0 default_line rest) (s.default 0 None (s.literal [])) rest
unfolding keyword_rows symbol_rows
default_reads rest =
    let l = 0 + width (keyword (codes "default")) + width space + width (keyword (codes "namespace")) + width space + width (symbol (codes "=")) + width space in
    subst (λ ts. IsDeclaration (t.keyword k.Default # 0 ∷ t.keyword k.Namespace # (0 + width (keyword (codes "default")) + width space) ∷ t.assign m.Plain # (0 + width (keyword (codes "default")) + width space + width (keyword (codes "namespace")) + width space) ∷ ts) (s.default 0 None (s.literal [])) rest)
    (sym (ended_terms l (literal []) rest)) (g.default (g.literal (literal_reads empty_xml l rest)))

pub declarations_then : {ts mid rest : Tokens} {ds es : List Declaration} → AreDeclarations ts ds mid → AreDeclarations mid es rest → AreDeclarations ts (ds ++ es) rest
declarations_then g.none k = k
declarations_then (g.more d h) k = g.more d (declarations_then h k)

-- ---- start and definitions

module _ (f : Prefixes) (ds : List Declaration) (no_default : default_of [] ds ≡ []) where
  abbrev pub Printable : Tree → Type 0
  Printable = IsPrintable (Bound f ds) (Bound f ds) (Library f ds)

  -- no fault stands in the items
  abbrev pub CleanItems : List Item → Type 0
  CleanItems xs =
      (items_places (class_places ds) (unbound_type ds) (λ i p. []) (inherit_places ds) (items_of xs) ≡ [])
      × (items_places (λ c. []) (wrong_builtin ds) (λ i p. []) (λ h. []) (items_of xs) ≡ [])
      × (items_places (λ c. []) (context_value ds) (λ i p. []) (λ h. []) (items_of xs) ≡ [])
      × (items_places (λ c. []) (λ v d ps. []) (λ i p. place_if (not (is_allowed p)) i) (λ h. []) (items_of xs) ≡ [])

  abbrev pub opened_component : Text × Tree → Component
  opened_component d = record { key = name_key d.0; method = m.Plain; body = opened d.1 }

  pub record ItemsFit (cs : List Component) (xs : List Item) : Type 0 where
    pub components : all_components (λ wanted inherited. []) [] ds (items_of xs) ≡ cs
    pub clean : CleanItems xs
    pub no_includes : includes (items_of xs) ≡ []

  abbrev pub IsDefinition : Text × Tree → Type 0
  IsDefinition d = IsName d.0 × Printable d.1

  pub definitions_free : (es : List (Text × Tree)) → AllByRecursion IsDefinition es → Free (definition_lines f es)
  definitions_free [] h = no_pieces
  definitions_free (e ∷ es) h = free_free (sound_free (identifier_sound h.0.0) (space_breaks _) (free_free equals_free (ended (tree_reads f ds no_default h.0.1).sound))) (definitions_free es h.1)

  pub definitions_read : (es : List (Text × Tree)) → AllByRecursion IsDefinition es → (i : ℕ) → (xs : List Item) × AreItems (terms i (definition_lines f es) []) xs [] × ItemsFit (map opened_component es) xs
  unfolding symbol_rows
  definitions_read [] h i = ([], g.none, record { components = refl; clean = (refl, refl, refl, refl); no_includes = refl })
  definitions_read (e ∷ es) h i =
      let line = definition_line f (identifier (chars e.0)) e.1 in
      let pieces = (written_tree f e.1).pieces in
      let j = behind i line in
      let others = definitions_read es h.1 j in
      let more = terms j (definition_lines f es) [] in
      let l = i + width (identifier (chars e.0)) + width space + width (symbol (codes "=")) + width space in
      let a = (tree_reads f ds no_default h.0.1).as_pattern l more in
      let x = s.define e.0 m.Plain a.0 in (
        x ∷ others.0,
        subst (λ ts. AreItems ts (x ∷ others.0) []) (sym (terms-append i line (definition_lines f es) []
            ∙ identifier_term h.0.0 i (t.assign m.Plain # (i + width (identifier (chars e.0)) + width space) ∷ terms l (pieces ++ line_end ∷ []) more)
            ∙ ap (λ ts. t.ident e.0 # i ∷ t.assign m.Plain # (i + width (identifier (chars e.0)) + width space) ∷ ts) (ended_terms l pieces more)))
            (g.component g.bare (g.define a.1) others.1),
        record {
          components = λ k. record { key = name_key e.0; method = m.Plain; body = a.2.resolves k } ∷ others.2.components k;
          clean = (both_nil _ _ a.2.clean.0 others.2.clean.0, both_nil _ _ a.2.clean.1 others.2.clean.1, both_nil _ _ a.2.clean.2 others.2.clean.2, both_nil _ _ a.2.clean.3 others.2.clean.3);
          no_includes = others.2.no_includes;
        },
      )

  pub start_free : {p : Tree} → Printable p → Free (definition_line f (keyword (codes "start")) p)
  start_free h = sound_free start_sound (space_breaks _) (free_free equals_free (ended (tree_reads f ds no_default h).sound))

  -- the start and the definitions
  pub grammar_reads : (p : Tree) (es : List (Text × Tree)) → Printable p → AllByRecursion IsDefinition es → (i : ℕ)
      → (xs : List Item) × AreItems (terms i (definition_line f (keyword (codes "start")) p ++ definition_lines f es) []) xs [] × ItemsFit (record { key = start_key; method = m.Plain; body = opened p } ∷ map opened_component es) xs
  unfolding symbol_rows keyword_rows
  grammar_reads p es h hs i =
      let line = definition_line f (keyword (codes "start")) p in
      let pieces = (written_tree f p).pieces in
      let j = behind i line in
      let others = definitions_read es hs j in
      let more = terms j (definition_lines f es) [] in
      let l = i + width (keyword (codes "start")) + width space + width (symbol (codes "=")) + width space in
      let a = (tree_reads f ds no_default h).as_pattern l more in
      let x = s.start m.Plain a.0 in (
        x ∷ others.0,
        subst (λ ts. AreItems ts (x ∷ others.0) []) (sym (terms-append i line (definition_lines f es) []
            ∙ ap (λ ts. t.keyword k.Start # i ∷ t.assign m.Plain # (i + width (keyword (codes "start")) + width space) ∷ ts) (ended_terms l pieces more)))
            (g.component g.bare (g.start a.1) others.1),
        record {
          components = λ k. record { key = start_key; method = m.Plain; body = a.2.resolves k } ∷ others.2.components k;
          clean = (both_nil _ _ a.2.clean.0 others.2.clean.0, both_nil _ _ a.2.clean.1 others.2.clean.1, both_nil _ _ a.2.clean.2 others.2.clean.2, both_nil _ _ a.2.clean.3 others.2.clean.3);
          no_includes = others.2.no_includes;
        },
      )
