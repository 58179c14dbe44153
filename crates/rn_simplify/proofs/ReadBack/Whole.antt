-- The text of a grammar is read back, where its declarations bind what it mentions.
use Rattle.std.proofs.Common.{◌≡◌, true, List, [], ◌∷◌, ◌++◌, refl, sym, ap, ◌∙◌, subst, map, append-nil}
use Rattle.std.specs.Prelude.{codes, None}
use Rattle.std.specs.List.{AllByRecursion}
use Rattle.std.specs.Str.{chars}
use Rattle.std.proofs.lemmas.Str.{chars-encodes}
use Rattle.rn_text.specs.Characters.{is_keyword, keywords}
use Rattle.rn_text.specs.Parts.{IsCut, text_of}
use Rattle.rn_text.specs.Tokens.{HasTokens, lexemes}
use Rattle.rn_text.proofs.Cutting.SoundPieces.{Free, free_free, keyword_sound}
use Rattle.rn_pattern.specs.Tree.{Tree}
use Rattle.rn_text.specs.Texts.{Text}
use Rattle.rn_pattern.specs.Matching.{Grammar}
use Rattle.rn_pattern.specs.Opened.{opened, opened_grammar}
use Rattle.rn_syntax.specs.Tree as s
use Rattle.rn_syntax.specs.Tree.{Declaration, Module, items_of}
use Rattle.rn_syntax.specs.Grammar as g
use Rattle.rn_syntax.specs.Grammar.{IsModule}
use Rattle.rn_syntax.specs.Places.{declarations_places}
use Rattle.rn_text.proofs.TokenLists.CutLexemes.{xml_scalars}
use Rattle.rn_syntax.proofs.TokenKinds.PieceTokens.{terms, behind, terms-append, terms-are}
use Rattle.rn_syntax.proofs.Lists.EmptyLists.{both_nil}
use Rattle.rn_assemble.specs.Combine.{joined_grammar, plain_start, plain_definition, components_of, AreDistinct}
use Rattle.rn_assemble.specs.Resolve.{default_of}
use Rattle.rn_simplify.specs.Spelling.{keyword, Prefixes, prefixes, namespace_entries, library_entries, bindings, default_line, definition_line, definition_lines, spelling_pieces, spelling}
use Rattle.rn_simplify.specs.ReadBack.{IsReadBack}
use Rattle.rn_simplify.proofs.ReadBack.Lines.{IsEntry, namespaces_from, libraries_from, bindings_free, namespaces_read, libraries_read, default_free, default_reads, declarations_then, Printable, IsDefinition, opened_component, definitions_free, start_free, grammar_reads}
use Rattle.rn_assemble.proofs.Combined.PlainComponents.{joined_is, mapped_distinct}
use Rattle.rn_assemble.specs.Components.{module_components}

-- the declarations that are read
abbrev pub declarations_of : Grammar → List Declaration
declarations_of n =
    let i = behind 0 default_line in
    let j = behind i (bindings (codes "namespace") (namespace_entries n)) in
    s.default 0 None (s.literal []) ∷ (namespaces_from i (namespace_entries n) ++ libraries_from j (library_entries n))

-- what the text rests on
pub record IsDeclared (n : Grammar) : Type 0 where
  pub namespaces : AllByRecursion IsEntry (namespace_entries n)
  pub libraries : AllByRecursion IsEntry (library_entries n)
  pub clean : declarations_places [] (declarations_of n) ≡ []
  pub start : Printable (prefixes n) (declarations_of n) refl n.start
  pub definitions : AllByRecursion (IsDefinition (prefixes n) (declarations_of n) refl) n.definitions
  pub distinct : AreDistinct n.definitions

components_are : (f : Prefixes) (ds : List Declaration) (e₀ : default_of [] ds ≡ []) (es : List (Text × Tree)) → map (opened_component f ds e₀) es ≡ map plain_definition (map (λ e. (e.0, opened e.1)) es)
components_are f ds e₀ [] = refl
components_are f ds e₀ (e ∷ es) = ap (λ l. plain_definition (e.0, opened e.1) ∷ l) (components_are f ds e₀ es)

namespace_keyword : is_keyword (codes "namespace") ≡ true
unfolding is_keyword keywords
namespace_keyword = refl

datatypes_keyword : is_keyword (codes "datatypes") ≡ true
unfolding is_keyword keywords
datatypes_keyword = refl

spelled_free : (n : Grammar) → IsDeclared n → Free (spelling_pieces n)
spelled_free n h =
    free_free default_free (free_free (bindings_free (codes "namespace") (namespace_entries n) (keyword_sound _ namespace_keyword) h.namespaces)
    (free_free (bindings_free (codes "datatypes") (library_entries n) (keyword_sound _ datatypes_keyword) h.libraries)
    (free_free (start_free (prefixes n) (declarations_of n) refl h.start) (definitions_free (prefixes n) (declarations_of n) refl n.definitions h.definitions))))

-- the tokens of the text are those of its pieces
pub spelled_tokens : (n : Grammar) → IsDeclared n → HasTokens (chars (spelling n)) (lexemes 0 (spelling_pieces n))
spelled_tokens n h =
    let free = spelled_free n h in
    let text : chars (spelling n) ≡ text_of (spelling_pieces n) = chars-encodes (text_of (spelling_pieces n)) (xml_scalars (text_of (spelling_pieces n)) free.xml) in
    subst (λ cs. HasTokens cs (lexemes 0 (spelling_pieces n))) (sym text) (record { xml = free.xml; pieces = spelling_pieces n; cut = subst (λ t. IsCut t (spelling_pieces n) []) (append-nil (text_of (spelling_pieces n))) (free.before []); are = refl })

pub is_read_back : (n : Grammar) → IsDeclared n → IsReadBack n
is_read_back n h =
    let f = prefixes n in
    let ds = declarations_of n in
    let free = spelled_free n h in
    let i = behind 0 default_line in
    let j = behind i (bindings (codes "namespace") (namespace_entries n)) in
    let k = behind j (bindings (codes "datatypes") (library_entries n)) in
    let body = definition_line f (keyword (codes "start")) n.start ++ definition_lines f n.definitions in
    let items = grammar_reads f ds refl n.start n.definitions h.start h.definitions k in
    let rest = terms k body [] in
    let lines : terms 0 (spelling_pieces n) [] ≡ terms 0 default_line (terms i (bindings (codes "namespace") (namespace_entries n)) (terms j (bindings (codes "datatypes") (library_entries n)) rest)) =
    terms-append 0 default_line (bindings (codes "namespace") (namespace_entries n) ++ (bindings (codes "datatypes") (library_entries n) ++ body)) []
    ∙ ap (terms 0 default_line) (terms-append i (bindings (codes "namespace") (namespace_entries n)) (bindings (codes "datatypes") (library_entries n) ++ body) []
    ∙ ap (terms i (bindings (codes "namespace") (namespace_entries n))) (terms-append j (bindings (codes "datatypes") (library_entries n)) body [])) in
    let m : Module = record { declarations = ds; items = items_of items.0 } in
    let parsed : IsModule (terms 0 (spelling_pieces n) []) m =
    subst (λ ts. IsModule ts m) (sym lines)
    (g.items (g.more (default_reads _) (declarations_then (namespaces_read (namespace_entries n) h.namespaces i _) (libraries_read (library_entries n) h.libraries j rest))) items.1) in
    let components : module_components (λ wanted inherited. []) [] m ≡ components_of (opened_grammar n) = items.2.components ∙ ap (λ l. plain_start (opened n.start) ∷ l) (components_are f ds refl n.definitions) in
    record {
      utf8 = (text_of (spelling_pieces n), (xml_scalars (text_of (spelling_pieces n)) free.xml, refl));
      tokens = lexemes 0 (spelling_pieces n);
      has_tokens = spelled_tokens n h;
      tree = m;
      has_tree = subst (λ ts. IsModule ts m) (terms-are 0 (spelling_pieces n) free.xml) parsed;
      no_prefix = both_nil _ _ h.clean items.2.clean.0;
      no_builtin = items.2.clean.1;
      no_context = items.2.clean.2;
      no_except = items.2.clean.3;
      no_includes = items.2.no_includes;
      components = components;
      same = ap joined_grammar components ∙ joined_is (opened_grammar n) (mapped_distinct opened n.definitions h.distinct);
    }
