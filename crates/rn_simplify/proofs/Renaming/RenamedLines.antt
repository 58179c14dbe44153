-- The spelling of a renamed grammar is that of the grammar, but for what its prefixes are bound to.
use Rattle.std.proofs.Common.{◌≡◌, ℕ, Bool, true, false, List, [], ◌∷◌, ◌++◌, map, refl, sym, ap, ◌∙◌}
use Rattle.std.specs.Prelude.{codes}
use Rattle.std.specs.Str.{chars}
use Rattle.std.specs.List.{AllByRecursion}
use Rattle.rn_text.specs.Texts.{Text}
use Rattle.rn_text.specs.Parts.{Piece}
use Rattle.rn_pattern.specs.Tree.{Tree}
use Rattle.rn_pattern.specs.Matching.{Grammar}
use Rattle.rn_assemble.specs.Renamed.{renamed_tree, renamed_definition, renamed_grammar, HasKnownUris, IsOfKnownUris, IsRenaming}
use Rattle.rn_simplify.proofs.Renaming.RenamedEntries.{renamed_entries}
use Rattle.rn_simplify.specs.Spelling.{Prefixes, keyword, identifier, infix_of, line_end, namespace_prefix, library_prefix, prefixes, has_empty_ns_name, default_line, definition_line, namespace_entries, library_entries, bindings, definition_lines, spelling_pieces, empty_entries, own_entries}
use Rattle.rn_simplify.proofs.Renaming.MappedLists.{map_joined}
use Rattle.rn_simplify.proofs.Renaming.RenamedMentions.{empty_ns_name_renamed}
use Rattle.rn_simplify.proofs.Renaming.RenamedPrefixes.{renamed_prefixes, HasKnownTexts, prefixes_known, prefixes_renamed, namespace_prefix_renamed, library_prefix_renamed}
use Rattle.rn_simplify.proofs.Renaming.WrittenPatterns.{written_tree_renamed}

pub empty_entry_renamed : (named : Text → Text) → named [] ≡ [] → (has_empty : Bool) → renamed_entries named (empty_entries has_empty) ≡ empty_entries has_empty
empty_entry_renamed named e true = ap (λ (u : Text). (codes "n0", u) ∷ []) e
empty_entry_renamed named e false = refl

module _ {named : Text → Text} {Known : Text → Type 0} (r : IsRenaming named Known) where
  module _ (f : Prefixes) (k : HasKnownTexts Known f) where
    pub definition_line_renamed : (x : Piece) (p : Tree) → HasKnownUris Known p
        → definition_line (renamed_prefixes named f) x (renamed_tree named p) ≡ definition_line f x p
    definition_line_renamed x p h =
        λ i. x ∷ (infix_of (codes "=") ++ ((written_tree_renamed r f k p h i).pieces ++ line_end ∷ []))

    pub definition_lines_renamed : (ds : List (Text × Tree))
        → AllByRecursion (λ (d : Text × Tree). HasKnownUris Known d.1) ds
        → definition_lines (renamed_prefixes named f) (map (renamed_definition named) ds) ≡ definition_lines f ds
    definition_lines_renamed [] a = refl
    definition_lines_renamed (d ∷ ds) a =
        λ i. definition_line_renamed (identifier (chars d.0)) d.1 a.0 i ++ definition_lines_renamed ds a.1 i

  entries_renamed : (old new : Text → List ℕ) → ((u : Text) → Known u → new (named u) ≡ old u)
      → (us : List Text) → AllByRecursion Known us
      → own_entries new (map named us) ≡ renamed_entries named (own_entries old us)
  entries_renamed old new same [] a = refl
  entries_renamed old new same (u ∷ us) a =
      λ i. (same u a.0 i, named u) ∷ entries_renamed old new same us a.1 i

  module _ (N : Grammar) (k : IsOfKnownUris Known N) where
    -- the prefixes, and that their texts are known
    abbrev f : Prefixes
    f = prefixes N

    known : HasKnownTexts Known f
    known = prefixes_known Known N k

    pub namespace_entries_renamed :
        namespace_entries (renamed_grammar named N) ≡ renamed_entries named (namespace_entries N)
    namespace_entries_renamed =
        (λ i. empty_entries (empty_ns_name_renamed r N k i)
        ++ own_entries (namespace_prefix (prefixes_renamed r N k i)) (prefixes_renamed r N k i).namespaces)
        ∙ map_joined (λ (e : List ℕ × Text). (e.0, named e.1)) (empty_entries (has_empty_ns_name N))
        (own_entries (namespace_prefix f) f.namespaces)
        (sym (empty_entry_renamed named r.none (has_empty_ns_name N)))
        (entries_renamed (namespace_prefix f) (namespace_prefix (renamed_prefixes named f))
        (namespace_prefix_renamed r f known) f.namespaces known.namespaces)

    pub library_entries_renamed : library_entries (renamed_grammar named N) ≡ renamed_entries named (library_entries N)
    library_entries_renamed =
        (λ i. own_entries (library_prefix (prefixes_renamed r N k i)) (prefixes_renamed r N k i).libraries)
        ∙ entries_renamed (library_prefix f) (library_prefix (renamed_prefixes named f))
        (library_prefix_renamed r f known) f.libraries known.libraries

    start_line_renamed :
        definition_line (prefixes (renamed_grammar named N)) (keyword (codes "start")) (renamed_tree named N.start)
        ≡ definition_line f (keyword (codes "start")) N.start
    start_line_renamed =
        (λ i. definition_line (prefixes_renamed r N k i) (keyword (codes "start")) (renamed_tree named N.start))
        ∙ definition_line_renamed f known (keyword (codes "start")) N.start k.start

    other_lines_renamed :
        definition_lines (prefixes (renamed_grammar named N)) (map (renamed_definition named) N.definitions)
        ≡ definition_lines f N.definitions
    other_lines_renamed =
        (λ i. definition_lines (prefixes_renamed r N k i) (map (renamed_definition named) N.definitions))
        ∙ definition_lines_renamed f known N.definitions k.definitions

    pub spelling_renamed : spelling_pieces (renamed_grammar named N)
        ≡ default_line
        ++ (bindings (codes "namespace") (renamed_entries named (namespace_entries N))
        ++ (bindings (codes "datatypes") (renamed_entries named (library_entries N))
        ++ (definition_line (prefixes N) (keyword (codes "start")) N.start
        ++ definition_lines (prefixes N) N.definitions)))
    spelling_renamed =
        λ i. default_line
        ++ (bindings (codes "namespace") (namespace_entries_renamed i)
        ++ (bindings (codes "datatypes") (library_entries_renamed i)
        ++ (start_line_renamed i
        ++ other_lines_renamed i)))
