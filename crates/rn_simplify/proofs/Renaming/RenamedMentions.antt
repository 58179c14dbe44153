-- What a renamed grammar mentions: what the grammar mentions, renamed; and all of it is known.
use Rattle.std.proofs.Common.{◌≡◌, Bool, true, false, cond, List, [], ◌∷◌, map, refl, ◌∙◌}
use Rattle.std.specs.Prelude.{bytes_eq, flat_map}
use Rattle.std.specs.List.{AllByRecursion, list_any}
use Rattle.rn_text.specs.Texts.{Text}
use Rattle.rn_pattern.specs.Tree.{NameTree, NameTrees, any_name, any_name_but, ns_name, ns_name_but, name, name_choice, no_names, more_names, Tree, Trees, not_allowed, empty, text, ref, value, datum, datum_but, list, attribute, element, one_or_more, group, interleave, choice, no_trees, more_trees}
use Rattle.rn_pattern.specs.Matching.{Grammar}
use Rattle.rn_pattern.proofs.Ordered.Ascending.{each_append, each_flat}
use Rattle.rn_assemble.specs.Renamed.{renamed_class, renamed_classes, renamed_tree, renamed_trees, renamed_definition, renamed_grammar, HasKnownNames, HaveKnownNames, HasKnownUris, HaveKnownUris, IsOfKnownUris, IsRenaming}
use Rattle.rn_simplify.specs.Spelling.{name_uris, names_uris, mentions, mentions_all, grammar_mentions, has_empty_ns_name, grammar_namespaces, grammar_libraries}
use Rattle.rn_assemble.proofs.Renaming.MappedTests.{list_any-mapped}
use Rattle.rn_simplify.proofs.Renaming.MappedLists.{map_joined}
use Rattle.rn_assemble.proofs.Renaming.KnownTexts.{alike_eq}

-- ---- of a name class

module _ (named : Text → Text) (ns_only : Bool) where
  name_mention : (b : Bool) (u : Text) → cond b [] (named u ∷ []) ≡ map named (cond b [] (u ∷ []))
  name_mention true u = refl
  name_mention false u = refl

  mutual
    pub name_uris_renamed : (n : NameTree) → name_uris ns_only (renamed_class named n) ≡ map named (name_uris ns_only n)
    name_uris_renamed any_name = refl
    name_uris_renamed (any_name_but n) = name_uris_renamed n
    name_uris_renamed (ns_name u) = refl
    name_uris_renamed (ns_name_but u n) = λ i. named u ∷ name_uris_renamed n i
    name_uris_renamed (name u l) = name_mention ns_only u
    name_uris_renamed (name_choice ns) = names_uris_renamed ns

    names_uris_renamed : (ns : NameTrees)
        → names_uris ns_only (renamed_classes named ns) ≡ map named (names_uris ns_only ns)
    names_uris_renamed no_names = refl
    names_uris_renamed (more_names n ns) =
        map_joined named (name_uris ns_only n) (names_uris ns_only ns) (name_uris_renamed n) (names_uris_renamed ns)

module _ (Known : Text → Type 0) (ns_only : Bool) where
  name_known : (b : Bool) (u : Text) → Known u → AllByRecursion Known (cond b [] (u ∷ []))
  name_known true u h = tt
  name_known false u h = (h, tt)

  mutual
    pub name_uris_known : (n : NameTree) → HasKnownNames Known n → AllByRecursion Known (name_uris ns_only n)
    name_uris_known any_name h = tt
    name_uris_known (any_name_but n) h = name_uris_known n h
    name_uris_known (ns_name u) h = (h, tt)
    name_uris_known (ns_name_but u n) h = (h.0, name_uris_known n h.1)
    name_uris_known (name u l) h = name_known ns_only u h
    name_uris_known (name_choice ns) h = names_uris_known ns h

    names_uris_known : (ns : NameTrees) → HaveKnownNames Known ns → AllByRecursion Known (names_uris ns_only ns)
    names_uris_known no_names h = tt
    names_uris_known (more_names n ns) h =
        each_append Known (name_uris ns_only n) (names_uris ns_only ns) (name_uris_known n h.0) (names_uris_known ns h.1)

-- ---- of a pattern and a grammar

module _ (named : Text → Text) (of_name : NameTree → List Text) (of_library : Text → List Text)
    (on_name : (n : NameTree) → of_name (renamed_class named n) ≡ map named (of_name n))
    (on_library : (l : Text) → of_library (named l) ≡ map named (of_library l)) where
  mutual
    mentions_renamed : (p : Tree)
        → mentions of_name of_library (renamed_tree named p) ≡ map named (mentions of_name of_library p)
    mentions_renamed not_allowed = refl
    mentions_renamed empty = refl
    mentions_renamed text = refl
    mentions_renamed (ref x) = refl
    mentions_renamed (value l x s) = on_library l
    mentions_renamed (datum l x ps) = on_library l
    mentions_renamed (datum_but l x ps p) =
        map_joined named (of_library l) (mentions of_name of_library p) (on_library l) (mentions_renamed p)
    mentions_renamed (list p) = mentions_renamed p
    mentions_renamed (attribute n p) =
        map_joined named (of_name n) (mentions of_name of_library p) (on_name n) (mentions_renamed p)
    mentions_renamed (element n p) =
        map_joined named (of_name n) (mentions of_name of_library p) (on_name n) (mentions_renamed p)
    mentions_renamed (one_or_more p) = mentions_renamed p
    mentions_renamed (group ps) = all_mentions_renamed ps
    mentions_renamed (interleave ps) = all_mentions_renamed ps
    mentions_renamed (choice ps) = all_mentions_renamed ps

    all_mentions_renamed : (ps : Trees)
        → mentions_all of_name of_library (renamed_trees named ps) ≡ map named (mentions_all of_name of_library ps)
    all_mentions_renamed no_trees = refl
    all_mentions_renamed (more_trees p ps) =
        map_joined named (mentions of_name of_library p) (mentions_all of_name of_library ps)
        (mentions_renamed p) (all_mentions_renamed ps)

  abbrev of_definitions : List (Text × Tree) → List Text
  of_definitions ds = flat_map (λ (d : Text × Tree). mentions of_name of_library d.1) ds

  definitions_renamed : (ds : List (Text × Tree))
      → of_definitions (map (renamed_definition named) ds) ≡ map named (of_definitions ds)
  definitions_renamed [] = refl
  definitions_renamed (d ∷ ds) =
      map_joined named (mentions of_name of_library d.1) (of_definitions ds)
      (mentions_renamed d.1) (definitions_renamed ds)

  pub grammar_mentions_renamed : (N : Grammar)
      → grammar_mentions of_name of_library (renamed_grammar named N) ≡ map named (grammar_mentions of_name of_library N)
  grammar_mentions_renamed N =
      map_joined named (mentions of_name of_library N.start) (of_definitions N.definitions)
      (mentions_renamed N.start) (definitions_renamed N.definitions)

module _ (Known : Text → Type 0) (of_name : NameTree → List Text) (of_library : Text → List Text)
    (names : (n : NameTree) → HasKnownNames Known n → AllByRecursion Known (of_name n))
    (libraries : (l : Text) → Known l → AllByRecursion Known (of_library l)) where
  mutual
    mentions_known : (p : Tree) → HasKnownUris Known p → AllByRecursion Known (mentions of_name of_library p)
    mentions_known not_allowed h = tt
    mentions_known empty h = tt
    mentions_known text h = tt
    mentions_known (ref x) h = tt
    mentions_known (value l x s) h = libraries l h
    mentions_known (datum l x ps) h = libraries l h
    mentions_known (datum_but l x ps p) h =
        each_append Known (of_library l) (mentions of_name of_library p) (libraries l h.0) (mentions_known p h.1)
    mentions_known (list p) h = mentions_known p h
    mentions_known (attribute n p) h =
        each_append Known (of_name n) (mentions of_name of_library p) (names n h.0) (mentions_known p h.1)
    mentions_known (element n p) h =
        each_append Known (of_name n) (mentions of_name of_library p) (names n h.0) (mentions_known p h.1)
    mentions_known (one_or_more p) h = mentions_known p h
    mentions_known (group ps) h = all_mentions_known ps h
    mentions_known (interleave ps) h = all_mentions_known ps h
    mentions_known (choice ps) h = all_mentions_known ps h

    all_mentions_known : (ps : Trees) → HaveKnownUris Known ps
        → AllByRecursion Known (mentions_all of_name of_library ps)
    all_mentions_known no_trees h = tt
    all_mentions_known (more_trees p ps) h =
        each_append Known (mentions of_name of_library p) (mentions_all of_name of_library ps)
        (mentions_known p h.0) (all_mentions_known ps h.1)

  pub grammar_mentions_known : (N : Grammar) → IsOfKnownUris Known N
      → AllByRecursion Known (grammar_mentions of_name of_library N)
  grammar_mentions_known N k =
      let of_definition = λ (d : Text × Tree). mentions of_name of_library d.1 in
      each_append Known (mentions of_name of_library N.start) (flat_map of_definition N.definitions)
      (mentions_known N.start k.start)
      (each_flat Known (λ (d : Text × Tree). HasKnownUris Known d.1) of_definition (λ d h. mentions_known d.1 h)
      N.definitions k.definitions)

-- ---- the namespaces, and the libraries

pub namespaces_renamed : (named : Text → Text) (ns_only : Bool) (N : Grammar)
    → grammar_namespaces ns_only (renamed_grammar named N) ≡ map named (grammar_namespaces ns_only N)
namespaces_renamed named ns_only N =
    grammar_mentions_renamed named (name_uris ns_only) (λ l. []) (name_uris_renamed named ns_only) (λ l. refl) N

pub libraries_renamed : (named : Text → Text) (N : Grammar)
    → grammar_libraries (renamed_grammar named N) ≡ map named (grammar_libraries N)
libraries_renamed named N = grammar_mentions_renamed named (λ n. []) (λ l. l ∷ []) (λ n. refl) (λ l. refl) N

pub namespaces_known : (Known : Text → Type 0) (ns_only : Bool) (N : Grammar) → IsOfKnownUris Known N
    → AllByRecursion Known (grammar_namespaces ns_only N)
namespaces_known Known ns_only N k =
    grammar_mentions_known Known (name_uris ns_only) (λ l. []) (name_uris_known Known ns_only) (λ l h. tt) N k

pub libraries_known : (Known : Text → Type 0) (N : Grammar) → IsOfKnownUris Known N
    → AllByRecursion Known (grammar_libraries N)
libraries_known Known N k = grammar_mentions_known Known (λ n. []) (λ l. l ∷ []) (λ n h. tt) (λ l h. (h, tt)) N k

pub empty_ns_name_renamed : {named : Text → Text} {Known : Text → Type 0} → IsRenaming named Known
    → (N : Grammar) → IsOfKnownUris Known N → has_empty_ns_name (renamed_grammar named N) ≡ has_empty_ns_name N
empty_ns_name_renamed {named} {Known} r N k =
    (λ i. list_any (bytes_eq []) (namespaces_renamed named true N i))
    ∙ list_any-mapped named (bytes_eq []) (bytes_eq []) Known (alike_eq r [] r.knows_none r.none)
    (grammar_namespaces true N) (namespaces_known Known true N k)
