-- The prefixes of a renamed grammar stand for the renamed URIs, and each is spelled as the grammar's own.
use Rattle.std.proofs.Common.{◌≡◌, ◌+◌, Bool, false, not, ◌&&◌, cond, List, [], ◌∷◌, ◌++◌, map, filter, refl, sym, ap, ◌∙◌}
use Rattle.std.specs.Prelude.{bytes_eq, codes, decimal}
use Rattle.std.specs.Str.{chars}
use Rattle.std.specs.List.{AllByRecursion}
use Rattle.rn_text.specs.Texts.{Text, text_cmp}
use Rattle.rn_pattern.specs.Matching.{Grammar}
use Rattle.rn_pattern.specs.Canonical.{sorted_once}
use Rattle.rn_pattern.proofs.Ordered.Ascending.{each_sorted_once}
use Rattle.rn_syntax.specs.Places.{xml_uri, xsd_uri}
use Rattle.rn_assemble.specs.Renamed.{renamed_grammar, IsOfKnownUris, IsRenaming}
use Rattle.rn_simplify.specs.Spelling.{Prefixes, keyword, word, prefixed_piece, place, namespace_prefix, library_prefix, type_piece, name_piece, prefixes, grammar_namespaces, grammar_libraries}
use Rattle.rn_simplify.proofs.ReadBack.OrderedTexts.{filter_only}
use Rattle.rn_simplify.proofs.Renaming.MappedLists.{sorted_once-mapped}
use Rattle.rn_assemble.proofs.Renaming.MappedTests.{filter-mapped}
use Rattle.rn_assemble.proofs.Renaming.KnownTexts.{both_alike, is_empty, is_xml, is_xsd}
use Rattle.rn_simplify.proofs.Renaming.RenamedMentions.{namespaces_renamed, libraries_renamed, namespaces_known, libraries_known}

abbrev pub renamed_prefixes : (Text → Text) → Prefixes → Prefixes
renamed_prefixes named f = record { namespaces = map named f.namespaces; libraries = map named f.libraries }

pub record HasKnownTexts (Known : Text → Type 0) (f : Prefixes) : Type 0 where
  pub namespaces : AllByRecursion Known f.namespaces
  pub libraries : AllByRecursion Known f.libraries

-- a URI that gets a prefix, and a library
abbrev is_bound : Text → Bool
is_bound u = not (bytes_eq u []) && not (bytes_eq u xml_uri)

abbrev is_bound_library : Text → Bool
is_bound_library l = not (bytes_eq l []) && not (bytes_eq l xsd_uri)

pub prefixes_known : (Known : Text → Type 0) (N : Grammar) → IsOfKnownUris Known N → HasKnownTexts Known (prefixes N)
prefixes_known Known N k =
    let us : List Text = grammar_namespaces false N in
    let ls : List Text = grammar_libraries N in
    record {
      namespaces = filter_only Known is_bound (sorted_once text_cmp us)
          (each_sorted_once Known text_cmp us (namespaces_known Known false N k));
      libraries = filter_only Known is_bound_library (sorted_once text_cmp ls)
          (each_sorted_once Known text_cmp ls (libraries_known Known N k));
    }

-- which of the two pieces it is depends on whether the text is empty
type_piece_by : (f : Prefixes) (l x : Text)
    → type_piece f l x ≡ cond (bytes_eq l []) (keyword (chars x)) (prefixed_piece (library_prefix f l) (chars x))
type_piece_by f [] x = refl
type_piece_by f (c ∷ l) x = refl

name_piece_by : (f : Prefixes) (u l : Text)
    → name_piece f u l ≡ cond (bytes_eq u []) (word (chars l)) (prefixed_piece (namespace_prefix f u) (chars l))
name_piece_by f [] l = refl
name_piece_by f (c ∷ u) l = refl

module _ {named : Text → Text} {Known : Text → Type 0} (r : IsRenaming named Known) where
  pub sorted_renamed : (us : List Text) → AllByRecursion Known us
      → sorted_once text_cmp (map named us) ≡ map named (sorted_once text_cmp us)
  sorted_renamed = sorted_once-mapped text_cmp named Known r.in_order

  -- of known texts in order, those that pass
  kept_renamed : (t : Text → Bool) (same : (u : Text) → Known u → t (named u) ≡ t u) (us vs : List Text)
      → AllByRecursion Known us → vs ≡ map named us
      → filter t (sorted_once text_cmp vs) ≡ map named (filter t (sorted_once text_cmp us))
  kept_renamed t same us vs a e =
      (λ i. filter t (sorted_once text_cmp (e i))) ∙ ap (filter t) (sorted_renamed us a)
      ∙ filter-mapped named t t Known same (sorted_once text_cmp us) (each_sorted_once Known text_cmp us a)

  pub prefixes_renamed : (N : Grammar) → IsOfKnownUris Known N
      → prefixes (renamed_grammar named N) ≡ renamed_prefixes named (prefixes N)
  prefixes_renamed N k =
      let us = kept_renamed is_bound (λ u h i. not (is_empty r u h i) && not (is_xml r u h i)) (grammar_namespaces false N)
      (grammar_namespaces false (renamed_grammar named N)) (namespaces_known Known false N k)
      (namespaces_renamed named false N) in
      let ls = kept_renamed is_bound_library (λ l h i. not (is_empty r l h i) && not (is_xsd r l h i)) (grammar_libraries N)
      (grammar_libraries (renamed_grammar named N)) (libraries_known Known N k) (libraries_renamed named N) in
      λ i. record { namespaces = us i; libraries = ls i }

  pub place_renamed : (u : Text) (vs : List Text) → Known u → AllByRecursion Known vs
      → place (named u) (map named vs) ≡ place u vs
  place_renamed u [] h a = refl
  place_renamed u (v ∷ vs) h a = λ i. cond (both_alike r u v h a.0 i) 1 (place_renamed u vs h a.1 i + 1)

  module _ (f : Prefixes) (k : HasKnownTexts Known f) where
    pub namespace_prefix_renamed : (u : Text) → Known u
        → namespace_prefix (renamed_prefixes named f) (named u) ≡ namespace_prefix f u
    namespace_prefix_renamed u h =
        λ i. cond (is_empty r u h i) (codes "n0")
        (cond (is_xml r u h i) (codes "xml") (codes "n" ++ decimal (place_renamed u f.namespaces h k.namespaces i)))

    pub library_prefix_renamed : (l : Text) → Known l
        → library_prefix (renamed_prefixes named f) (named l) ≡ library_prefix f l
    library_prefix_renamed l h =
        λ i. cond (is_xsd r l h i) (codes "xsd") (codes "d" ++ decimal (place_renamed l f.libraries h k.libraries i))

    pub type_piece_renamed : (l x : Text) → Known l → type_piece (renamed_prefixes named f) (named l) x ≡ type_piece f l x
    type_piece_renamed l x h =
        type_piece_by (renamed_prefixes named f) (named l) x
        ∙ (λ i. cond (is_empty r l h i) (keyword (chars x)) (prefixed_piece (library_prefix_renamed l h i) (chars x)))
        ∙ sym (type_piece_by f l x)

    pub name_piece_renamed : (u l : Text) → Known u → name_piece (renamed_prefixes named f) (named u) l ≡ name_piece f u l
    name_piece_renamed u l h =
        name_piece_by (renamed_prefixes named f) (named u) l
        ∙ (λ i. cond (is_empty r u h i) (word (chars l)) (prefixed_piece (namespace_prefix_renamed u h i) (chars l)))
        ∙ sym (name_piece_by f u l)
