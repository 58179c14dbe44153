-- The printed declarations bind what the grammar mentions, and no fault stands in them.
use Rattle.std.proofs.Common.{◌≡◌, ℕ, ◌<◌, ◌^◌, Bool, true, false, cond, List, [], ◌∷◌, ◌++◌, length, map, flat_map, refl, sym, ap, ◌∙◌, subst, arith, ⊎_elim, ltb}
use Rattle.std.specs.Prelude.{codes, decimal, bytes_eq, not, ◌&&◌, Some, None, is_some}
use Rattle.std.specs.List.{list_any, AllByRecursion}
use Rattle.std.specs.Str.{chars, encode_utf8_all}
use Rattle.std.proofs.lemmas.Bool.{cases_Bool, cond-true, cond-false, and_parts, or_left, or_right, not-true}
use Rattle.std.proofs.lemmas.Fmt.{decimal_digit}
use Rattle.std.proofs.lemmas.Slice.Eq.{bytes_eq-Decides}
use Rattle.rn_text.specs.Characters.{is_ncname, is_name_start, is_name_char}
use Rattle.rn_pattern.specs.Tree.{Tree}
use Rattle.rn_text.specs.Texts.{Text, text_cmp}
use Rattle.rn_pattern.specs.Canonical.{sorted_once}
use Rattle.rn_pattern.specs.Matching.{Grammar}
use Rattle.rn_syntax.specs.Tree as s
use Rattle.rn_syntax.specs.Tree.{Declaration}
use Rattle.rn_syntax.specs.Places.{xml_uri, xsd_uri, declarations_places, declared_namespace, declared_library}
use Rattle.rn_syntax.proofs.TokenKinds.PieceTokens.{ascii, behind}
use Rattle.rn_assemble.specs.Resolve.{declared_text}
use Rattle.std.specs.declared.cmp.Ordering.TheVariants.{Less}
use Rattle.rn_text.specs.Tokens.{HasTokens, lexemes}
use Rattle.rn_simplify.specs.Spelling.{spelling, spelling_pieces, Prefixes, prefixes, place, namespace_prefix, library_prefix, namespace_entries, library_entries, has_empty_ns_name, bindings, default_line, grammar_namespaces, grammar_libraries, is_other}
use Rattle.rn_simplify.specs.Printable.{IsPrintable}
use Rattle.rn_assemble.specs.WritableTexts.{IsXml, IsName, Free}
use Rattle.rn_simplify.specs.Spellable.{IsSpellable}
use Rattle.rn_simplify.specs.ReadBack.{IsReadBack}
use Rattle.rn_simplify.proofs.ReadBack.NeededBindings.{IsBoundTo, IsLibrary}
use Rattle.rn_simplify.proofs.ReadBack.Lines.{IsEntry, empty_xml, libraries_from, IsDefinition}
use Rattle.rn_assemble.proofs.Combined.PlainComponents.{mapped, zipped}
use Rattle.rn_simplify.proofs.ReadBack.Whole.{declarations_of, IsDeclared, is_read_back, spelled_tokens}
use Rattle.rn_simplify.proofs.ReadBack.OrderedTexts.{less_differs, sorted_all, filter_all, sorted_keeps, filter_keeps, pick, AreApart, sorted_apart, filter_apart}
use Rattle.rn_simplify.proofs.ReadBack.DeclaredPrefixes.{Entry, OtherPrefix, HaveOwnPrefixes, found, no_library, found_library, Fresh, FreshLibrary, IsOwnNamespace, IsOwnLibrary, clean_declarations}
use Rattle.rn_simplify.proofs.ReadBack.NumberedPrefixes.{numbered_name, numbered_bytes, numbered_differ, place_bound, place_positive, place_one}
use Rattle.rn_simplify.proofs.ReadBack.MentionedTexts.{Named, Wide, Libraries, Names, tree_bound, all_first, all_second}
use Rattle.rn_simplify.specs.inside.Gathers.{tree_namespaces, tree_libraries}

abbrev In : List Text → Text → Type 0
In us u = list_any (bytes_eq u) us ≡ true

same : (u : Text) → bytes_eq u u ≡ true
same u = (bytes_eq-Decides u u).1 refl

all_in : (us : List Text) → AllByRecursion (In us) us
all_in [] = tt
all_in (u ∷ us) = (or_left (bytes_eq u u) _ (same u), mapped (In us) (In (u ∷ us)) (λ v k. or_right (bytes_eq v u) _ k) us (all_in us))

all_map : (P : Entry → Type 0) (pre : Text → List ℕ) (us : List Text) → AllByRecursion (λ u. P (pre u, u)) us → AllByRecursion P (map (λ u. (pre u, u)) us)
all_map P pre [] a = tt
all_map P pre (u ∷ us) a = (a.0, all_map P pre us a.1)

of_map : (P : Entry → Type 0) (pre : Text → List ℕ) (us : List Text) → AllByRecursion P (map (λ u. (pre u, u)) us) → AllByRecursion (λ u. P (pre u, u)) us
of_map P pre [] a = tt
of_map P pre (u ∷ us) a = (a.0, of_map P pre us a.1)

-- prefixes of a letter and the place in the list
module _ (c : ℕ) (pre : Text → List ℕ) (us : List Text) (start : is_name_start c ≡ true) (low : ltb c 128 ≡ true) (few : length us < 2 ^ 64) where
  abbrev Placed : Text → Type 0
  Placed u = In us u × (pre u ≡ c ∷ decimal (place u us))

  small : (u : Text) → place u us < 2 ^ 64
  small u = omega (arith, place_bound u us, few)

  placed_name : (u : Text) → Placed u → is_ncname (pre u) ≡ true
  placed_name u h = ap is_ncname h.1 ∙ numbered_name c (place u us) start (small u)

  placed_bytes : (u : Text) → Placed u → encode_utf8_all (pre u) ≡ c ∷ decimal (place u us)
  placed_bytes u h = ap encode_utf8_all h.1 ∙ numbered_bytes c (place u us) low (small u)

  placed_differ : (u v : Text) → Placed u → Placed v → text_cmp u v ≡ Less → OtherPrefix (pre u, u) (pre v, v)
  placed_differ u v h k e =
      (λ i. bytes_eq (placed_bytes u h i) (placed_bytes v k i))
      ∙ numbered_differ c (place u us) (place v us) (small u) (small v) (λ p. apart (place_one u v us h.0 k.0 p))
    where
      apart : u ≡ v → ⊥
      apart p = let x : true ≡ false = sym (same v) ∙ ap (λ w. bytes_eq w v) (sym p) ∙ less_differs u v e in cc

  own_map : (vs : List Text) → AreApart vs → AllByRecursion Placed vs → HaveOwnPrefixes (map (λ u. (pre u, u)) vs)
  own_map [] a h = tt
  own_map (v ∷ vs) a h = (
    all_map (OtherPrefix (pre v, v)) pre vs (mapped (λ u. (text_cmp v u ≡ Less) × Placed u) (λ u. OtherPrefix (pre v, v) (pre u, u)) (λ u k. placed_differ v u h.0 k.1 k.0) vs (zipped (λ u. text_cmp v u ≡ Less) Placed vs a.0 h.1)),
    own_map vs a.1 h.1,
  )

-- a text that is neither of two
other_parts : (a b : Bool) → (not a && not b) ≡ true → (a ≡ false) × (b ≡ false)
other_parts a b e = let both = and_parts (not a) (not b) e in (not-true a both.0, not-true b both.1)

bound_by : (ds : List Declaration) (p : List ℕ) (u : Text) → is_ncname p ≡ true → bytes_eq (encode_utf8_all p) (codes "xml") ≡ false → declared_namespace ds (encode_utf8_all p) ≡ Some (s.literal u) → IsBoundTo ds p u
bound_by ds p u n x d = record { name = n; bound = or_right (bytes_eq (encode_utf8_all p) (codes "xml")) _ (ap is_some d); meaning = cond-false _ _ _ x ∙ ap (declared_text []) d }

xml_bytes : encode_utf8_all (codes "xml") ≡ codes "xml"
xml_bytes = ascii _ refl

xml_bound : (ds : List Declaration) → IsBoundTo ds (codes "xml") xml_uri
unfolding is_name_start is_name_char
xml_bound ds =
    let e : bytes_eq (encode_utf8_all (codes "xml")) (codes "xml") ≡ true = ap (λ p. bytes_eq p (codes "xml")) xml_bytes in
    record { name = refl; bound = or_left (bytes_eq (encode_utf8_all (codes "xml")) (codes "xml")) _ e; meaning = cond-true _ _ _ e }

xsd_library : (ds : List Declaration) → IsLibrary ds (codes "xsd") xsd_uri
unfolding is_name_start is_name_char
xsd_library ds = record { name = refl; meaning = cond-true _ _ _ (ap (λ p. bytes_eq p (codes "xsd")) (ascii (codes "xsd") refl)) }

n_start : is_name_start 110 ≡ true
unfolding is_name_start
n_start = refl

d_start : is_name_start 100 ≡ true
unfolding is_name_start
d_start = refl

zero_name : is_ncname (codes "n0") ≡ true
unfolding is_name_start is_name_char
zero_name = refl

zero_bytes : encode_utf8_all (codes "n0") ≡ codes "n0"
zero_bytes = ascii _ refl

zero_is : 110 ∷ decimal 0 ≡ codes "n0"
zero_is = ap (λ l. 110 ∷ l) (decimal_digit 0 (omega arith))

definitions_all : (Q : Text → Type 0) (of : Tree → List Text) (ds : List (Text × Tree)) → AllByRecursion Q (flat_map (λ (d : Text × Tree). of d.1) ds) → AllByRecursion (λ d. AllByRecursion Q (of d.1)) ds
definitions_all Q of [] a = tt
definitions_all Q of (d ∷ ds) a = (all_first Q (of d.1) _ a, definitions_all Q of ds (all_second Q (of d.1) _ a))

module _ (n : Grammar) (h : IsSpellable n) where
  abbrev f : Prefixes
  f = prefixes n

  abbrev us : List Text
  us = f.namespaces

  abbrev ls : List Text
  ls = f.libraries

  abbrev pre : Text → List ℕ
  pre u = namespace_prefix f u

  abbrev lib : Text → List ℕ
  lib l = library_prefix f l

  abbrev mentioned : List Text
  mentioned = grammar_namespaces false n

  abbrev libraries_mentioned : List Text
  libraries_mentioned = grammar_libraries n

  abbrev Kept : Text → Type 0
  Kept u = is_other xml_uri u ≡ true

  abbrev KeptLibrary : Text → Type 0
  KeptLibrary l = is_other xsd_uri l ≡ true

  pre_is : (u : Text) → Kept u → pre u ≡ 110 ∷ decimal (place u us)
  pre_is u k = let both = other_parts (bytes_eq u []) (bytes_eq u xml_uri) k in cond-false _ _ _ both.0 ∙ cond-false _ _ _ both.1

  lib_is : (l : Text) → KeptLibrary l → lib l ≡ 100 ∷ decimal (place l ls)
  lib_is l k = cond-false _ _ _ (other_parts (bytes_eq l []) (bytes_eq l xsd_uri) k).1

  members : AllByRecursion (λ u. IsXml u × Kept u) us
  members = filter_all IsXml (is_other xml_uri) (sorted_once text_cmp mentioned) (sorted_all IsXml mentioned h.namespaces)

  library_members : AllByRecursion (λ u. IsXml u × KeptLibrary u) ls
  library_members = filter_all IsXml (is_other xsd_uri) (sorted_once text_cmp libraries_mentioned) (sorted_all IsXml libraries_mentioned h.libraries)

  placed : AllByRecursion (Placed 110 pre us n_start refl h.few_namespaces) us
  placed = mapped (λ u. In us u × (IsXml u × Kept u)) (Placed 110 pre us n_start refl h.few_namespaces) (λ u k. (k.0, pre_is u k.1.1)) us (zipped (In us) (λ u. IsXml u × Kept u) us (all_in us) members)

  placed_libraries : AllByRecursion (Placed 100 lib ls d_start refl h.few_libraries) ls
  placed_libraries = mapped (λ u. In ls u × (IsXml u × KeptLibrary u)) (Placed 100 lib ls d_start refl h.few_libraries) (λ u k. (k.0, lib_is u k.1.1)) ls (zipped (In ls) (λ u. IsXml u × KeptLibrary u) ls (all_in ls) library_members)

  -- ---- entries

  all_entries : (P : Entry → Type 0) → P (codes "n0", []) → AllByRecursion (λ u. P (pre u, u)) us → AllByRecursion P (namespace_entries n)
  all_entries P z a = go (has_empty_ns_name n)
    where
      go : (b : Bool) → AllByRecursion P (cond b ((codes "n0", []) ∷ []) [] ++ map (λ u. (pre u, u)) us)
      go true = (z, all_map P pre us a)
      go false = all_map P pre us a

  own_entries : HaveOwnPrefixes (namespace_entries n)
  own_entries = go (has_empty_ns_name n)
    where
      rest : HaveOwnPrefixes (map (λ u. (pre u, u)) us)
      rest = own_map 110 pre us n_start refl h.few_namespaces us (filter_apart (is_other xml_uri) (sorted_once text_cmp mentioned) (sorted_apart mentioned)) placed

      zero_other : (u : Text) → Placed 110 pre us n_start refl h.few_namespaces u → OtherPrefix (codes "n0", []) (pre u, u)
      zero_other u k =
          (λ i. bytes_eq ((zero_bytes ∙ sym zero_is) i) (placed_bytes 110 pre us n_start refl h.few_namespaces u k i))
          ∙ numbered_differ 110 0 (place u us) (omega arith) (small 110 pre us n_start refl h.few_namespaces u) (λ e. omega (arith, e, place_positive u us k.0))

      go : (b : Bool) → HaveOwnPrefixes (cond b ((codes "n0", []) ∷ []) [] ++ map (λ u. (pre u, u)) us)
      go true = (all_map (OtherPrefix (codes "n0", [])) pre us (mapped (Placed 110 pre us n_start refl h.few_namespaces) (λ u. OtherPrefix (codes "n0", []) (pre u, u)) zero_other us placed), rest)
      go false = rest

  own_libraries : HaveOwnPrefixes (library_entries n)
  own_libraries = own_map 100 lib ls d_start refl h.few_libraries ls (filter_apart (is_other xsd_uri) (sorted_once text_cmp libraries_mentioned) (sorted_apart libraries_mentioned)) placed_libraries

  entries : AllByRecursion IsEntry (namespace_entries n)
  entries = all_entries IsEntry (zero_name, empty_xml) (mapped (λ u. Placed 110 pre us n_start refl h.few_namespaces u × (IsXml u × Kept u)) (λ u. IsEntry (pre u, u)) (λ u k. (placed_name 110 pre us n_start refl h.few_namespaces u k.0, k.1.0)) us (zipped (Placed 110 pre us n_start refl h.few_namespaces) (λ u. IsXml u × Kept u) us placed members))

  library_entries_are : AllByRecursion IsEntry (library_entries n)
  library_entries_are = all_map IsEntry lib ls (mapped (λ u. Placed 100 lib ls d_start refl h.few_libraries u × (IsXml u × KeptLibrary u)) (λ u. IsEntry (lib u, u)) (λ u k. (placed_name 100 lib ls d_start refl h.few_libraries u k.0, k.1.0)) ls (zipped (Placed 100 lib ls d_start refl h.few_libraries) (λ u. IsXml u × KeptLibrary u) ls placed_libraries library_members))

  not_xml : (u : Text) → Placed 110 pre us n_start refl h.few_namespaces u → IsOwnNamespace (pre u, u)
  not_xml u k = let e = placed_bytes 110 pre us n_start refl h.few_namespaces u k in (ap (λ p. bytes_eq p (codes "xmlns")) e, ap (λ p. bytes_eq p (codes "xml")) e)

  own_namespaces : AllByRecursion IsOwnNamespace (namespace_entries n)
  own_namespaces = all_entries IsOwnNamespace (ap (λ p. bytes_eq p (codes "xmlns")) zero_bytes, ap (λ p. bytes_eq p (codes "xml")) zero_bytes) (mapped (Placed 110 pre us n_start refl h.few_namespaces) (λ u. IsOwnNamespace (pre u, u)) not_xml us placed)

  not_xsd : AllByRecursion IsOwnLibrary (library_entries n)
  not_xsd = all_map IsOwnLibrary lib ls (mapped (Placed 100 lib ls d_start refl h.few_libraries) (λ u. IsOwnLibrary (lib u, u)) (λ u k. ap (λ p. bytes_eq p (codes "xsd")) (placed_bytes 100 lib ls d_start refl h.few_libraries u k)) ls placed_libraries)

  -- ---- declarations

  abbrev ds : List Declaration
  ds = declarations_of n

  abbrev at_namespaces : ℕ
  at_namespaces = behind 0 default_line

  abbrev at_libraries : ℕ
  at_libraries = behind at_namespaces (bindings (codes "namespace") (namespace_entries n))

  always : {A : Type 0} (P : A → Type 0) → ((a : A) → P a) → (xs : List A) → AllByRecursion P xs
  always P p [] = tt
  always P p (x ∷ xs) = (p x, always P p xs)

  clean : declarations_places [] ds ≡ []
  clean = clean_declarations (namespace_entries n) (library_entries n) (s.default 0 None (s.literal []) ∷ []) at_namespaces at_libraries
      (always (Fresh (s.default 0 None (s.literal []) ∷ [])) (λ e. refl) (namespace_entries n)) (always (FreshLibrary (s.default 0 None (s.literal []) ∷ [])) (λ e. refl) (library_entries n))
      own_entries own_libraries own_namespaces not_xsd

  abbrev Found : Entry → Type 0
  Found e = declared_namespace ds (encode_utf8_all e.0) ≡ Some (s.literal e.1)

  found_all : AllByRecursion Found (namespace_entries n)
  found_all = found (namespace_entries n) at_namespaces (libraries_from at_libraries (library_entries n)) own_entries

  found_named : AllByRecursion (λ u. Found (pre u, u)) us
  found_named = of_map Found pre us (go (has_empty_ns_name n) found_all)
    where
      go : (b : Bool) → AllByRecursion Found (cond b ((codes "n0", []) ∷ []) [] ++ map (λ u. (pre u, u)) us) → AllByRecursion Found (map (λ u. (pre u, u)) us)
      go true a = a.1
      go false a = a

  found_zero : has_empty_ns_name n ≡ true → Found (codes "n0", [])
  found_zero e = go (has_empty_ns_name n) e found_all
    where
      go : (b : Bool) → b ≡ true → AllByRecursion Found (cond b ((codes "n0", []) ∷ []) [] ++ map (λ u. (pre u, u)) us) → Found (codes "n0", [])
      go true e a = a.0
      go false e a = cc

  found_libraries : AllByRecursion (λ l. declared_library ds (encode_utf8_all (lib l)) ≡ Some l) ls
  found_libraries = of_map (λ e. declared_library ds (encode_utf8_all e.0) ≡ Some e.1) lib ls
      (mapped (λ e. declared_library (libraries_from at_libraries (library_entries n)) (encode_utf8_all e.0) ≡ Some e.1) (λ e. declared_library ds (encode_utf8_all e.0) ≡ Some e.1)
      (λ e k. no_library (namespace_entries n) at_namespaces (libraries_from at_libraries (library_entries n)) (encode_utf8_all e.0) ∙ k) (library_entries n) (found_library (library_entries n) at_libraries own_libraries))

  -- ---- what is mentioned is bound

  abbrev N : Text → Type 0
  N u = IsBoundTo ds (pre u) u

  abbrev L : Text → Type 0
  L l = IsLibrary ds (lib l) l

  kept_from : (a b : Bool) → a ≡ false → b ≡ false → (not a && not b) ≡ true
  kept_from a b x y = (λ i. not (x i) && not (y i))

  named : (u : Text) → In mentioned u → Named N L u
  named u k e = ⊎_elim
      (λ x. let is : u ≡ xml_uri = (bytes_eq-Decides u xml_uri).0 x in
      let p : pre u ≡ codes "xml" = cond-false _ _ _ e ∙ cond-true _ _ _ x in
      subst (λ q. IsBoundTo ds q u) (sym p) (subst (IsBoundTo ds (codes "xml")) (sym is) (xml_bound ds)))
      (λ x. let here : In us u = filter_keeps u (is_other xml_uri) (sorted_once text_cmp mentioned) (kept_from (bytes_eq u []) (bytes_eq u xml_uri) e x) (sorted_keeps (bytes_eq u) mentioned k) in
      let q = pick (λ u. Placed 110 pre us n_start refl h.few_namespaces u × Found (pre u, u)) u us (zipped (Placed 110 pre us n_start refl h.few_namespaces) (λ u. Found (pre u, u)) us placed found_named) here in
      bound_by ds (pre u) u (placed_name 110 pre us n_start refl h.few_namespaces u q.0) (not_xml u q.0).1 q.1)
      (cases_Bool (bytes_eq u xml_uri))

  ns_named : (u : Text) → In (grammar_namespaces true n) u → Wide N L u
  ns_named u k e =
      let is : u ≡ [] = (bytes_eq-Decides u []).0 e in
      let stands : has_empty_ns_name n ≡ true = ap (λ v. list_any (bytes_eq v) (grammar_namespaces true n)) (sym is) ∙ k in
      let p : pre u ≡ codes "n0" = cond-true _ _ _ e in
      subst (λ q. IsBoundTo ds q u) (sym p) (subst (IsBoundTo ds (codes "n0")) (sym is) (bound_by ds (codes "n0") [] zero_name (ap (λ p. bytes_eq p (codes "xml")) zero_bytes) (found_zero stands)))

  library : (l : Text) → In libraries_mentioned l → Libraries N L l
  library l k e = ⊎_elim
      (λ x. let is : l ≡ xsd_uri = (bytes_eq-Decides l xsd_uri).0 x in
      let p : lib l ≡ codes "xsd" = cond-true _ _ _ x in
      subst (λ q. IsLibrary ds q l) (sym p) (subst (IsLibrary ds (codes "xsd")) (sym is) (xsd_library ds)))
      (λ x. let here : In ls l = filter_keeps l (is_other xsd_uri) (sorted_once text_cmp libraries_mentioned) (kept_from (bytes_eq l []) (bytes_eq l xsd_uri) e x) (sorted_keeps (bytes_eq l) libraries_mentioned k) in
      let q = pick (λ u. Placed 100 lib ls d_start refl h.few_libraries u × (declared_library ds (encode_utf8_all (lib u)) ≡ Some u)) l ls (zipped (Placed 100 lib ls d_start refl h.few_libraries) (λ u. declared_library ds (encode_utf8_all (lib u)) ≡ Some u) ls placed_libraries found_libraries) here in
      record { name = placed_name 100 lib ls d_start refl h.few_libraries l q.0; meaning = cond-false _ _ _ (ap (λ p. bytes_eq p (codes "xsd")) (placed_bytes 100 lib ls d_start refl h.few_libraries l q.0)) ∙ q.1 })
      (cases_Bool (bytes_eq l xsd_uri))

  all_named : AllByRecursion (Named N L) mentioned
  all_named = mapped (In mentioned) (Named N L) named mentioned (all_in mentioned)

  all_wide : AllByRecursion (Wide N L) (grammar_namespaces true n)
  all_wide = mapped (In (grammar_namespaces true n)) (Wide N L) ns_named _ (all_in (grammar_namespaces true n))

  all_libraries : AllByRecursion (Libraries N L) libraries_mentioned
  all_libraries = mapped (In libraries_mentioned) (Libraries N L) library libraries_mentioned (all_in libraries_mentioned)

  names_of_start : Names N L n.start
  names_of_start = (all_first (Named N L) (tree_namespaces false n.start) _ all_named, all_first (Wide N L) (tree_namespaces true n.start) _ all_wide, all_first (Libraries N L) (tree_libraries n.start) _ all_libraries)

  names_of_definitions : AllByRecursion (λ d. Names N L d.1) n.definitions
  names_of_definitions =
      let a = definitions_all (Named N L) (tree_namespaces false) n.definitions (all_second (Named N L) (tree_namespaces false n.start) _ all_named) in
      let b = definitions_all (Wide N L) (tree_namespaces true) n.definitions (all_second (Wide N L) (tree_namespaces true n.start) _ all_wide) in
      let c = definitions_all (Libraries N L) (tree_libraries) n.definitions (all_second (Libraries N L) (tree_libraries n.start) _ all_libraries) in
      together n.definitions a b c
    where
      together : (es : List (Text × Tree)) → AllByRecursion (λ d. AllByRecursion (Named N L) (tree_namespaces false d.1)) es → AllByRecursion (λ d. AllByRecursion (Wide N L) (tree_namespaces true d.1)) es
          → AllByRecursion (λ d. AllByRecursion (Libraries N L) (tree_libraries d.1)) es → AllByRecursion (λ d. Names N L d.1) es
      together [] a b c = tt
      together (e ∷ es) a b c = ((a.0, b.0, c.0), together es a.1 b.1 c.1)

  declared : IsDeclared n
  declared = record {
    namespaces = entries;
    libraries = library_entries_are;
    clean = clean;
    start = tree_bound N L h.start names_of_start;
    definitions = mapped (λ d. (IsName d.0 × IsPrintable Free Free Free d.1) × Names N L d.1) (IsDefinition f ds refl) (λ d k. (k.0.0, tree_bound N L k.0.1 k.1)) n.definitions
        (zipped (λ d. IsName d.0 × IsPrintable Free Free Free d.1) (λ d. Names N L d.1) n.definitions h.definitions names_of_definitions);
    distinct = h.distinct;
  }

  -- the tokens of the grammar's text are those of its pieces
  pub spelling_is_cut : HasTokens (chars (spelling n)) (lexemes 0 (spelling_pieces n))
  spelling_is_cut = spelled_tokens n declared

  -- the text of the grammar is read back
  pub spelling_reads_back : IsReadBack n
  spelling_reads_back = is_read_back n declared
