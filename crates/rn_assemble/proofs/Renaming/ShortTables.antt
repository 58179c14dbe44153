-- A table of short texts renames URIs and keeps their order; without short texts nothing changes.
use Rattle.std.proofs.Common.{◌≡◌, ◌<◌, inl, inr, List, [], ◌∷◌, map, length, get_or, Some, refl, sym, ap, ◌∙◌, subst, arith, Contains, Less, Equal, Greater}
use Rattle.std.specs.Prelude.{bytes_eq, unwrap_or}
use Rattle.std.specs.List.{AllByRecursion, IsDistinct}
use Rattle.std.specs.List.Sorted.{IsStrictlySortedBy}
use Rattle.std.specs.Map.{lookup}
use Rattle.std.specs.Ordering.{ordering_reverse}
use Rattle.std.proofs.lemmas.Bool.{cases_lt}
use Rattle.std.proofs.lemmas.Cmp.{nat_list_cmp_total, nat_list_eq_equiv, tied_itself}
use Rattle.std.proofs.lemmas.List.{get_or-map, get_or_default, length-map}
use Rattle.std.proofs.lemmas.List.Elements.{All-from_recursion}
use Rattle.std.proofs.lemmas.Map.Keys.{IsDistinct-from_apart, Less-from_sorted}
use Rattle.std.proofs.lemmas.Map.Views.{Contains-from_any, Contains-from_lookup, list_any-from_Contains, lookup-from_Contains}
use Rattle.rn_text.specs.Texts.{Text, text_cmp}
use Rattle.rn_pattern.specs.Tree.{NameTree, NameTrees, any_name, any_name_but, ns_name, ns_name_but, name, name_choice, no_names, more_names, Tree, Trees, not_allowed, empty, text, ref, value, datum, datum_but, list, attribute, element, one_or_more, group, interleave, choice, no_trees, more_trees}
use Rattle.rn_pattern.specs.Matching.{Grammar}
use Rattle.rn_pattern.specs.NameRules.{declarations}
use Rattle.rn_syntax.specs.Places.{xml_uri, xsd_uri}
use Rattle.rn_assemble.specs.Renamed.{renamed_class, renamed_classes, renamed_tree, renamed_trees, renamed_definition, HasKnownNames, HaveKnownNames, HasKnownUris, HaveKnownUris, IsOfKnownUris, IsRenaming}
use Rattle.rn_assemble.specs.ShortTexts.{ShortTexts, IsKnown, IsTable, long_grammar, long_uri}
use Rattle.rn_assemble.specs.inside.Covered.{swapped}
use Rattle.rn_assemble.specs.WritableTexts.{IsXml}
use Rattle.rn_assemble.proofs.Combined.Combinations.{same_text}
use Rattle.rn_assemble.proofs.Combined.PlainComponents.{differ}
use Rattle.rn_assemble.proofs.Referring.NamedLists.{mapped, rise_at, unmapped}

-- ---- entries by their places

abbrev short_part : Text × Text → Text
short_part e = e.0

abbrev uri_part : Text × Text → Text
uri_part e = e.1

-- texts that ascend are apart
pub apart : (ks : List Text) → IsStrictlySortedBy text_cmp ks → IsDistinct bytes_eq ks
apart ks s = IsDistinct-from_apart bytes_eq ks (λ i j d h l. differ (get_or ks i d) (get_or ks j d)
    (λ e. let less : Less ≡ Equal = sym (Less-from_sorted text_cmp ks i j d s h l) ∙ ap (text_cmp (get_or ks i d)) (sym e) ∙ tied_itself nat_list_cmp_total (get_or ks i d) in cc))

module _ (f : Text × Text → Text) (es : ShortTexts) (s : IsStrictlySortedBy text_cmp (map f es)) where
  before : (a b : Text × Text) (c : Contains es a) (d : Contains es b) → c.0 < d.0 → text_cmp (f a) (f b) ≡ Less
  before a b (i, l, e) (j, m, g) h =
      (λ k. text_cmp (f (sym e k)) (f (sym (get_or_default es j a b m ∙ g) k))) ∙ rise_at f es i j a s h m

  behind : (a b : Text × Text) (c : Contains es a) (d : Contains es b) → d.0 < c.0 → text_cmp (f a) (f b) ≡ Greater
  behind a b c d h = nat_list_cmp_total.antisymm (f a) (f b) ∙ ap ordering_reverse (before b a d c h)

module _ (es : ShortTexts) (shorts : IsStrictlySortedBy text_cmp (map short_part es)) (uris : IsStrictlySortedBy text_cmp (map uri_part es)) where
  -- of two entries the one with the lesser text has the lesser URI
  ordered : (a b : Text × Text) → Contains es a → Contains es b → text_cmp a.1 b.1 ≡ text_cmp a.0 b.0
  ordered a b c d = elim (cases_lt c.0 d.0) [
    | inl h ↦ before uri_part es uris a b c d h ∙ sym (before short_part es shorts a b c d h)
    | inr h ↦ elim (cases_lt d.0 c.0) [
      | inl k ↦ behind uri_part es uris a b c d k ∙ sym (behind short_part es shorts a b c d k)
      | inr k ↦
          let here : c.0 ≡ d.0 = omega (arith, h, k) in
          let same : a ≡ b = sym c.2 ∙ ap (λ i. get_or es i a) here ∙ get_or_default es d.0 a b d.1 ∙ d.2 in
          ap (λ (x : Text × Text). text_cmp a.1 x.1) (sym same) ∙ tied_itself nat_list_cmp_total a.1 ∙ sym (ap (λ (x : Text × Text). text_cmp a.0 x.0) (sym same) ∙ tied_itself nat_list_cmp_total a.0)
    ]
  ]

-- ---- a table

-- a short text stands for its URI
stands : (es : ShortTexts) → IsStrictlySortedBy text_cmp (map short_part es) → (e : Text × Text) → Contains es e → long_uri es e.0 ≡ e.1
stands es s e c = ap (λ o. unwrap_or o e.0) (lookup-from_Contains {eq = bytes_eq} nat_list_eq_equiv e.0 e.1 es (apart (map short_part es) s) c)

-- the entry of a known text, where there are short texts
entry_of : (e : Text × Text) (es : ShortTexts) (u : Text) → IsKnown (e ∷ es) u → (d : Text × Text) × Contains (e ∷ es) d × (d.0 ≡ u)
entry_of e es u k = unmapped short_part (e ∷ es) u (Contains-from_any {eq = bytes_eq} same_text u (map short_part (e ∷ es)) k)

known_entry : (es : ShortTexts) (d : Text × Text) → Contains es d → IsKnown es d.0
known_entry [] d (k, l, g) = absurd (omega (arith, l))
known_entry (e ∷ es) d c = list_any-from_Contains {eq = bytes_eq} nat_list_eq_equiv d.0 (map short_part (e ∷ es)) (mapped short_part (e ∷ es) d c)

kept_order : (es : ShortTexts) → IsTable es → (u v : Text) → IsKnown es u → IsKnown es v → text_cmp (long_uri es u) (long_uri es v) ≡ text_cmp u v
kept_order [] t u v k l = refl
kept_order (e ∷ es) t u v k l =
    let a = entry_of e es u k in
    let b = entry_of e es v l in
    (λ i. text_cmp (long_uri (e ∷ es) (sym a.2 i)) (long_uri (e ∷ es) (sym b.2 i)))
    ∙ (λ i. text_cmp (stands (e ∷ es) t.shorts a.0 a.1 i) (stands (e ∷ es) t.shorts b.0 b.1 i))
    ∙ ordered (e ∷ es) t.shorts t.uris a.0 b.0 a.1 b.1
    ∙ (λ i. text_cmp (a.2 i) (b.2 i))

-- a text that stands for itself is called what it is, and known
stays_named : (es : ShortTexts) (s : Text) → lookup (bytes_eq s) es ≡ Some s → long_uri es s ≡ s
stays_named es s e = ap (λ o. unwrap_or o s) e

stays_known : (es : ShortTexts) (s : Text) → lookup (bytes_eq s) es ≡ Some s → IsKnown es s
stays_known es s e = known_entry es (s, s) (Contains-from_lookup {eq = bytes_eq} same_text s s es e)

without_texts : IsRenaming (long_uri []) (IsKnown [])
without_texts = record {
  in_order = λ u v k l. refl;
  none = refl;
  xml = refl;
  xsd = refl;
  declares = refl;
  knows_none = refl;
  knows_xml = refl;
  knows_xsd = refl;
  knows_declares = refl;
}

pub table_renames : (es : ShortTexts) → IsTable es → IsRenaming (long_uri es) (IsKnown es)
table_renames es t = elim t.keeps [
  | inl e ↦ subst (λ (ds : ShortTexts). IsRenaming (long_uri ds) (IsKnown ds)) (sym e) without_texts
  | inr k ↦ record {
    in_order = kept_order es t;
    none = stays_named es [] k.none;
    xml = stays_named es xml_uri k.xml;
    xsd = stays_named es xsd_uri k.xsd;
    declares = stays_named es declarations k.declares;
    knows_none = stays_known es [] k.none;
    knows_xml = stays_known es xml_uri k.xml;
    knows_xsd = stays_known es xsd_uri k.xsd;
    knows_declares = stays_known es declarations k.declares;
  }
]

-- what is known can be written where its URI can
pub table_writable : (es : ShortTexts) → IsTable es → (u : Text) → IsKnown es u → IsXml (long_uri es u) → IsXml u
table_writable [] t u k h = h
table_writable (e ∷ es) t u k h = elim t.keeps [
  | inl n ↦ absurd (omega (arith, ap length n))
  | inr d ↦
      let a = entry_of e es u k in
      let long : IsXml a.0.1 = subst IsXml (ap (long_uri (e ∷ es)) (sym a.2) ∙ stands (e ∷ es) t.shorts a.0 a.1) h in
      subst IsXml a.2 (each (e ∷ es) d.writable a.0 a.1 long)
]
  where
    each : (ds : ShortTexts) → AllByRecursion (λ (d : Text × Text). IsXml d.1 → IsXml d.0) ds → (d : Text × Text) → Contains ds d → IsXml d.1 → IsXml d.0
    each ds a d (k, l, g) = subst (λ (x : Text × Text). IsXml x.1 → IsXml x.0) g (All-from_recursion (λ (x : Text × Text). IsXml x.1 → IsXml x.0) ds a k d l)

-- the short text of a URI stands for it and is known
pub short_stands : (es : ShortTexts) → IsTable es → (u s : Text) → lookup (bytes_eq u) (swapped es) ≡ Some s → (long_uri es s ≡ u) × IsKnown es s
short_stands es t u s e =
    let c : Contains es (s, u) = swapped_back es (s, u) (Contains-from_lookup {eq = bytes_eq} same_text u s (swapped es) e) in
    (stands es t.shorts (s, u) c, known_entry es (s, u) c)
  where
    swapped_back : (ds : ShortTexts) (d : Text × Text) → Contains (swapped ds) (d.1, d.0) → Contains ds d
    swapped_back ds d (k, l, g) =
        let m : k < length ds = omega (arith, l, length-map {B = Text × Text} ds (λ (x : Text × Text). (x.1, x.0))) in
        (k, m, ap (λ (x : Text × Text). (x.1, x.0)) (sym (get_or-map (λ (x : Text × Text). (x.1, x.0)) ds k d (d.1, d.0) m) ∙ g))

-- ---- without short texts

none_ascend : IsStrictlySortedBy text_cmp []
unfolding IsStrictlySortedBy
none_ascend = tt

pub empty_table : IsTable []
empty_table = record { shorts = none_ascend; uris = none_ascend; keeps = inl refl }

mutual
  same_class : (c : NameTree) → renamed_class (long_uri []) c ≡ c
  same_class any_name = refl
  same_class (any_name_but c) = ap any_name_but (same_class c)
  same_class (ns_name u) = refl
  same_class (ns_name_but u c) = ap (ns_name_but u) (same_class c)
  same_class (name u l) = refl
  same_class (name_choice cs) = ap name_choice (same_classes cs)

  same_classes : (cs : NameTrees) → renamed_classes (long_uri []) cs ≡ cs
  same_classes no_names = refl
  same_classes (more_names c cs) = λ i. more_names (same_class c i) (same_classes cs i)

mutual
  same_tree : (p : Tree) → renamed_tree (long_uri []) p ≡ p
  same_tree not_allowed = refl
  same_tree empty = refl
  same_tree text = refl
  same_tree (ref x) = refl
  same_tree (value l x s) = refl
  same_tree (datum l x ps) = refl
  same_tree (datum_but l x ps p) = ap (datum_but l x ps) (same_tree p)
  same_tree (list p) = ap list (same_tree p)
  same_tree (attribute c p) = λ i. attribute (same_class c i) (same_tree p i)
  same_tree (element c p) = λ i. element (same_class c i) (same_tree p i)
  same_tree (one_or_more p) = ap one_or_more (same_tree p)
  same_tree (group ps) = ap group (same_trees ps)
  same_tree (interleave ps) = ap interleave (same_trees ps)
  same_tree (choice ps) = ap choice (same_trees ps)

  same_trees : (ps : Trees) → renamed_trees (long_uri []) ps ≡ ps
  same_trees no_trees = refl
  same_trees (more_trees p ps) = λ i. more_trees (same_tree p i) (same_trees ps i)

same_definitions : (ds : List (Text × Tree)) → map (renamed_definition (long_uri [])) ds ≡ ds
same_definitions [] = refl
same_definitions (d ∷ ds) = λ i. (d.0, same_tree d.1 i) ∷ same_definitions ds i

pub same_grammar : (G : Grammar) → long_grammar [] G ≡ G
same_grammar G = λ i. record { start = same_tree G.start i; definitions = same_definitions G.definitions i }

-- each text is known
mutual
  class_known : (c : NameTree) → HasKnownNames (IsKnown []) c
  class_known any_name = tt
  class_known (any_name_but c) = class_known c
  class_known (ns_name u) = refl
  class_known (ns_name_but u c) = (refl, class_known c)
  class_known (name u l) = refl
  class_known (name_choice cs) = classes_known cs

  classes_known : (cs : NameTrees) → HaveKnownNames (IsKnown []) cs
  classes_known no_names = tt
  classes_known (more_names c cs) = (class_known c, classes_known cs)

mutual
  tree_known : (p : Tree) → HasKnownUris (IsKnown []) p
  tree_known not_allowed = tt
  tree_known empty = tt
  tree_known text = tt
  tree_known (ref x) = tt
  tree_known (value l x s) = refl
  tree_known (datum l x ps) = refl
  tree_known (datum_but l x ps p) = (refl, tree_known p)
  tree_known (list p) = tree_known p
  tree_known (attribute c p) = (class_known c, tree_known p)
  tree_known (element c p) = (class_known c, tree_known p)
  tree_known (one_or_more p) = tree_known p
  tree_known (group ps) = trees_known ps
  tree_known (interleave ps) = trees_known ps
  tree_known (choice ps) = trees_known ps

  trees_known : (ps : Trees) → HaveKnownUris (IsKnown []) ps
  trees_known no_trees = tt
  trees_known (more_trees p ps) = (tree_known p, trees_known ps)

definitions_known : (ds : List (Text × Tree)) → AllByRecursion (λ (d : Text × Tree). HasKnownUris (IsKnown []) d.1) ds
definitions_known [] = tt
definitions_known (d ∷ ds) = (tree_known d.1, definitions_known ds)

pub all_known : (G : Grammar) → IsOfKnownUris (IsKnown []) G
all_known G = record { start = tree_known G.start; definitions = definitions_known G.definitions }
