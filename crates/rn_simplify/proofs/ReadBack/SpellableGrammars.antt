-- A canonical grammar whose names and texts can be written, and whose text is not too long, can be spelled.
use Rattle.std.proofs.Common.{◌≡◌, ◌≤◌, ◌<◌, ◌^◌, ℕ, Bool, true, false, List, [], ◌∷◌, length, Some, refl, sym, ◌∙◌, subst, arith, Contains}
use Rattle.std.specs.Prelude.{flat_map, ⊤}
use Rattle.std.specs.List.{AllByRecursion}
use Rattle.std.proofs.lemmas.Bool.{false≢true}
use Rattle.rn_pattern.specs.Tree as t
use Rattle.rn_pattern.specs.Tree.{NameTree, NameTrees, any_name, any_name_but, ns_name, ns_name_but, name, name_choice, no_names, more_names, name_list_of, Tree, Trees, no_trees, more_trees, list_of}
use Rattle.rn_text.specs.Texts.{Text}
use Rattle.rn_pattern.specs.Matching.{Grammar, definition_of}
use Rattle.rn_pattern.specs.CanonicalShape.{IsCanonicalName, AreCanonicalNames, is_single, IsCanonical, AreCanonical, IsCanonicalPattern, AnyName, is_several, may_group, may_interleave, may_choose}
use Rattle.rn_pattern.specs.Canonical.{canonical_within, settled_within}
use Rattle.rn_pattern.proofs.Ordered.Ascending.{each_append}
use Rattle.rn_pattern.proofs.CanonicalForms.CanonicalForm.{canonical_is}
use Rattle.rn_pattern.proofs.CanonicalForms.Settled.{settled_canonical}
use Rattle.rn_assemble.specs.WellFormed.{HasWritableTexts}
use Rattle.rn_assemble.proofs.Combined.PlainComponents.{sorted_distinct}
use Rattle.rn_simplify.specs.Spelling.{name_uris, names_uris, mentions, mentions_all, grammar_mentions, spelling}
use Rattle.rn_simplify.proofs.ReadBack.FewPrefixes.{few_namespaces, few_libraries}
use Rattle.rn_simplify.specs.Spellable.{IsDefinition, IsSpellable}
use Rattle.rn_simplify.proofs.Simplified.Forms.{form_source}
use Rattle.rn_pattern.proofs.Matches.Pruned.{reached_definition}
use Rattle.rn_simplify.proofs.Simplified.WellFormed.{of_some}
use Rattle.rn_simplify.proofs.ReadBack.Writable.{normal_writable}
use Rattle.rn_pattern.specs.Reached.{IsCanonicalOf}
use Rattle.rn_pattern.proofs.Ordered.InOrder.{each_contained}
use Rattle.rn_assemble.specs.WritableTexts.{IsName, IsXml, Free, IsWritableName, AreWritableNames, IsWritable, AreWritable}
use Rattle.rn_simplify.specs.Printable.{IsClass, AreClasses, every, every_but, all_of, all_of_but, local, full, either, IsPrintable, ArePrintable}
use Rattle.rn_simplify.specs.Printable as w

-- ---- name classes

abbrev HasClass : NameTrees → Type 0
HasClass no_names = ⊥
HasClass (more_names c cs) = ⊤

more_classes : (c : NameTree) (cs : NameTrees) → IsClass Free Free c → (HasClass cs → AreClasses Free Free cs) → AreClasses Free Free (more_names c cs)
more_classes c no_names h f = w.last h
more_classes c (more_names d cs) h f = w.more h (f tt)

either_class : (c : NameTree) (cs : NameTrees) → is_single (name_list_of (more_names c cs)) ≡ false → IsClass Free Free c → (HasClass cs → AreClasses Free Free cs) → IsClass Free Free (name_choice (more_names c cs))
either_class c no_names e h f = absurd (false≢true (sym e))
either_class c (more_names d cs) e h f = either h (f tt)

mutual
  class_printed : (c : NameTree) → IsCanonicalName c → IsWritableName c → IsClass Free Free c
  class_printed any_name k h = every
  class_printed (any_name_but c) k h = every_but (class_printed c k h)
  class_printed (ns_name u) k h = all_of tt
  class_printed (ns_name_but u c) k h = all_of_but tt (class_printed c k h.1)
  class_printed (name [] l) k h = local h.1
  class_printed (name (b ∷ u) l) k h = full tt h.1
  class_printed (name_choice no_names) k h = absurd h
  class_printed (name_choice (more_names c cs)) k h = either_class c cs k.1 (class_printed c k.0.0.0 h.0) (λ s. classes_printed cs s k.0.1 h.1)

  classes_printed : (cs : NameTrees) → HasClass cs → AreCanonicalNames cs → AreWritableNames cs → AreClasses Free Free cs
  classes_printed no_names s k h = absurd s
  classes_printed (more_names c cs) s k h = more_classes c cs (class_printed c k.0.0 h.0) (λ s. classes_printed cs s k.1 h.1)

-- ---- patterns

abbrev Printed : Tree → Type 0
Printed = IsPrintable Free Free Free

abbrev ArePrinted : Trees → Type 0
ArePrinted = ArePrintable Free Free Free

abbrev HasTree : Trees → Type 0
HasTree no_trees = ⊥
HasTree (more_trees p ps) = ⊤

more_printed : (p : Tree) (ps : Trees) → Printed p → (HasTree ps → ArePrinted ps) → ArePrinted (more_trees p ps)
more_printed p no_trees h f = w.last h
more_printed p (more_trees q ps) h f = w.more h (f tt)

group_printed : (p : Tree) (ps : Trees) → is_several (list_of (more_trees p ps)) ≡ true → Printed p → (HasTree ps → ArePrinted ps) → Printed (t.group (more_trees p ps))
group_printed p no_trees e h f = absurd (false≢true e)
group_printed p (more_trees q ps) e h f = w.group h (f tt)

mixed_printed : (q : Tree) (ps : Trees) → ArePrinted (more_trees q ps) → Printed (t.interleave (more_trees t.text (more_trees q ps)))
mixed_printed q no_trees (w.last k) = w.mixed k
mixed_printed q (more_trees r ps) (w.more k l) = w.mixed_several k l

two_interleaved : (p q : Tree) (ps : Trees) → Printed p → ArePrinted (more_trees q ps) → Printed (t.interleave (more_trees p (more_trees q ps)))
two_interleaved t.text q ps h k = mixed_printed q ps k
two_interleaved p q ps h k = w.interleave refl h k

interleave_printed : (p : Tree) (ps : Trees) → is_several (list_of (more_trees p ps)) ≡ true → Printed p → (HasTree ps → ArePrinted ps) → Printed (t.interleave (more_trees p ps))
interleave_printed p no_trees e h f = absurd (false≢true e)
interleave_printed p (more_trees q ps) e h f = two_interleaved p q ps h (f tt)

maybe_printed : (q : Tree) → Printed q → Printed (t.choice (more_trees t.empty (more_trees q no_trees)))
maybe_printed (t.one_or_more q) (w.one_or_more k) = w.any_number k
maybe_printed q k = w.maybe refl k

optional_printed : (q : Tree) (ps : Trees) → ArePrinted (more_trees q ps) → Printed (t.choice (more_trees t.empty (more_trees q ps)))
optional_printed q no_trees (w.last k) = maybe_printed q k
optional_printed q (more_trees r ps) (w.more k l) = w.maybe_several k l

two_chosen : (p q : Tree) (ps : Trees) → Printed p → ArePrinted (more_trees q ps) → Printed (t.choice (more_trees p (more_trees q ps)))
two_chosen t.empty q ps h k = optional_printed q ps k
two_chosen p q ps h k = w.choice refl h k

choice_printed : (p : Tree) (ps : Trees) → is_several (list_of (more_trees p ps)) ≡ true → Printed p → (HasTree ps → ArePrinted ps) → Printed (t.choice (more_trees p ps))
choice_printed p no_trees e h f = absurd (false≢true e)
choice_printed p (more_trees q ps) e h f = two_chosen p q ps h (f tt)

module _ (Named : Text → Type 0) where
  mutual
    pub printed : (p : Tree) → IsCanonical Named p → IsWritable p → Printed p
    printed t.not_allowed k h = w.not_allowed
    printed t.empty k h = w.empty
    printed t.text k h = w.text
    printed (t.ref x) k h = w.ref h
    printed (t.value l x s) k h = w.value h.1 h.2 h.3
    printed (t.datum l x ps) k h = w.datum h.1
    printed (t.datum_but l x ps p) k h = w.datum_but h.1 h.2 (printed p k.0 h.3)
    printed (t.list p) k h = w.list (printed p k.0 h)
    printed (t.attribute c p) k h = w.attribute (class_printed c k.0 h.0) (printed p k.1 h.1)
    printed (t.element c p) k h = w.element (class_printed c k.0 h.0) (printed p k.1 h.1)
    printed (t.one_or_more p) k h = w.one_or_more (printed p k.0 h)
    printed (t.group no_trees) k h = absurd (false≢true k.1)
    printed (t.group (more_trees p ps)) k h = group_printed p ps k.1 (printed p k.0.0.0 h.0) (λ s. all_printed may_group ps s k.0.1 h.1)
    printed (t.interleave no_trees) k h = absurd (false≢true k.1)
    printed (t.interleave (more_trees p ps)) k h = interleave_printed p ps k.1 (printed p k.0.0.0 h.0) (λ s. all_printed may_interleave ps s k.0.1 h.1)
    printed (t.choice no_trees) k h = absurd (false≢true k.1)
    printed (t.choice (more_trees p ps)) k h = choice_printed p ps k.1 (printed p k.0.0.0 h.0) (λ s. all_printed may_choose ps s k.0.1 h.1)

    all_printed : (test : Tree → Bool) (ps : Trees) → HasTree ps → AreCanonical Named test ps → AreWritable ps → ArePrinted ps
    all_printed test no_trees s k h = absurd s
    all_printed test (more_trees p ps) s k h = more_printed p ps (printed p k.0.0 h.0) (λ s. all_printed test ps s k.1 h.1)

-- ---- what is mentioned

mutual
  uris_xml : (c : NameTree) → IsWritableName c → AllByRecursion IsXml (name_uris false c)
  uris_xml any_name h = tt
  uris_xml (any_name_but c) h = uris_xml c h
  uris_xml (ns_name u) h = (h, tt)
  uris_xml (ns_name_but u c) h = (h.0, uris_xml c h.1)
  uris_xml (name u l) h = (h.0, tt)
  uris_xml (name_choice no_names) h = tt
  uris_xml (name_choice (more_names c cs)) h = each_append IsXml (name_uris false c) (names_uris false cs) (uris_xml c h.0) (all_uris_xml cs h.1)

  all_uris_xml : (cs : NameTrees) → AreWritableNames cs → AllByRecursion IsXml (names_uris false cs)
  all_uris_xml no_names h = tt
  all_uris_xml (more_names c cs) h = each_append IsXml (name_uris false c) (names_uris false cs) (uris_xml c h.0) (all_uris_xml cs h.1)

module _ (of_name : NameTree → List Text) (of_library : Text → List Text) (names : (c : NameTree) → IsWritableName c → AllByRecursion IsXml (of_name c)) (libraries : (l : Text) → IsXml l → AllByRecursion IsXml (of_library l)) where
  abbrev of : Tree → List Text
  of = mentions of_name of_library

  abbrev of_all : Trees → List Text
  of_all = mentions_all of_name of_library

  mutual
    mentions_xml : (p : Tree) → IsWritable p → AllByRecursion IsXml (of p)
    mentions_xml t.not_allowed h = tt
    mentions_xml t.empty h = tt
    mentions_xml t.text h = tt
    mentions_xml (t.ref x) h = tt
    mentions_xml (t.value l x s) h = libraries l h.0
    mentions_xml (t.datum l x ps) h = libraries l h.0
    mentions_xml (t.datum_but l x ps p) h = each_append IsXml (of_library l) (of p) (libraries l h.0) (mentions_xml p h.3)
    mentions_xml (t.list p) h = mentions_xml p h
    mentions_xml (t.attribute c p) h = each_append IsXml (of_name c) (of p) (names c h.0) (mentions_xml p h.1)
    mentions_xml (t.element c p) h = each_append IsXml (of_name c) (of p) (names c h.0) (mentions_xml p h.1)
    mentions_xml (t.one_or_more p) h = mentions_xml p h
    mentions_xml (t.group ps) h = all_mentions_xml ps h
    mentions_xml (t.interleave ps) h = all_mentions_xml ps h
    mentions_xml (t.choice ps) h = all_mentions_xml ps h

    all_mentions_xml : (ps : Trees) → AreWritable ps → AllByRecursion IsXml (of_all ps)
    all_mentions_xml no_trees h = tt
    all_mentions_xml (more_trees p ps) h = each_append IsXml (of p) (of_all ps) (mentions_xml p h.0) (all_mentions_xml ps h.1)

  definitions_xml : (ds : List (Text × Tree)) → AllByRecursion (λ d. IsName d.0 × IsWritable d.1) ds → AllByRecursion IsXml (flat_map (λ (d : Text × Tree). of d.1) ds)
  definitions_xml [] h = tt
  definitions_xml (d ∷ ds) h = each_append IsXml (of d.1) (flat_map (λ (e : Text × Tree). of e.1) ds) (mentions_xml d.1 h.0.1) (definitions_xml ds h.1)

  pub grammar_xml : (n : Grammar) → IsWritable n.start → AllByRecursion (λ d. IsName d.0 × IsWritable d.1) n.definitions → AllByRecursion IsXml (grammar_mentions of_name of_library n)
  grammar_xml n s h = each_append IsXml (of n.start) (flat_map (λ (d : Text × Tree). of d.1) n.definitions) (mentions_xml n.start s) (definitions_xml n.definitions h)

-- ---- the grammar

form_canonical : (G : Grammar) (p : Tree) → IsCanonicalPattern (canonical_within (length G.definitions) G p)
form_canonical G p = canonical_is AnyName (settled_within (length G.definitions) G) (λ x. settled_canonical G AnyName (length G.definitions) x (λ _. tt)) p

le_lt : {a b n : ℕ} → a ≤ b → b < n → a < n
le_lt h k = omega (arith, h, k)

-- each definition is printable
definitions_printed : (ds : List (Text × Tree)) → AllByRecursion (λ d. IsName d.0 × IsWritable d.1) ds → AllByRecursion (λ d. IsCanonicalPattern d.1) ds → AllByRecursion IsDefinition ds
definitions_printed [] h k = tt
definitions_printed (d ∷ ds) h k = ((h.0.0, printed AnyName d.1 k.0 h.0.1), definitions_printed ds h.1 k.1)

module _ (G N : Grammar) (c : IsCanonicalOf G N) (w : HasWritableTexts G) where
  writable : HasWritableTexts N
  writable = normal_writable G N c w

  of_definition : (x : Text) (p : Tree) → Contains {X = Text × Tree} N.definitions (x, p) → definition_of N x ≡ Some p
  of_definition x p h = let (r, e) = (c.definitions x p).0 h in sym (reached_definition G N c x r) ∙ e

  each_definition : AllByRecursion (λ d. IsName d.0 × IsWritable d.1) N.definitions
  each_definition = each_contained (λ d. IsName d.0 × IsWritable d.1) N.definitions (λ d h. (writable.names d.0 d.1 h, of_some IsWritable (definition_of N d.0) d.1 (of_definition d.0 d.1 h) (writable.definitions d.0)))

  start_canonical : IsCanonicalPattern N.start
  start_canonical = subst IsCanonicalPattern (sym c.start) (form_canonical G G.start)

  each_canonical : AllByRecursion (λ d. IsCanonicalPattern d.1) N.definitions
  each_canonical = each_contained (λ d. IsCanonicalPattern d.1) N.definitions (λ d h. let (q, g, is) = form_source _ G d.0 d.1 ((c.definitions d.0 d.1).0 h).1 in subst IsCanonicalPattern is (form_canonical G q))

  -- a canonical grammar can be spelled, where the text is not too long
  pub spellable : length (spelling N) < 2 ^ 64 → IsSpellable N
  spellable short = record {
    start = printed AnyName N.start start_canonical writable.start;
    definitions = definitions_printed N.definitions each_definition each_canonical;
    distinct = sorted_distinct N.definitions c.in_order;
    namespaces = grammar_xml (name_uris false) (λ l. []) uris_xml (λ l h. tt) N writable.start each_definition;
    libraries = grammar_xml (λ n. []) (λ l. l ∷ []) (λ n h. tt) (λ l h. (h, tt)) N writable.start each_definition;
    few_namespaces = le_lt (few_namespaces N) short;
    few_libraries = le_lt (few_libraries N) short;
  }
