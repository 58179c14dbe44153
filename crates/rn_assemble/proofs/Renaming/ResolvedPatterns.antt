-- Patterns and name classes under renamed declarations are resolved to what they were, renamed; and all their URIs are known.
use Rattle.std.proofs.Common.{◌≡◌, ℕ, Bool, cond, List, [], ◌∷◌, map, Option, Some, None, option_map, codes, refl, sym, ap, ◌∙◌}
use Rattle.std.specs.Prelude.{bytes_eq, unwrap_or}
use Rattle.rn_text.specs.Texts.{Text}
use Rattle.rn_pattern.specs.Tree.{NameTree, ns_name, ns_name_but, name, name_choice, more_names, value, datum, datum_but, list, attribute, element, one_or_more, group, interleave, choice, empty, text, more_trees}
use Rattle.rn_pattern.specs.Opened.{pair}
use Rattle.rn_syntax.specs.declared.tree.Operator.TheVariants as o
use Rattle.rn_syntax.specs.declared.tree.Postfix.TheVariants as q
use Rattle.rn_syntax.specs.Tree as t
use Rattle.rn_syntax.specs.Tree.{Name, Datatype, AnyName, NameClass, NameClasses, Pattern, Patterns, Uri, Declaration}
use Rattle.rn_syntax.specs.Places.{xml_uri, xsd_uri, declared_namespace, declared_library, library_of}
use Rattle.rn_assemble.specs.Resolve.{uri_text, declared_text, default_of, namespace_of, resolved_name, every_name, every_name_but, resolved_class, resolved_classes, type_library, type_name, resolved_pattern, resolved_patterns}
use Rattle.rn_assemble.specs.Components.{handed_on}
use Rattle.rn_assemble.specs.Renamed.{renamed_class, renamed_classes, renamed_tree, renamed_trees, IsRenaming}
use Rattle.rn_assemble.specs.inside.RenamedModules.{renamed_uri, renamed_declaration}
use Rattle.rn_assemble.proofs.Renaming.MappedTests.{cond_inside}

-- ---- what declarations bind

module _ (named : Text → Text) where
  abbrev pub renamed_declarations : List Declaration → List Declaration
  renamed_declarations ds = map (renamed_declaration named) ds

  uri_text-renamed : (inherited : Text) (u : Uri) → uri_text (named inherited) (renamed_uri named u) ≡ named (uri_text inherited u)
  uri_text-renamed inherited (t.literal u) = refl
  uri_text-renamed inherited t.inherited = refl

  -- the URI of the first declaration, where it binds the prefix
  bound_uri : (b : Bool) (u : Uri) (o : Option Uri) (p : Option Uri) → p ≡ option_map (renamed_uri named) o
      → cond b (Some (renamed_uri named u)) p ≡ option_map (renamed_uri named) (cond b (Some u) o)
  bound_uri b u o p e = ap (cond b (Some (renamed_uri named u))) e ∙ cond_inside (option_map (renamed_uri named)) b (Some u) o

  pub declared_namespace-renamed : (ds : List Declaration) (p : Text)
      → declared_namespace (renamed_declarations ds) p ≡ option_map (renamed_uri named) (declared_namespace ds p)
  declared_namespace-renamed [] p = refl
  declared_namespace-renamed (t.namespace s i u ∷ ds) p =
      bound_uri (bytes_eq s p) u (declared_namespace ds p) _ (declared_namespace-renamed ds p)
  declared_namespace-renamed (t.default i (Some s) u ∷ ds) p =
      bound_uri (bytes_eq s.0 p) u (declared_namespace ds p) _ (declared_namespace-renamed ds p)
  declared_namespace-renamed (t.default i None u ∷ ds) p = declared_namespace-renamed ds p
  declared_namespace-renamed (t.datatypes s i u ∷ ds) p = declared_namespace-renamed ds p

  pub declared_library-renamed : (ds : List Declaration) (p : Text)
      → declared_library (renamed_declarations ds) p ≡ option_map named (declared_library ds p)
  declared_library-renamed [] p = refl
  declared_library-renamed (t.namespace s i u ∷ ds) p = declared_library-renamed ds p
  declared_library-renamed (t.default i s u ∷ ds) p = declared_library-renamed ds p
  declared_library-renamed (t.datatypes s i u ∷ ds) p =
      ap (λ o. cond (bytes_eq s p) (Some (named u)) o) (declared_library-renamed ds p)
      ∙ cond_inside (option_map named) (bytes_eq s p) (Some u) (declared_library ds p)

  pub default_of-renamed : (inherited : Text) (ds : List Declaration)
      → default_of (named inherited) (renamed_declarations ds) ≡ named (default_of inherited ds)
  default_of-renamed inherited [] = refl
  default_of-renamed inherited (t.default i p u ∷ ds) = uri_text-renamed inherited u
  default_of-renamed inherited (t.namespace p i u ∷ ds) = default_of-renamed inherited ds
  default_of-renamed inherited (t.datatypes p i u ∷ ds) = default_of-renamed inherited ds

module _ {named : Text → Text} {Known : Text → Type 0} (r : IsRenaming named Known) where
  declared_text-renamed : (inherited : Text) (u : Option Uri)
      → declared_text (named inherited) (option_map (renamed_uri named) u) ≡ named (declared_text inherited u)
  declared_text-renamed inherited None = sym r.none
  declared_text-renamed inherited (Some u) = uri_text-renamed named inherited u

  unwrapped-renamed : (s : Option Text) → unwrap_or (option_map named s) [] ≡ named (unwrap_or s [])
  unwrapped-renamed None = sym r.none
  unwrapped-renamed (Some s) = refl

  pub library_of-renamed : (ds : List Declaration) (p : Text)
      → library_of (renamed_declarations named ds) p ≡ option_map named (library_of ds p)
  library_of-renamed ds p =
      let library = declared_library-renamed named ds p in
      (λ i. cond (bytes_eq p (codes "xsd")) (Some (sym r.xsd i)) (library i))
      ∙ cond_inside (option_map named) (bytes_eq p (codes "xsd")) (Some xsd_uri) (declared_library ds p)

  module _ (inherited : Text) (ds : List Declaration) where
    -- the namespace and the declarations renamed
    abbrev v : Text
    v = named inherited

    abbrev es : List Declaration
    es = renamed_declarations named ds

    pub namespace_of-renamed : (p : Text) → namespace_of v es p ≡ named (namespace_of inherited ds p)
    namespace_of-renamed p =
        let uri = declared_namespace ds p in
        let declared = ap (declared_text v) (declared_namespace-renamed named ds p) ∙ declared_text-renamed inherited uri in
        (λ i. cond (bytes_eq p (codes "xml")) (sym r.xml i) (declared i))
        ∙ cond_inside named (bytes_eq p (codes "xml")) xml_uri (declared_text inherited uri)

    pub handed_on-renamed : (p : Option (Text × ℕ)) → handed_on v es p ≡ named (handed_on inherited ds p)
    handed_on-renamed None = default_of-renamed named inherited ds
    handed_on-renamed (Some p) = namespace_of-renamed p.0

    -- ---- name classes

    name-renamed : (own : Text) (n : Name) → resolved_name v es (named own) n ≡ renamed_class named (resolved_name inherited ds own n)
    name-renamed own (t.local l) = refl
    name-renamed own (t.prefixed p l i) = ap (λ u. name u l) (namespace_of-renamed p)

    every_name-renamed : (a : AnyName) → every_name v es a ≡ renamed_class named (every_name inherited ds a)
    every_name-renamed t.any = refl
    every_name-renamed (t.any_of p i) = ap ns_name (namespace_of-renamed p)

    every_name_but-renamed : (a : AnyName) (c : NameTree)
        → every_name_but v es a (renamed_class named c) ≡ renamed_class named (every_name_but inherited ds a c)
    every_name_but-renamed t.any c = refl
    every_name_but-renamed (t.any_of p i) c = ap (λ u. ns_name_but u (renamed_class named c)) (namespace_of-renamed p)

    mutual
      pub resolved_class-renamed : (own : Text) (c : NameClass)
          → resolved_class v es (named own) c ≡ renamed_class named (resolved_class inherited ds own c)
      resolved_class-renamed own (t.name n) = name-renamed own n
      resolved_class-renamed own (t.all a) = every_name-renamed a
      resolved_class-renamed own (t.all_but a c) =
          ap (every_name_but v es a) (resolved_class-renamed own c) ∙ every_name_but-renamed a (resolved_class inherited ds own c)
      resolved_class-renamed own (t.choice cs) = ap name_choice (resolved_classes-renamed own cs)

      resolved_classes-renamed : (own : Text) (cs : NameClasses)
          → resolved_classes v es (named own) cs ≡ renamed_classes named (resolved_classes inherited ds own cs)
      resolved_classes-renamed own t.no_classes = refl
      resolved_classes-renamed own (t.class c cs) =
          let first = resolved_class-renamed own c in
          let rest = resolved_classes-renamed own cs in
          λ i. more_names (first i) (rest i)

    -- ---- patterns

    pub type_library-renamed : (d : Datatype) → type_library v es d ≡ named (type_library inherited ds d)
    type_library-renamed (t.string i) = sym r.none
    type_library-renamed (t.token i) = sym r.none
    type_library-renamed (t.named p l i) =
        ap (λ s. unwrap_or s []) (library_of-renamed ds p) ∙ unwrapped-renamed (library_of ds p)

    element_class : (c : NameClass)
        → resolved_class v es (default_of v es) c ≡ renamed_class named (resolved_class inherited ds (default_of inherited ds) c)
    element_class c =
        ap (λ u. resolved_class v es u c) (default_of-renamed named inherited ds) ∙ resolved_class-renamed (default_of inherited ds) c

    attribute_class : (c : NameClass) → resolved_class v es [] c ≡ renamed_class named (resolved_class inherited ds [] c)
    attribute_class c = ap (λ u. resolved_class v es u c) (sym r.none) ∙ resolved_class-renamed [] c

    mutual
      pub resolved_pattern-renamed : (p : Pattern) → resolved_pattern v es p ≡ renamed_tree named (resolved_pattern inherited ds p)
      resolved_pattern-renamed (t.element c p) =
          let class = element_class c in
          let inner = resolved_pattern-renamed p in
          λ i. element (class i) (inner i)
      resolved_pattern-renamed (t.attribute c p) =
          let class = attribute_class c in
          let inner = resolved_pattern-renamed p in
          λ i. attribute (class i) (inner i)
      resolved_pattern-renamed (t.list p) = ap list (resolved_pattern-renamed p)
      resolved_pattern-renamed (t.mixed p) = ap (λ p. interleave (pair p text)) (resolved_pattern-renamed p)
      resolved_pattern-renamed t.empty = refl
      resolved_pattern-renamed t.not_allowed = refl
      resolved_pattern-renamed t.text = refl
      resolved_pattern-renamed (t.ref x) = refl
      resolved_pattern-renamed (t.value None s) = ap (λ l. value l (codes "token") s) (sym r.none)
      resolved_pattern-renamed (t.value (Some d) s) = ap (λ l. value l (type_name inherited ds d) s) (type_library-renamed d)
      resolved_pattern-renamed (t.datum d ps) = ap (λ l. datum l (type_name inherited ds d) ps) (type_library-renamed d)
      resolved_pattern-renamed (t.datum_but d ps i p) =
          let library = type_library-renamed d in
          let but = resolved_pattern-renamed p in
          λ i. datum_but (library i) (type_name inherited ds d) ps (but i)
      resolved_pattern-renamed (t.repeated q.Question p) = ap (λ p. choice (pair p empty)) (resolved_pattern-renamed p)
      resolved_pattern-renamed (t.repeated q.Star p) = ap (λ p. choice (pair (one_or_more p) empty)) (resolved_pattern-renamed p)
      resolved_pattern-renamed (t.repeated q.Plus p) = ap one_or_more (resolved_pattern-renamed p)
      resolved_pattern-renamed (t.chain o.Comma ps) = ap group (resolved_patterns-renamed ps)
      resolved_pattern-renamed (t.chain o.Ampersand ps) = ap interleave (resolved_patterns-renamed ps)
      resolved_pattern-renamed (t.chain o.Bar ps) = ap choice (resolved_patterns-renamed ps)

      resolved_patterns-renamed : (ps : Patterns) → resolved_patterns v es ps ≡ renamed_trees named (resolved_patterns inherited ds ps)
      resolved_patterns-renamed t.no_patterns = refl
      resolved_patterns-renamed (t.pattern p ps) =
          let first = resolved_pattern-renamed p in
          let rest = resolved_patterns-renamed ps in
          λ i. more_trees (first i) (rest i)
