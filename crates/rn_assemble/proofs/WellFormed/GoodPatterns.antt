-- Patterns of good modules without faults, resolved: their names and texts can be written.
use Rattle.std.proofs.Common.{◌≡◌, ℕ, Bool, true, false, ◌&&◌, ◌||◌, not, cond, List, [], ◌∷◌, ◌++◌, Option, Some, None, is_some, refl, sym, subst, ⊎_elim, ltb}
use Rattle.std.specs.Prelude.{⊤, bytes_eq, codes, unwrap_or}
use Rattle.std.specs.List.{list_all}
use Rattle.std.proofs.lemmas.Bool.{false≢true, or_cases}
use Rattle.std.proofs.lemmas.Slice.Eq.{bytes_eq-Decides}
use Rattle.rn_text.specs.Characters.{is_xml_char}
use Rattle.rn_pattern.specs.Tree as w
use Rattle.rn_pattern.specs.Tree.{Tree, Trees, no_trees, more_trees, NameTree}
use Rattle.rn_text.specs.Texts.{Text}
use Rattle.rn_pattern.specs.Excepts.{IsExcept, AreExcepts, HasExcepts, HaveExcepts}
use Rattle.rn_syntax.specs.declared.tree.Operator.TheVariants as o
use Rattle.rn_syntax.specs.declared.tree.Postfix.TheVariants as r
use Rattle.rn_syntax.specs.Tree as t
use Rattle.rn_syntax.specs.Tree.{Name, Datatype, Params, AnyName, NameClass, NameClasses, Pattern, Patterns, Uri, Declaration}
use Rattle.rn_syntax.specs.Places.{xml_uri, xsd_uri, declared_namespace, declared_library, library_of, place_if, has_any, is_library, is_context_type, unbound_type, wrong_builtin, context_value, pattern_places, patterns_places}
use Rattle.rn_syntax.proofs.TokenKinds.PieceTokens.{ascii}
use Rattle.rn_syntax.proofs.Lists.EmptyLists.{nil_parts}
use Rattle.rn_assemble.specs.Resolve.{uri_text, declared_text, default_of, namespace_of, resolved_class, resolved_classes, type_library, type_name, every_name, every_name_but, resolved_pattern, resolved_patterns}
use Rattle.rn_assemble.specs.WritableTexts.{IsName, IsXml, AreParams, needs_context, IsType, string_type, token_type, library_type, IsData, bare, with_params, Free, IsWritableName, AreWritableNames, IsWritable, AreWritable}
use Rattle.rn_assemble.proofs.WellFormed.Terminals.{xml_is, xml_nothing}
use Rattle.rn_assemble.proofs.WellFormed.GoodTrees.{IsGoodUri, IsGoodName, IsGoodClass, AreGoodClasses, IsGoodDatatype, IsGoodPattern, AreGoodPatterns, AreGoodDeclarations}

-- ---- namespaces and libraries

pub ascii_xml : (cs : Text) → list_all is_xml_char cs ≡ true → list_all (λ c. ltb c 128) cs ≡ true → IsXml cs
ascii_xml cs e a = subst IsXml (ascii cs a) (xml_is cs e)

pub xml_namespace : IsXml xml_uri
unfolding is_xml_char
xml_namespace = ascii_xml xml_uri refl refl

pub xsd_library : IsXml xsd_uri
unfolding is_xml_char
xsd_library = ascii_xml xsd_uri refl refl

abbrev IsGoodOption : Option Uri → Type 0
IsGoodOption None = ⊤
IsGoodOption (Some u) = IsGoodUri u

chosen : {X : Type 0} (P : X → Type 0) (b : Bool) (x y : X) → P x → P y → P (cond b x y)
chosen P true x y h k = h
chosen P false x y h k = k

declared_good : (ds : List Declaration) (p : Text) → AreGoodDeclarations ds → IsGoodOption (declared_namespace ds p)
declared_good [] p h = tt
declared_good (t.namespace q i u ∷ ds) p h = chosen IsGoodOption (bytes_eq q p) (Some u) (declared_namespace ds p) h.0 (declared_good ds p h.1)
declared_good (t.default i (Some q) u ∷ ds) p h = chosen IsGoodOption (bytes_eq q.0 p) (Some u) (declared_namespace ds p) h.0 (declared_good ds p h.1)
declared_good (t.default i None u ∷ ds) p h = declared_good ds p h.1
declared_good (t.datatypes q i s ∷ ds) p h = declared_good ds p h.1

abbrev IsXmlOption : Option Text → Type 0
IsXmlOption None = ⊤
IsXmlOption (Some s) = IsXml s

library_good : (ds : List Declaration) (p : Text) → AreGoodDeclarations ds → IsXmlOption (declared_library ds p)
library_good [] p h = tt
library_good (t.namespace q i u ∷ ds) p h = library_good ds p h.1
library_good (t.default i q u ∷ ds) p h = library_good ds p h.1
library_good (t.datatypes q i s ∷ ds) p h = chosen IsXmlOption (bytes_eq q p) (Some s) (declared_library ds p) h.0 (library_good ds p h.1)

unwrapped : (s : Option Text) → IsXmlOption s → IsXml (unwrap_or s [])
unwrapped None h = xml_nothing
unwrapped (Some s) h = h

module _ (inherited : Text) (ds : List Declaration) (x : IsXml inherited) (d : AreGoodDeclarations ds) where
  uri_xml : (u : Uri) → IsGoodUri u → IsXml (uri_text inherited u)
  uri_xml (t.literal u) h = h
  uri_xml t.inherited h = x

  declared_xml : (u : Option Uri) → IsGoodOption u → IsXml (declared_text inherited u)
  declared_xml None h = xml_nothing
  declared_xml (Some u) h = uri_xml u h

  default_xml_of : (es : List Declaration) → AreGoodDeclarations es → IsXml (default_of inherited es)
  default_xml_of [] h = x
  default_xml_of (t.default i p u ∷ es) h = uri_xml u h.0
  default_xml_of (t.namespace p i u ∷ es) h = default_xml_of es h.1
  default_xml_of (t.datatypes p i s ∷ es) h = default_xml_of es h.1

  pub default_xml : IsXml (default_of inherited ds)
  default_xml = default_xml_of ds d

  pub namespace_xml : (p : Text) → IsXml (namespace_of inherited ds p)
  namespace_xml p = chosen IsXml (bytes_eq p (codes "xml")) xml_uri (declared_text inherited (declared_namespace ds p)) xml_namespace (declared_xml (declared_namespace ds p) (declared_good ds p d))

  library_xml : (p : Text) → IsXml (unwrap_or (library_of ds p) [])
  library_xml p = unwrapped (library_of ds p) (chosen IsXmlOption (bytes_eq p (codes "xsd")) (Some xsd_uri) (declared_library ds p) xsd_library (library_good ds p d))

  pub type_xml : (y : Datatype) → IsXml (type_library inherited ds y)
  type_xml (t.string i) = xml_nothing
  type_xml (t.token i) = xml_nothing
  type_xml (t.named p l i) = library_xml p

  -- ---- name classes

  named_writable : (own : Text) → IsXml own → (n : Name) → IsGoodName n → IsWritableName (resolved_class inherited ds own (t.name n))
  named_writable own e (t.local l) h = (e, h)
  named_writable own e (t.prefixed p l i) h = (namespace_xml p, h)

  every_writable : (a : AnyName) → IsWritableName (every_name inherited ds a)
  every_writable t.any = tt
  every_writable (t.any_of p i) = namespace_xml p

  every_but_writable : (a : AnyName) (c : NameTree) → IsWritableName c → IsWritableName (every_name_but inherited ds a c)
  every_but_writable t.any c h = h
  every_but_writable (t.any_of p i) c h = (namespace_xml p, h)

  module _ (own : Text) (e : IsXml own) where
    mutual
      class_writable : (c : NameClass) → IsGoodClass c → IsWritableName (resolved_class inherited ds own c)
      class_writable (t.name n) h = named_writable own e n h
      class_writable (t.all a) h = every_writable a
      class_writable (t.all_but a c) h = every_but_writable a (resolved_class inherited ds own c) (class_writable c h)
      class_writable (t.choice t.no_classes) h = absurd h
      class_writable (t.choice (t.class c cs)) h = (class_writable c h.0, classes_writable cs h.1)

      classes_writable : (cs : NameClasses) → AreGoodClasses cs → AreWritableNames (resolved_classes inherited ds own cs)
      classes_writable t.no_classes h = tt
      classes_writable (t.class c cs) h = (class_writable c h.0, classes_writable cs h.1)

-- ---- datatypes

builtin_type : (l : Text) → (bytes_eq l (codes "string") || bytes_eq l (codes "token")) ≡ true → IsType Free [] l
builtin_type l e =
    ⊎_elim (λ h. subst (IsType Free []) (sym ((bytes_eq-Decides l (codes "string")).0 h)) string_type) (λ h. subst (IsType Free []) (sym ((bytes_eq-Decides l (codes "token")).0 h)) token_type)
    (or_cases (bytes_eq l (codes "string")) (bytes_eq l (codes "token")) e)

no_place : (b : Bool) (i : ℕ) → place_if b i ≡ [] → b ≡ false
no_place true i e = cc
no_place false i e = refl

not_false : (b : Bool) → not b ≡ false → b ≡ true
not_false true e = refl
not_false false e = absurd (false≢true (sym e))

module _ (ds : List Declaration) where
  data_at : (s : Option Text) (l : Text) (ps : Params) (i : ℕ) → place_if (not (is_some s)) i ≡ []
      → place_if (is_library s [] && (has_any ps || not (bytes_eq l (codes "string") || bytes_eq l (codes "token")))) i ≡ [] → IsName l → AreParams ps → IsData Free (unwrap_or s []) l ps
  data_at None l ps i u b n h = cc
  data_at (Some []) l [] i u b n h = bare (builtin_type l (not_false (bytes_eq l (codes "string") || bytes_eq l (codes "token")) (no_place _ i b)))
  data_at (Some []) l (p ∷ ps) i u b n h = cc
  data_at (Some (c ∷ k)) l [] i u b n h = bare (library_type tt n)
  data_at (Some (c ∷ k)) l (p ∷ ps) i u b n h = with_params tt n h

  no_params : (ps : Params) (i : ℕ) → place_if (has_any ps) i ≡ [] → ps ≡ []
  no_params [] i e = refl
  no_params (p ∷ ps) i e = cc

  data_good : (inherited : Text) (v : Bool) (y : Datatype) (ps : Params) → unbound_type ds v y ps ≡ [] → wrong_builtin ds v y ps ≡ [] → IsGoodDatatype y → AreParams ps → IsData Free (type_library inherited ds y) (type_name inherited ds y) ps
  data_good inherited v (t.string i) ps u b n h = subst (IsData Free [] (codes "string")) (sym (no_params ps i b)) (bare string_type)
  data_good inherited v (t.token i) ps u b n h = subst (IsData Free [] (codes "token")) (sym (no_params ps i b)) (bare token_type)
  data_good inherited v (t.named p l i) ps u b n h = data_at (library_of ds p) l ps i u b n h

  type_of : {l x : Text} → IsData Free l x [] → IsType Free l x
  type_of (bare h) = h

  context_at : (s : Option Text) (l : Text) (i : ℕ) → place_if (not (is_some s)) i ≡ [] → place_if (is_library s xsd_uri && is_context_type l) i ≡ [] → needs_context (unwrap_or s []) l ≡ false
  context_at None l i u e = cc
  context_at (Some k) l i u e = no_place _ i e

  context_good : (inherited : Text) (y : Datatype) → unbound_type ds true y [] ≡ [] → context_value ds true y [] ≡ [] → needs_context (type_library inherited ds y) (type_name inherited ds y) ≡ false
  context_good inherited (t.string i) u e = refl
  context_good inherited (t.token i) u e = refl
  context_good inherited (t.named p l i) u e = context_at (library_of ds p) l i u e

-- ---- places by the parts of a pattern

module _ (c : NameClass → List ℕ) (d : Bool → Datatype → Params → List ℕ) (e : ℕ → Pattern → List ℕ) where
  abbrev mutual
    pub HasNone : Pattern → Type 0
    HasNone (t.element n p) = (c n ≡ []) × HasNone p
    HasNone (t.attribute n p) = (c n ≡ []) × HasNone p
    HasNone (t.list p) = HasNone p
    HasNone (t.mixed p) = HasNone p
    HasNone t.empty = ⊤
    HasNone t.not_allowed = ⊤
    HasNone t.text = ⊤
    HasNone (t.ref n) = ⊤
    HasNone (t.value None s) = ⊤
    HasNone (t.value (Some x) s) = d true x [] ≡ []
    HasNone (t.datum x ps) = d false x ps ≡ []
    HasNone (t.datum_but x ps i p) = (d false x ps ≡ []) × HasNone p
    HasNone (t.repeated s p) = HasNone p
    HasNone (t.chain op ps) = HaveNone ps

    pub HaveNone : Patterns → Type 0
    HaveNone t.no_patterns = ⊤
    HaveNone (t.pattern p ps) = HasNone p × HaveNone ps

  mutual
    pub has_none : (p : Pattern) → pattern_places c d e p ≡ [] → HasNone p
    has_none (t.element n p) h = let both = nil_parts (c n) (pattern_places c d e p) h in (both.0, has_none p both.1)
    has_none (t.attribute n p) h = let both = nil_parts (c n) (pattern_places c d e p) h in (both.0, has_none p both.1)
    has_none (t.list p) h = has_none p h
    has_none (t.mixed p) h = has_none p h
    has_none t.empty h = tt
    has_none t.not_allowed h = tt
    has_none t.text h = tt
    has_none (t.ref n) h = tt
    has_none (t.value None s) h = tt
    has_none (t.value (Some x) s) h = h
    has_none (t.datum x ps) h = h
    has_none (t.datum_but x ps i p) h = let all = nil_parts (d false x ps ++ e i p) (pattern_places c d e p) h in ((nil_parts (d false x ps) (e i p) all.0).0, has_none p all.1)
    has_none (t.repeated s p) h = has_none p h
    has_none (t.chain op ps) h = have_none ps h

    pub have_none : (ps : Patterns) → patterns_places c d e ps ≡ [] → HaveNone ps
    have_none t.no_patterns h = tt
    have_none (t.pattern p ps) h = let both = nil_parts (pattern_places c d e p) (patterns_places c d e ps) h in (has_none p both.0, have_none ps both.1)

-- ---- patterns

mutual
  except_has : (p : Tree) → IsExcept p → HasExcepts p
  except_has w.not_allowed h = tt
  except_has (w.value l x s) h = tt
  except_has (w.datum l x ps) h = tt
  except_has (w.datum_but l x ps p) h = h
  except_has (w.choice ps) h = excepts_have ps h
  except_has p h = absurd h

  excepts_have : (ps : Trees) → AreExcepts ps → HaveExcepts ps
  excepts_have no_trees h = tt
  excepts_have (more_trees p ps) h = (except_has p h.0, excepts_have ps h.1)

module _ (inherited : Text) (ds : List Declaration) (x : IsXml inherited) (good : AreGoodDeclarations ds) (classes : NameClass → List ℕ) where
  -- bound, of the built-in library, no value of bindings
  abbrev Bound : Pattern → Type 0
  Bound = HasNone classes (unbound_type ds) (λ _ _. [])

  abbrev Builtin : Pattern → Type 0
  Builtin = HasNone (λ _. []) (wrong_builtin ds) (λ _ _. [])

  abbrev NoContext : Pattern → Type 0
  NoContext = HasNone (λ _. []) (context_value ds) (λ _ _. [])

  abbrev AllBound : Patterns → Type 0
  AllBound = HaveNone classes (unbound_type ds) (λ _ _. [])

  abbrev AllBuiltin : Patterns → Type 0
  AllBuiltin = HaveNone (λ _. []) (wrong_builtin ds) (λ _ _. [])

  abbrev AllNoContext : Patterns → Type 0
  AllNoContext = HaveNone (λ _. []) (context_value ds) (λ _ _. [])

  own_xml : IsXml (default_of inherited ds)
  own_xml = default_xml inherited ds x good

  mutual
    pub resolved_writable : (p : Pattern) → IsGoodPattern p → Bound p → Builtin p → NoContext p → HasExcepts (resolved_pattern inherited ds p) → IsWritable (resolved_pattern inherited ds p)
    resolved_writable (t.element c p) g u b k h = (class_writable inherited ds x good (default_of inherited ds) own_xml c g.0, resolved_writable p g.1 u.1 b.1 k.1 h)
    resolved_writable (t.attribute c p) g u b k h = (class_writable inherited ds x good [] xml_nothing c g.0, resolved_writable p g.1 u.1 b.1 k.1 h)
    resolved_writable (t.list p) g u b k h = resolved_writable p g u b k h
    resolved_writable (t.mixed p) g u b k h = (resolved_writable p g u b k h.0, (tt, tt))
    resolved_writable t.empty g u b k h = tt
    resolved_writable t.not_allowed g u b k h = tt
    resolved_writable t.text g u b k h = tt
    resolved_writable (t.ref n) g u b k h = g
    resolved_writable (t.value None s) g u b k h = (xml_nothing, token_type, refl, g)
    resolved_writable (t.value (Some y) s) g u b k h = (type_xml inherited ds x good y, type_of ds (data_good ds inherited true y [] u b g.0 tt), context_good ds inherited y u k, g.1)
    resolved_writable (t.datum y ps) g u b k h = (type_xml inherited ds x good y, data_good ds inherited false y ps u b g.0 g.1)
    resolved_writable (t.datum_but y ps i p) g u b k h =
        (type_xml inherited ds x good y, data_good ds inherited false y ps u.0 b.0 g.0 g.1, h, resolved_writable p g.2 u.1 b.1 k.1 (except_has (resolved_pattern inherited ds p) h))
    resolved_writable (t.repeated r.Question p) g u b k h = (resolved_writable p g u b k h.0, (tt, tt))
    resolved_writable (t.repeated r.Star p) g u b k h = (resolved_writable p g u b k h.0, (tt, tt))
    resolved_writable (t.repeated r.Plus p) g u b k h = resolved_writable p g u b k h
    resolved_writable (t.chain o.Comma ps) g u b k h = all_resolved_writable ps g u b k h
    resolved_writable (t.chain o.Ampersand ps) g u b k h = all_resolved_writable ps g u b k h
    resolved_writable (t.chain o.Bar ps) g u b k h = all_resolved_writable ps g u b k h

    all_resolved_writable : (ps : Patterns) → AreGoodPatterns ps → AllBound ps → AllBuiltin ps → AllNoContext ps → HaveExcepts (resolved_patterns inherited ds ps) → AreWritable (resolved_patterns inherited ds ps)
    all_resolved_writable t.no_patterns g u b k h = tt
    all_resolved_writable (t.pattern p ps) g u b k h = (resolved_writable p g.0 u.0 b.0 k.0 h.0, all_resolved_writable ps g.1 u.1 b.1 k.1 h.1)
