-- All URIs of resolved patterns are known, where the inherited one and those that are declared are.
use Rattle.std.proofs.Common.{ℕ, List, [], ◌∷◌, Option, Some, None, codes, IfSome}
use Rattle.std.specs.Prelude.{bytes_eq, unwrap_or, ⊤}
use Rattle.std.specs.List.{AllByRecursion}
use Rattle.std.proofs.lemmas.Bool.{cond_both}
use Rattle.rn_text.specs.Texts.{Text}
use Rattle.rn_syntax.specs.declared.tree.Operator.TheVariants as o
use Rattle.rn_syntax.specs.declared.tree.Postfix.TheVariants as q
use Rattle.rn_syntax.specs.Tree as t
use Rattle.rn_syntax.specs.Tree.{Datatype, NameClass, NameClasses, Pattern, Patterns, Uri, Declaration}
use Rattle.rn_syntax.specs.Places.{xml_uri, xsd_uri, declared_namespace, declared_library, library_of}
use Rattle.rn_assemble.specs.Resolve.{uri_text, declared_text, default_of, namespace_of, resolved_class, resolved_classes, type_library, resolved_pattern, resolved_patterns}
use Rattle.rn_assemble.specs.Components.{handed_on}
use Rattle.rn_assemble.specs.Renamed.{HasKnownNames, HaveKnownNames, HasKnownUris, HaveKnownUris, IsRenaming}
use Rattle.rn_assemble.specs.inside.RenamedModules.{DeclaresKnown}

module _ (Known : Text → Type 0) where
  abbrev IsKnown : Uri → Type 0
  IsKnown (t.literal u) = Known u
  IsKnown t.inherited = ⊤

  namespace_known : (p : Text) (i : ℕ) (u : Uri) → DeclaresKnown Known (t.namespace p i u) → IsKnown u
  namespace_known p i (t.literal u) h = h
  namespace_known p i t.inherited h = tt

  default_known : (i : ℕ) (p : Option (Text × ℕ)) (u : Uri) → DeclaresKnown Known (t.default i p u) → IsKnown u
  default_known i p (t.literal u) h = h
  default_known i p t.inherited h = tt

  abbrev AreKnown : List Declaration → Type 0
  AreKnown ds = AllByRecursion (DeclaresKnown Known) ds

  declared_known : (ds : List Declaration) (p : Text) → AreKnown ds → IfSome (declared_namespace ds p) IsKnown
  declared_known [] p h = tt
  declared_known (t.namespace s i u ∷ ds) p h =
      cond_both (bytes_eq s p) (Some u) (declared_namespace ds p) (λ o. IfSome o IsKnown)
      (λ _. namespace_known s i u h.0) (λ _. declared_known ds p h.1)
  declared_known (t.default i (Some s) u ∷ ds) p h =
      cond_both (bytes_eq s.0 p) (Some u) (declared_namespace ds p) (λ o. IfSome o IsKnown)
      (λ _. default_known i (Some s) u h.0) (λ _. declared_known ds p h.1)
  declared_known (t.default i None u ∷ ds) p h = declared_known ds p h.1
  declared_known (t.datatypes s i u ∷ ds) p h = declared_known ds p h.1

  library_known : (ds : List Declaration) (p : Text) → AreKnown ds → IfSome (declared_library ds p) Known
  library_known [] p h = tt
  library_known (t.namespace s i u ∷ ds) p h = library_known ds p h.1
  library_known (t.default i s u ∷ ds) p h = library_known ds p h.1
  library_known (t.datatypes s i u ∷ ds) p h =
      cond_both (bytes_eq s p) (Some u) (declared_library ds p) (λ o. IfSome o Known) (λ _. h.0) (λ _. library_known ds p h.1)

  uri_known : (inherited : Text) (u : Uri) → Known inherited → IsKnown u → Known (uri_text inherited u)
  uri_known inherited (t.literal u) k h = h
  uri_known inherited t.inherited k h = k

  pub default_of-known : (inherited : Text) (ds : List Declaration) → Known inherited → AreKnown ds → Known (default_of inherited ds)
  default_of-known inherited [] k h = k
  default_of-known inherited (t.default i p u ∷ ds) k h = uri_known inherited u k (default_known i p u h.0)
  default_of-known inherited (t.namespace p i u ∷ ds) k h = default_of-known inherited ds k h.1
  default_of-known inherited (t.datatypes p i u ∷ ds) k h = default_of-known inherited ds k h.1

module _ {named : Text → Text} {Known : Text → Type 0} (r : IsRenaming named Known) where
  text_known : (inherited : Text) (u : Option Uri) → Known inherited → IfSome u (IsKnown Known) → Known (declared_text inherited u)
  text_known inherited None k h = r.knows_none
  text_known inherited (Some u) k h = uri_known Known inherited u k h

  unwrapped_known : (s : Option Text) → IfSome s Known → Known (unwrap_or s [])
  unwrapped_known None h = r.knows_none
  unwrapped_known (Some s) h = h

  module _ (inherited : Text) (ds : List Declaration) (k : Known inherited) (h : AllByRecursion (DeclaresKnown Known) ds) where
    pub namespace_of-known : (p : Text) → Known (namespace_of inherited ds p)
    namespace_of-known p =
        cond_both (bytes_eq p (codes "xml")) xml_uri (declared_text inherited (declared_namespace ds p)) Known
        (λ _. r.knows_xml) (λ _. text_known inherited (declared_namespace ds p) k (declared_known Known ds p h))

    pub handed_on-known : (p : Option (Text × ℕ)) → Known (handed_on inherited ds p)
    handed_on-known None = default_of-known Known inherited ds k h
    handed_on-known (Some p) = namespace_of-known p.0

    pub type_library-known : (d : Datatype) → Known (type_library inherited ds d)
    type_library-known (t.string i) = r.knows_none
    type_library-known (t.token i) = r.knows_none
    type_library-known (t.named p l i) =
        unwrapped_known (library_of ds p)
        (cond_both (bytes_eq p (codes "xsd")) (Some xsd_uri) (declared_library ds p) (λ o. IfSome o Known)
        (λ _. r.knows_xsd) (λ _. library_known Known ds p h))

    mutual
      pub resolved_class-known : (own : Text) → Known own → (c : NameClass) → HasKnownNames Known (resolved_class inherited ds own c)
      resolved_class-known own l (t.name (t.local n)) = l
      resolved_class-known own l (t.name (t.prefixed p n i)) = namespace_of-known p
      resolved_class-known own l (t.all t.any) = tt
      resolved_class-known own l (t.all (t.any_of p i)) = namespace_of-known p
      resolved_class-known own l (t.all_but t.any c) = resolved_class-known own l c
      resolved_class-known own l (t.all_but (t.any_of p i) c) = (namespace_of-known p, resolved_class-known own l c)
      resolved_class-known own l (t.choice cs) = resolved_classes-known own l cs

      resolved_classes-known : (own : Text) → Known own → (cs : NameClasses)
          → HaveKnownNames Known (resolved_classes inherited ds own cs)
      resolved_classes-known own l t.no_classes = tt
      resolved_classes-known own l (t.class c cs) = (resolved_class-known own l c, resolved_classes-known own l cs)

    mutual
      pub resolved_pattern-known : (p : Pattern) → HasKnownUris Known (resolved_pattern inherited ds p)
      resolved_pattern-known (t.element c p) =
          (resolved_class-known (default_of inherited ds) (default_of-known Known inherited ds k h) c, resolved_pattern-known p)
      resolved_pattern-known (t.attribute c p) = (resolved_class-known [] r.knows_none c, resolved_pattern-known p)
      resolved_pattern-known (t.list p) = resolved_pattern-known p
      resolved_pattern-known (t.mixed p) = (resolved_pattern-known p, (tt, tt))
      resolved_pattern-known t.empty = tt
      resolved_pattern-known t.not_allowed = tt
      resolved_pattern-known t.text = tt
      resolved_pattern-known (t.ref x) = tt
      resolved_pattern-known (t.value None s) = r.knows_none
      resolved_pattern-known (t.value (Some d) s) = type_library-known d
      resolved_pattern-known (t.datum d ps) = type_library-known d
      resolved_pattern-known (t.datum_but d ps i p) = (type_library-known d, resolved_pattern-known p)
      resolved_pattern-known (t.repeated q.Question p) = (resolved_pattern-known p, (tt, tt))
      resolved_pattern-known (t.repeated q.Star p) = (resolved_pattern-known p, (tt, tt))
      resolved_pattern-known (t.repeated q.Plus p) = resolved_pattern-known p
      resolved_pattern-known (t.chain o.Comma ps) = resolved_patterns-known ps
      resolved_pattern-known (t.chain o.Ampersand ps) = resolved_patterns-known ps
      resolved_pattern-known (t.chain o.Bar ps) = resolved_patterns-known ps

      resolved_patterns-known : (ps : Patterns) → HaveKnownUris Known (resolved_patterns inherited ds ps)
      resolved_patterns-known t.no_patterns = tt
      resolved_patterns-known (t.pattern p ps) = (resolved_pattern-known p, resolved_patterns-known ps)
