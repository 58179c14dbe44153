-- Names that are referred to and not defined, gathered reference by reference and key by key.
use Rattle.std.proofs.Common.{◌≡◌, ◌⊎◌, ℕ, suc, ◌+◌, ◌<◌, ⊎_elim, inl, inr, Bool, List, [], ◌∷◌, ◌++◌, length, map, refl, sym, ap, ◌∙◌, subst, arith}
use Rattle.std.specs.Prelude.{◌↔◌, Contains, slice_get}
use Rattle.std.specs.List.{AllByRecursion}
use Rattle.std.proofs.lemmas.Bool.{cases_lt}
use Rattle.std.proofs.lemmas.List.{map-append}
use Rattle.std.proofs.lemmas.List.Elements.{Contains-append_cases, Contains-append_left, Contains-append_right, Contains-push, Contains-push_cases}
use Rattle.rn_text.specs.Texts.{Text}
use Rattle.rn_pattern.proofs.Ordered.InOrder.{contained_each, contains_cases, contains_front, each_contained}
use Rattle.rn_pattern.specs.Reached.{RefersTo}
use Rattle.rn_pattern.specs.declared.references.Reach.{Reach}
use Rattle.rn_pattern.specs.declared.references.Reach.TheVariants.{Everywhere, OutsideElements}
use Rattle.rn_syntax.specs.Tree as t
use Rattle.rn_syntax.specs.Tree.{Pattern, Patterns}
use Rattle.rn_syntax.specs.View.{boxed_view}
use Rattle.rn_assemble.specs.Combine.{joined_pattern}
use Rattle.rn_assemble.specs.Components.{Component, Key, NamedModule, set_components}
use Rattle.rn_assemble.specs.Diagnosed.{IsPlaced, IsReference, IsTrueFor, finding_refusal}
use Rattle.rn_assemble.specs.Refusal.{Refusal, undefined, rank}
use Rattle.rn_assemble.specs.declared.diagnosing.findings.Finding.{Finding}
use Rattle.rn_assemble.specs.Written.{all_referred, referred, written_at}
use Rattle.rn_assemble.specs.declared.diagnosing.places.ComponentPlace.{ComponentPlace}
use Rattle.rn_assemble.specs.declared.diagnosing.undefined_names.UndefinedName.{UndefinedName}
use Rattle.rn_assemble.specs.declared.reading.key_rows.WrittenComponent as code
use Rattle.rn_assemble.specs.inside.Diagnosing.{AddsRank, AddsUnmarked, AreReferred, AreUndefined, IsReferenceIn, KeepsNames, undefined_cmp, undefined_finding}
use Rattle.rn_assemble.specs.inside.Keyed.{key_at}
use Rattle.rn_assemble.specs.inside.ReferenceOrder.{AreDefinedKeys}
use Rattle.rn_assemble.specs.inside.Referred.{AreMarksOf, IsMarkedName, all_references, references}
use Rattle.rn_assemble.specs.inside.Rows.{IsRowOf, placed_view}
use Rattle.rn_assemble.proofs.Diagnoses.RefusalOrder.{in_order_map}
use Rattle.rn_assemble.proofs.Referring.GatheredReferences.{undefined_unmarked, unmarked_undefined}
use Rattle.rn_assemble.proofs.Naming.PlacedComponents.{row_is_written}
use Rattle.rn_assemble.proofs.Referring.ListMembers.{map_contained, map_contains}

module _ (row : List code.WrittenComponent) (names : List Text) (marks : List Bool) where
  pub unmarked_none : (us : List UndefinedName) → AddsUnmarked row names marks [] us us
  unmarked_none us = record { kept = λ u c. c; each = λ u c. inl c; all = λ x c. absurd (omega (arith, c.1)) }

  -- what was added in turn
  pub unmarked_both : (xs ys : List Text) (a b c : List UndefinedName) → AddsUnmarked row names marks xs a b → AddsUnmarked row names marks ys b c → AddsUnmarked row names marks (xs ++ ys) a c
  unmarked_both xs ys a b c h g = record {
    kept = λ u k. g.kept u (h.kept u k);
    each = λ u k. elim (g.each u k) [
      | inl before ↦ elim (h.each u before) [ inl held ↦ inl held | inr new ↦ inr (Contains-append_left xs ys u.name.now new.0, new.1, new.2) ]
      | inr new ↦ inr (Contains-append_right xs ys u.name.now new.0, new.1, new.2)
    ];
    all = λ x k never. elim (Contains-append_cases xs ys x k) [
      | inl l ↦ let (u, among, is) = h.all x l never in (u, g.kept u among, is)
      | inr r ↦ g.all x r never
    ];
  }

  -- a name with a mark adds nothing
  pub unmarked_passed : (x : Text) → IsMarkedName names marks x → (us : List UndefinedName) → AddsUnmarked row names marks (x ∷ []) us us
  unmarked_passed x m us = record {
    kept = λ u c. c;
    each = λ u c. inl c;
    all = λ y c never. absurd (never (subst (IsMarkedName names marks) (sym (only x y c)) m));
  }
    where
      only : (x y : Text) → Contains (x ∷ []) y → y ≡ x
      only x y c = ⊎_elim (λ e. sym e) (λ k. absurd (omega (arith, k.1))) (contains_cases x y [] c)

  pub unmarked_met : (x : Text) → ¬ IsMarkedName names marks x → (us new : List UndefinedName) (u : UndefinedName) → u.name.now ≡ x → IsReferenceIn row u → new ≡ us ++ u ∷ [] → AddsUnmarked row names marks (x ∷ []) us new
  unmarked_met x never us new u is placed e = record {
    kept = λ v c. subst (λ vs. Contains vs v) (sym e) (Contains-append_left us (u ∷ []) v c);
    each = λ v c. ⊎_elim (λ k. inl k) (λ same. inr (subst (Contains (x ∷ [])) (sym is ∙ ap (λ (w : UndefinedName). w.name.now) same) (contains_front x []), subst (λ y. ¬ IsMarkedName names marks y) (sym is ∙ ap (λ (w : UndefinedName). w.name.now) same) never, subst (IsReferenceIn row) same placed)) (Contains-push_cases us u v (subst (λ vs. Contains vs v) e c));
    all = λ y c n. (u, subst (λ vs. Contains vs u) (sym e) (Contains-push us u), is ∙ ⊎_elim (λ same. same) (λ k. absurd (omega (arith, k.1))) (contains_cases x y [] c));
  }

-- references of a component of the row are references of the row
pub unmarked_wider : (row : List code.WrittenComponent) (v : code.WrittenComponent) → Contains row v → (names : List Text) (marks : List Bool) (xs : List Text) (us new : List UndefinedName) → AddsUnmarked (v ∷ []) names marks xs us new → AddsUnmarked row names marks xs us new
unmarked_wider row v c names marks xs us new h = record {
  kept = h.kept;
  each = λ u k. elim (h.each u k) [
    | inl held ↦ inl held
    | inr more ↦ let at = more.2 in
        let same : v ≡ at.component = ⊎_elim (λ e. e) (λ i. absurd (omega (arith, i.1))) (contains_cases v at.component [] at.among) in
        inr (more.0, more.1, record { component = at.component; among = subst (Contains row) same c; component_is = at.component_is; at = at.at })
  ];
  all = h.all;
}

-- the names of a written pattern's references
mutual
  pub referred_is : (r : Reach) (p : Pattern) → map (λ (q : Text × Reach). q.0) (references r p) ≡ referred p
  referred_is r (t.element c p) = referred_is Everywhere p
  referred_is r (t.attribute c p) = referred_is r p
  referred_is r (t.list p) = referred_is r p
  referred_is r (t.mixed p) = referred_is r p
  referred_is r t.empty = refl
  referred_is r t.not_allowed = refl
  referred_is r t.text = refl
  referred_is r (t.ref x) = refl
  referred_is r (t.value d s) = refl
  referred_is r (t.datum d ps) = refl
  referred_is r (t.datum_but d ps i p) = referred_is r p
  referred_is r (t.repeated s p) = referred_is r p
  referred_is r (t.chain o ps) = all_referred_is r ps

  all_referred_is : (r : Reach) (ps : Patterns) → map (λ (q : Text × Reach). q.0) (all_references r ps) ≡ all_referred ps
  all_referred_is r t.no_patterns = refl
  all_referred_is r (t.pattern p ps) = map-append (λ (q : Text × Reach). q.0) (references r p) (all_references r ps) ∙ (λ i. referred_is r p i ++ all_referred_is r ps i)

-- what was added has its references in the modules
pub referred_more : (modules : List NamedModule) (k : Key) (row : List code.WrittenComponent) → IsRowOf modules k row → (names : List Text) (marks : List Bool) (xs : List Text) (us new : List UndefinedName) → AreReferred modules us → AddsUnmarked row names marks xs us new → AreReferred modules new
referred_more modules k row is names marks xs us new h a = each_contained (λ u. IsReference modules u.reference u.name.now) new (λ u c. elim (a.each u c) [
  | inl held ↦ contained_each (λ u. IsReference modules u.reference u.name.now) us h u held
  | inr more ↦ let r = more.2 in
      let w = r.component in
      record {
        definition = (placed_view k w).component;
        at = ap (λ (p : ComponentPlace). slice_get (written_at modules p.module.0) p.number) r.component_is ∙ row_is_written modules k row is w r.among;
        reference_is = ap (λ xs. slice_get xs u.reference.number) (sym (referred_is OutsideElements (boxed_view w.body))) ∙ r.at;
      }
])

-- ---- key by key

module _ (names : List Text) (cs : List Component) (marks : List Bool) where
  -- the names without a mark that the keys below a bound refer to
  pub record AreUnmarkedBelow (bound : ℕ) (us : List UndefinedName) : Type 0 where
    pub each : (u : UndefinedName) → Contains us u → (k : ℕ) × RefersTo u.name.now (joined_pattern cs (key_at names k)) × ¬ IsMarkedName names marks u.name.now
    pub all : (k : ℕ) (x : Text) → k < bound → RefersTo x (joined_pattern cs (key_at names k)) → ¬ IsMarkedName names marks x → (u : UndefinedName) × Contains us u × (u.name.now ≡ x)

  pub none_below : AreUnmarkedBelow 0 []
  none_below = record { each = λ u c. absurd (omega (arith, c.1)); all = λ k x l. absurd (omega (arith, l)) }

  pub more_below : (row : List code.WrittenComponent) (n : ℕ) (us new : List UndefinedName) (texts : List Text) → ((y : Text) → Contains texts y ↔ RefersTo y (joined_pattern cs (key_at names n))) → AddsUnmarked row names marks texts us new → AreUnmarkedBelow n us → AreUnmarkedBelow (n + 1) new
  more_below row n us new texts t a h = record {
    each = λ u c. ⊎_elim (h.each u) (λ k. (n, (t u.name.now).0 k.0, k.1)) (a.each u c);
    all = λ k x l r never. elim (cases_lt k n) [
      | inl less ↦ let (u, among, is) = h.all k x less r never in (u, a.kept u among, is)
      | inr more ↦ let same : k ≡ n = omega (arith, l, more) in a.all x ((t x).1 (subst (λ i. RefersTo x (joined_pattern cs (key_at names i))) same r)) never
    ];
  }

  -- those of all keys, in order, are the undefined names
  pub are_undefined : (keys : List ℕ) → AreDefinedKeys names cs keys → AreMarksOf keys (suc (length names)) marks → (bound : ℕ) → bound ≡ suc (length names) → (us new : List UndefinedName) → AreUnmarkedBelow bound us → KeepsNames us new → AreUndefined cs new
  are_undefined keys defined of_keys bound size us new h k = record {
    each = λ u c. let (n, r, never) = h.each u (k.each u c) in unmarked_undefined names cs keys defined marks of_keys u.name.now n r never;
    all = λ x i.
        let (n, l, r, never) = undefined_unmarked names cs keys defined marks of_keys x i in
        let (u, among, is) = h.all n x (omega (arith, l, size)) r never in
        let (v, there, same) = k.all u among in
        (v, there, same ∙ is);
    in_order = k.in_order;
  }

-- what is said of them
pub undefined_said : (modules : List NamedModule) (names : List Text) (us : List UndefinedName) → AreUndefined (set_components modules) us → AreReferred modules us → (old new : List Finding) → new ≡ old ++ map undefined_finding us → AddsRank modules names 9 old new
undefined_said modules names us h referred_at old new is = record {
  added = map undefined_finding us;
  new_is = is;
  true_of = of_each (λ f. IsTrueFor modules (finding_refusal modules ([] ∷ names) f)) h.each;
  ranked = of_each (λ f. rank (finding_refusal modules ([] ∷ names) f) ≡ 9) (λ u among. refl);
  in_order = in_order_map modules ([] ∷ names) undefined_finding undefined_cmp (Contains us) (λ u v c d less. inr less) us h.in_order (each_contained (Contains us) us (λ u c. c));
  placed = of_each (IsPlaced modules ([] ∷ names)) (contained_each (λ u. IsReference modules u.reference u.name.now) us referred_at);
  all = every;
}
  where
    of_each : (Q : Finding → Type 0) → ((u : UndefinedName) → Contains us u → Q (undefined_finding u)) → AllByRecursion Q (map undefined_finding us)
    of_each Q each = each_contained Q (map undefined_finding us) (λ f c. let (u, among, same) = map_contained undefined_finding us f c in subst Q same (each u among))

    every : (q : Refusal) → rank q ≡ 9 → IsTrueFor modules q → (f : Finding) × Contains (map undefined_finding us) f × (finding_refusal modules ([] ∷ names) f ≡ q)
    every (undefined x) e t = let (u, among, same) = h.all x t in (undefined_finding u, map_contains undefined_finding us u among, ap undefined same)
    every q e t = absurd (omega (arith, e))
