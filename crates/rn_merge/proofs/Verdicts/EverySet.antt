-- Every set has a verdict: that it has none is impossible.
use Rattle.std.proofs.Common.{◌≡◌, inl, inr, ℕ, ◌≤◌, Bool, true, false, List, [], ◌∷◌, map, length, Option, Some, refl, sym, ◌∙◌, subst, arith, Contains}
use Rattle.std.specs.Prelude.{bytes_eq}
use Rattle.std.specs.List.{AllZip}
use Rattle.std.specs.Cmp.Lexicographic.{bytes_decides}
use Rattle.std.proofs.lemmas.Bool.{cases_order}
use Rattle.std.proofs.lemmas.Option.{same_Some}
use Rattle.std.proofs.lemmas.Map.Views.{Contains-from_lookup}
use Rattle.rn_text.specs.Tokens.{lexeme_of}
use Rattle.rn_pattern.specs.Tree.{Tree}
use Rattle.rn_text.specs.Texts.{Text}
use Rattle.rn_pattern.specs.Matching.{Grammar, definition_of}
use Rattle.rn_pattern.specs.Reached.{IsReached, IsPruned, IsCanonicalOf, all_canonical}
use Rattle.rn_modset.specs.Contributions.{Member}
use Rattle.rn_modset.specs.Modules.{Module, Holds, IsEffective, IsConflict, AreEffective}
use Rattle.rn_modset.proofs.Unions.Membership.{In, in_from_contains, contains_from_in, in_from_has}
use Rattle.rn_syntax.specs.declared.fault.FaultKind.{FaultKind}
use Rattle.rn_syntax.specs.Faults.{kind_rank}
use Rattle.rn_assemble.specs.Components.{NamedModule}
use Rattle.rn_assemble.specs.Refusal.{HasTextFault, IsFaulty, Refusal, conflict, faulty, rank, IsModuleOf, AreModules, Stands, IsFirst, IsAssembled, grammar_of}
use Rattle.rn_assemble.proofs.Refusals.NoLeast.{no_text}
use Rattle.rn_simplify.specs.Spelling.{spelling}
use Rattle.rn_simplify.specs.ReadBack.{is_too_deep}
use Rattle.rn_simplify.specs.Verdict.{Verdict, prints, refused, too_large, too_deep, IsCanonicalOfSet, IsVerdict}
use Rattle.rn_merge.proofs.FaultsOfTexts.TextPlaces.{faultless_good}
use Rattle.rn_merge.proofs.Verdicts.NameEntries.{no_first, in_map, names_sorted, never_no_entries}

-- ---- a set without refusal has a grammar

module _ (s : List Member) where
  abbrev names : List Text
  names = map (λ (m : Member). m.name) s

  held_name : (x : Text) (r : ℕ) (t : Option Text) → Holds s x r t → In x names
  held_name x r t h = let m : Member = record { name = x; revision = r; text = t } in in_map (λ (m : Member). m.name) m s (in_from_has s m h)

  effective_name : (x t : Text) → IsEffective s x t → In x names
  effective_name x t (r, highest, only) = held_name x r highest.text highest.held

  one_text : (x t u : Text) → IsEffective s x t → IsEffective s x u → t ≡ u
  one_text x t u (r, h, only) (q, k, other) =
      let same : r ≡ q = omega (arith, h.highest q k.text k.held, k.highest r h.text h.held) in
      same_Some t u ((other (Some t)).0 (subst (λ n. Holds s x n (Some t)) same ((only (Some t)).1 refl)))

  module _ (none : (q : Refusal) → ¬ Stands s q) where
    agreed : (x : Text) (r : ℕ) → ¬ IsConflict s x r
    agreed x r c =
        no_text (λ n. (p : ℕ) × IsConflict s n p) names
        (λ n (p, k). contains_from_in names n (held_name n p k.0.text k.0.held))
        (λ n least. none (conflict n least.holds.0) (least.holds.1, λ y p k. least.least y (p, k)))
        x (r, c)

    never_texts : ((texts : List Module) → AreEffective s texts → ⊥) → ⊥
    never_texts lacks = never_no_entries (IsEffective s) one_text names effective_name (λ texts order are.
        lacks texts (record { in_order = order; are = are; agreed = agreed }))

    module _ (texts : List Module) (a : AreEffective s texts) where
      faulty_name : (x : Text) → IsFaulty texts x → Contains (map (λ (m : Module). m.0) texts) x
      faulty_name x (text, inside, f) =
          contains_from_in (map (λ (m : Module). m.0) texts) x (in_map (λ (m : Module). m.0) (x, text) texts (in_from_contains texts (x, text) inside))

      faultless : (x : Text) → ¬ IsFaulty texts x
      faultless = no_text (IsFaulty texts) (map (λ (m : Module). m.0) texts) faulty_name (λ x least.
          let (text, inside, (f, has)) = least.holds in
          no_first kind_rank (HasTextFault text) (λ g h low. none (faulty g x) (texts, a, least, (text, inside, (h, low)))) f has)

    abbrev AreTrees : List Module → List NamedModule → Type 0
    AreTrees texts modules = AllZip (λ (x : Module) (m : NamedModule). (m.name ≡ x.0) × IsModuleOf x.1 m.tree) texts modules

    never_trees : (texts : List Module) → ((x : Module) → In x texts → (f : FaultKind) → ¬ HasTextFault x.1 f) → ((modules : List NamedModule) → AreTrees texts modules → ⊥) → ⊥
    never_trees [] h lacks = lacks [] tt
    never_trees (x ∷ texts) h lacks = never_trees texts (λ y i. h y (inr i)) (λ modules are.
        faultless_good x.1 (h x (inl refl)) (λ (tokens, m, t, shallow, tree, sound).
        lacks (record { name = x.0; tree = m } ∷ modules) ((refl, (t.utf8, (map lexeme_of tokens, t.are, tree))), are)))

    never_modules : ((modules : List NamedModule) → AreModules s modules → ⊥) → ⊥
    never_modules lacks = never_texts (λ texts a.
        let good = faultless texts a in
        never_trees texts (λ x i f has. good x.0 (x.1, contains_from_in texts x i, (f, has))) (λ modules trees.
        lacks modules (record { texts = texts; are_effective = a; faultless = good; trees = trees })))

    pub never_unassembled : ((g : Grammar) → ¬ IsAssembled s g) → ⊥
    never_unassembled lacks = never_modules (λ modules are. lacks (grammar_of modules) (none, (modules, are, refl)))

  -- a set with a refusal has a first one
  pub no_refusal : ((q : Refusal) → ¬ IsFirst s q) → (q : Refusal) → ¬ Stands s q
  no_refusal lacks = no_first rank (Stands s) (λ q h low. lacks q (h, low))

-- ---- a grammar has a canonical one

module _ (F : Grammar) where
  abbrev IsKept : Text → Tree → Type 0
  IsKept x p = IsReached F x × (definition_of F x ≡ Some p)

  defined_name : (x : Text) (p : Tree) → IsKept x p → In x (map (λ (d : Text × Tree). d.0) F.definitions)
  defined_name x p h =
      let inside : Contains {X = Text × Tree} F.definitions (x, p) = Contains-from_lookup {eq = bytes_eq} (λ y z e. (bytes_decides y z).0 e) x p F.definitions h.1 in
      in_map (λ (d : Text × Tree). d.0) (x, p) F.definitions (in_from_contains F.definitions (x, p) inside)

  never_unpruned : ((N : Grammar) → ¬ IsPruned F N) → ⊥
  never_unpruned lacks =
      never_no_entries IsKept (λ x p q h k. same_Some p q (sym h.1 ∙ k.1)) (map (λ (d : Text × Tree). d.0) F.definitions) defined_name (λ ds order are.
      lacks (record { start = F.start; definitions = ds }) (record { start = refl; definitions = are; in_order = names_sorted ds order }))

pub never_uncanonical : (G : Grammar) → ((N : Grammar) → ¬ IsCanonicalOf G N) → ⊥
never_uncanonical G lacks = never_unpruned (all_canonical G) lacks

-- ---- a canonical grammar has a text, or one that is too long or too deep

module _ (s : List Member) (lacks : (v : Verdict) → ¬ IsVerdict s v) where
  never_shown : (n : Grammar) → IsCanonicalOfSet s n → length (spelling n) ≤ 4194304 → (b : Bool) → is_too_deep n ≡ b → ⊥
  never_shown n c short true e = lacks too_deep (n, c, (short, e))
  never_shown n c short false e = lacks (prints (spelling n)) (n, c, (short, e, refl))

  never_canonical : (n : Grammar) → ¬ IsCanonicalOfSet s n
  never_canonical n c = elim (cases_order 4194304 (length (spelling n))) [
    | inl same ↦ never_shown n c (omega (arith, same)) (is_too_deep n) refl
    | inr other ↦ elim other [
      | inl more ↦ lacks too_large (n, c, more)
      | inr less ↦ never_shown n c (omega (arith, less)) (is_too_deep n) refl
    ]
  ]

  pub never_no_verdict : ⊥
  never_no_verdict = never_unassembled s (no_refusal s (λ q h. lacks (refused q) h)) (λ g a. never_uncanonical g (λ n c. never_canonical n (g, a, c)))
