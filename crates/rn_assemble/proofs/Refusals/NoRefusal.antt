-- Where no refusal stands for modules of faultless texts, their grammar is well-formed.
use Rattle.std.proofs.Common.{◌≡◌, inl, inr, ⊎_elim, Bool, true, false, ◌||◌, cond, List, [], ◌∷◌, ◌++◌, map, Option, Some, None, refl, sym, ap, ◌∙◌, subst, Contains}
use Rattle.std.specs.Prelude.{bytes_eq, flat_map, IfSome, IsSomeAnd}
use Rattle.std.specs.List.{AllByRecursion}
use Rattle.std.specs.Cmp.Lexicographic.{bytes_decides}
use Rattle.std.proofs.lemmas.Bool.{false≢true, cases_Bool, or_cases}
use Rattle.std.proofs.lemmas.Map.Views.{Contains-from_lookup}
use Rattle.rn_pattern.specs.Tree as t
use Rattle.rn_pattern.specs.Tree.{Tree, Trees, no_trees, more_trees, NameTree, NameTrees, any_name, any_name_but, ns_name, ns_name_but, name, name_choice, no_names, more_names}
use Rattle.rn_text.specs.Texts.{Text}
use Rattle.rn_pattern.specs.Matching.{Grammar, definition_of}
use Rattle.rn_pattern.specs.Reached.{RefersTo, SomeRefersTo}
use Rattle.rn_pattern.specs.References.{RefersOutside, LeadsTo, by_one, by_more, IsUndefined, IsRecursive}
use Rattle.rn_pattern.specs.NameRules.{HasNoAny, HaveNoAny, HasNamesAlone, HaveNamesAlone, HasNameExcepts, HaveNameExcepts, HasNoDeclaration, HaveNoDeclaration, KeepsNameRules, KeepNameRules}
use Rattle.rn_pattern.proofs.Ordered.Ascending.{each_front, each_behind}
use Rattle.rn_pattern.proofs.Ordered.InOrder.{each_contained, contained_each}
use Rattle.rn_modset.specs.Contributions.{Member}
use Rattle.rn_syntax.specs.Places.{except_places}
use Rattle.rn_assemble.specs.Components.{Key, start_key, name_key, same_key, Component, NamedModule, has_key, set_components}
use Rattle.rn_assemble.specs.Combine.{of_key, bodies, method_node, joined_tree, joined_pattern}
use Rattle.rn_assemble.specs.Refusal.{Refusal, conflict, faulty, no_start, undefined, recursive, name_class, BreaksNameRules, StandsFor, Stands, AreModules, grammar_of}
use Rattle.rn_assemble.specs.WellFormed.{IsWellFormed}
use Rattle.rn_assemble.proofs.Combined.Combinations.{some_joined, joined_definition}
use Rattle.rn_assemble.proofs.WellFormed.ComponentExcepts.{set_excepts}
use Rattle.rn_assemble.proofs.WellFormed.GoodComponents.{IsFaultless, modules_faultless}
use Rattle.rn_assemble.proofs.Combined.JoinedProperties.{joined_excepts, joined_definition_excepts}
use Rattle.rn_assemble.proofs.Refusals.NoLeast.{no_text, no_key}

-- ---- what is not refuted of the restrictions on name classes holds

abbrev Not : Type 0 → Type 0
Not A = A → ⊥

mutual
  any_stable : (c : NameTree) → Not (Not (HasNoAny c)) → HasNoAny c
  any_stable any_name h = h (λ x. x)
  any_stable (any_name_but c) h = h (λ x. x)
  any_stable (ns_name u) h = tt
  any_stable (ns_name_but u c) h = any_stable c h
  any_stable (name u l) h = tt
  any_stable (name_choice cs) h = anys_stable cs h

  anys_stable : (cs : NameTrees) → Not (Not (HaveNoAny cs)) → HaveNoAny cs
  anys_stable no_names h = tt
  anys_stable (more_names c cs) h = (any_stable c (λ n. h (λ x. n x.0)), anys_stable cs (λ n. h (λ x. n x.1)))

mutual
  alone_stable : (c : NameTree) → Not (Not (HasNamesAlone c)) → HasNamesAlone c
  alone_stable (name u l) h = tt
  alone_stable (name_choice cs) h = alones_stable cs h
  alone_stable c h = h (λ x. x)

  alones_stable : (cs : NameTrees) → Not (Not (HaveNamesAlone cs)) → HaveNamesAlone cs
  alones_stable no_names h = tt
  alones_stable (more_names c cs) h = (alone_stable c (λ n. h (λ x. n x.0)), alones_stable cs (λ n. h (λ x. n x.1)))

mutual
  excepts_stable : (c : NameTree) → Not (Not (HasNameExcepts c)) → HasNameExcepts c
  excepts_stable any_name h = tt
  excepts_stable (any_name_but c) h = (any_stable c (λ n. h (λ x. n x.0)), excepts_stable c (λ n. h (λ x. n x.1)))
  excepts_stable (ns_name u) h = tt
  excepts_stable (ns_name_but u c) h = (alone_stable c (λ n. h (λ x. n x.0)), excepts_stable c (λ n. h (λ x. n x.1)))
  excepts_stable (name u l) h = tt
  excepts_stable (name_choice cs) h = all_excepts_stable cs h

  all_excepts_stable : (cs : NameTrees) → Not (Not (HaveNameExcepts cs)) → HaveNameExcepts cs
  all_excepts_stable no_names h = tt
  all_excepts_stable (more_names c cs) h = (excepts_stable c (λ n. h (λ x. n x.0)), all_excepts_stable cs (λ n. h (λ x. n x.1)))

mutual
  undeclared_stable : (c : NameTree) → Not (Not (HasNoDeclaration c)) → HasNoDeclaration c
  undeclared_stable any_name h = tt
  undeclared_stable (any_name_but c) h = undeclared_stable c h
  undeclared_stable (ns_name u) h = λ e. h (λ n. n e)
  undeclared_stable (ns_name_but u c) h = (λ e. h (λ n. n.0 e), undeclared_stable c (λ n. h (λ x. n x.1)))
  undeclared_stable (name u l) h = (λ e. h (λ n. n.0 e), λ e. h (λ n. n.1 e))
  undeclared_stable (name_choice cs) h = all_undeclared_stable cs h

  all_undeclared_stable : (cs : NameTrees) → Not (Not (HaveNoDeclaration cs)) → HaveNoDeclaration cs
  all_undeclared_stable no_names h = tt
  all_undeclared_stable (more_names c cs) h = (undeclared_stable c (λ n. h (λ x. n x.0)), all_undeclared_stable cs (λ n. h (λ x. n x.1)))

mutual
  rules_stable : (p : Tree) → Not (Not (KeepsNameRules p)) → KeepsNameRules p
  rules_stable (t.datum_but l x ps p) h = rules_stable p h
  rules_stable (t.list p) h = rules_stable p h
  rules_stable (t.attribute c p) h = (excepts_stable c (λ n. h (λ x. n x.0)), undeclared_stable c (λ n. h (λ x. n x.1)), rules_stable p (λ n. h (λ x. n x.2)))
  rules_stable (t.element c p) h = (excepts_stable c (λ n. h (λ x. n x.0)), rules_stable p (λ n. h (λ x. n x.1)))
  rules_stable (t.one_or_more p) h = rules_stable p h
  rules_stable (t.group ps) h = all_rules_stable ps h
  rules_stable (t.interleave ps) h = all_rules_stable ps h
  rules_stable (t.choice ps) h = all_rules_stable ps h
  rules_stable p h = tt

  all_rules_stable : (ps : Trees) → Not (Not (KeepNameRules ps)) → KeepNameRules ps
  all_rules_stable no_trees h = tt
  all_rules_stable (more_trees p ps) h = (rules_stable p (λ n. h (λ x. n x.0)), all_rules_stable ps (λ n. h (λ x. n x.1)))

-- ---- names that may be refused

mutual
  names_in : Tree → List Text
  names_in (t.ref x) = x ∷ []
  names_in (t.datum_but l x ps p) = names_in p
  names_in (t.list p) = names_in p
  names_in (t.attribute c p) = names_in p
  names_in (t.element c p) = names_in p
  names_in (t.one_or_more p) = names_in p
  names_in (t.group ps) = all_names_in ps
  names_in (t.interleave ps) = all_names_in ps
  names_in (t.choice ps) = all_names_in ps
  names_in p = []

  all_names_in : Trees → List Text
  all_names_in no_trees = []
  all_names_in (more_trees p ps) = names_in p ++ all_names_in ps

module _ (P : Text → Type 0) where
  mutual
    unfolding names_in all_names_in

    of_refers : (x : Text) (p : Tree) → AllByRecursion P (names_in p) → RefersTo x p → P x
    of_refers x (t.ref y) h e = subst P (sym e) h.0
    of_refers x (t.datum_but l u ps p) h e = of_refers x p h e
    of_refers x (t.list p) h e = of_refers x p h e
    of_refers x (t.attribute c p) h e = of_refers x p h e
    of_refers x (t.element c p) h e = of_refers x p h e
    of_refers x (t.one_or_more p) h e = of_refers x p h e
    of_refers x (t.group ps) h e = of_some_refers x ps h e
    of_refers x (t.interleave ps) h e = of_some_refers x ps h e
    of_refers x (t.choice ps) h e = of_some_refers x ps h e
    of_refers x p h e = absurd e

    of_some_refers : (x : Text) (ps : Trees) → AllByRecursion P (all_names_in ps) → SomeRefersTo x ps → P x
    of_some_refers x no_trees h e = absurd e
    of_some_refers x (more_trees p ps) h (inl e) = of_refers x p (each_front P (names_in p) (all_names_in ps) h) e
    of_some_refers x (more_trees p ps) h (inr e) = of_some_refers x ps (each_behind P (names_in p) (all_names_in ps) h) e

  of_definitions : (ds : List (Text × Tree)) → AllByRecursion P (flat_map (λ (d : Text × Tree). names_in d.1) ds) → AllByRecursion (λ (d : Text × Tree). AllByRecursion P (names_in d.1)) ds
  of_definitions [] h = tt
  of_definitions (d ∷ ds) h = (each_front P (names_in d.1) (flat_map (λ (e : Text × Tree). names_in e.1) ds) h, of_definitions ds (each_behind P (names_in d.1) (flat_map (λ (e : Text × Tree). names_in e.1) ds) h))

  of_names : (ds : List (Text × Tree)) → AllByRecursion P (map (λ (d : Text × Tree). d.0) ds) → AllByRecursion (λ (d : Text × Tree). P d.0) ds
  of_names [] h = tt
  of_names (d ∷ ds) h = (h.0, of_names ds h.1)

-- each value of a list stands in it
all_in : {X : Type 0} (xs : List X) → AllByRecursion (Contains xs) xs
all_in xs = each_contained (Contains xs) xs (λ e c. c)

module _ (G : Grammar) where
  referred : List Text
  referred = names_in G.start ++ flat_map (λ (d : Text × Tree). names_in d.1) G.definitions

  undefined_within : (x : Text) → IsUndefined G x → Contains referred x
  unfolding referred
  undefined_within x (inl e, n) = of_refers (Contains referred) x G.start (each_front (Contains referred) (names_in G.start) (flat_map (λ (d : Text × Tree). names_in d.1) G.definitions) (all_in referred)) e
  undefined_within x (inr (y, p, c, e), n) =
      let bodies = of_definitions (Contains referred) G.definitions (each_behind (Contains referred) (names_in G.start) (flat_map (λ (d : Text × Tree). names_in d.1) G.definitions) (all_in referred)) in
      of_refers (Contains referred) x p (contained_each (λ (d : Text × Tree). AllByRecursion (Contains referred) (names_in d.1)) G.definitions bodies (y, p) c) e

  defined : List Text
  defined = map (λ (d : Text × Tree). d.0) G.definitions

  defined_at : (x y : Text) (o : Option Tree) → definition_of G x ≡ o → IsSomeAnd o (RefersOutside y) → Contains defined x
  unfolding defined
  defined_at x y None e h = absurd h
  defined_at x y (Some p) e h =
      contained_each (λ (d : Text × Tree). Contains defined d.0) G.definitions (of_names (Contains defined) G.definitions (all_in defined)) (x, p) (Contains-from_lookup {eq = bytes_eq} (λ a b k. (bytes_decides a b).0 k) x p G.definitions e)

  leads_within : (x y : Text) → LeadsTo G x y → Contains defined x
  leads_within x y (by_one h) = defined_at x y (definition_of G x) refl h
  leads_within x y (by_more {b = b} h l) = defined_at x b (definition_of G x) refl h

keys_of : List Component → List Key
keys_of cs = map (λ (c : Component). c.key) cs

-- keys that are the same by test are equal
pub key_is : (k l : Key) → same_key k l ≡ true → k ≡ l
key_is start_key start_key e = refl
key_is start_key (name_key y) e = absurd (false≢true e)
key_is (name_key x) start_key e = absurd (false≢true e)
key_is (name_key x) (name_key y) e = ap name_key ((bytes_decides x y).0 e)

of_key_in : (P : Key → Type 0) (k : Key) (cs : List Component) → AllByRecursion P (keys_of cs) → has_key k cs ≡ true → P k
unfolding keys_of
of_key_in P k [] h e = absurd (false≢true e)
of_key_in P k (c ∷ cs) h e = ⊎_elim (λ is. subst P (sym (key_is k c.key is)) h.0) (λ more. of_key_in P k cs h.1 more) (or_cases (same_key k c.key) (has_key k cs) e)

-- ---- the grammar

keyless_at : (b : Bool) (k : Key) (c : Component) (cs : List Component) → (has_key k cs ≡ false → bodies k cs ≡ []) → (b || has_key k cs) ≡ false → map (λ (d : Component). d.body) (cond b (c ∷ of_key k cs) (of_key k cs)) ≡ []
keyless_at true k c cs ih e = absurd (false≢true (sym e))
keyless_at false k c cs ih e = ih e

-- a key without component has no bodies
keyless : (k : Key) (cs : List Component) → has_key k cs ≡ false → bodies k cs ≡ []
keyless k [] e = refl
keyless k (c ∷ cs) e = keyless_at (same_key k c.key) k c cs (keyless k cs) e

module _ (modules : List NamedModule) (none : (q : Refusal) → ¬ StandsFor modules q) where
  abbrev cs : List Component
  cs = set_components modules

  keeps : (k : Key) → has_key k cs ≡ true → KeepsNameRules (joined_pattern cs k)
  keeps k h = rules_stable (joined_pattern cs k) (λ n. no_key (BreaksNameRules cs) (keys_of cs) (λ l b. of_key_in (Contains (keys_of cs)) l cs (all_in (keys_of cs)) b.0) (λ l s. none (name_class l) s) k (h, n))

  start_keeps : KeepsNameRules (joined_pattern cs start_key)
  start_keeps = ⊎_elim (λ e. keeps start_key e) (λ e. absurd (none no_start e)) (cases_Bool (has_key start_key cs))

  some_keeps : (x : Text) (ps : List Tree) → bodies (name_key x) cs ≡ ps → IfSome (some_joined (method_node (name_key x) cs) ps) KeepsNameRules
  some_keeps x [] e = tt
  some_keeps x (p ∷ ps) e =
      subst (λ (qs : List Tree). KeepsNameRules (joined_tree (method_node (name_key x) cs) qs)) e
      (⊎_elim (λ h. keeps (name_key x) h) (λ h. absurd (let nothing : [] ≡ p ∷ ps = sym (keyless (name_key x) cs h) ∙ e in cc)) (cases_Bool (has_key (name_key x) cs)))

  module _ (faultless : AllByRecursion (λ (m : NamedModule). except_places m.tree ≡ []) modules) where
    pub well_formed : IsWellFormed (grammar_of modules)
    well_formed = record {
      defined = no_text (IsUndefined (grammar_of modules)) (referred (grammar_of modules)) (undefined_within (grammar_of modules)) (λ x s. none (undefined x) s);
      loop_free = no_text (IsRecursive (grammar_of modules)) (defined (grammar_of modules)) (λ x h. leads_within (grammar_of modules) x x h.1) (λ x s. none (recursive x) s);
      start_excepts = joined_excepts cs start_key (set_excepts modules faultless);
      excepts = λ x. joined_definition_excepts cs x (set_excepts modules faultless);
      start_names = start_keeps;
      names = λ x. subst (λ (o : Option Tree). IfSome o KeepsNameRules) (sym (joined_definition cs x)) (some_keeps x (bodies (name_key x) cs) refl);
    }

pub no_excepts : (modules : List NamedModule) → AllByRecursion (λ (m : NamedModule). IsFaultless m.tree) modules → AllByRecursion (λ (m : NamedModule). except_places m.tree ≡ []) modules
no_excepts [] h = tt
no_excepts (m ∷ ms) h = (h.0.excepts, no_excepts ms h.1)

pub stands : (s : List Member) (modules : List NamedModule) → AreModules s modules → (q : Refusal) → StandsFor modules q → Stands s q
stands s modules a (conflict x r) h = absurd h
stands s modules a (faulty f x) h = absurd h
stands s modules a q h = (modules, a, h)

-- the grammar of a set for which no refusal stands
pub assembled_well_formed : (s : List Member) (modules : List NamedModule) → AreModules s modules → ((r : Refusal) → ¬ Stands s r) → IsWellFormed (grammar_of modules)
assembled_well_formed s modules a none = well_formed modules (λ q h. none q (stands s modules a q h)) (no_excepts modules (modules_faultless s modules a))
