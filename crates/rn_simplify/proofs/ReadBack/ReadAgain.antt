-- What the text of a canonical grammar is read back as: it is valid for the same documents, has the same canonical grammar, and no refusal stands for it.
use Rattle.std.proofs.Common.{◌≡◌, ◌↔◌, ◌<◌, Bool, true, false, ◌||◌, cond, not, List, [], ◌∷◌, ◌++◌, ◌+◌, map, ⊎_elim, Option, refl, sym, ap, ◌∙◌, subst, arith, Contains}
use Rattle.std.specs.Prelude.{IfSome, bytes_eq, flat_map, sum_by}
use Rattle.std.specs.List.{AllByRecursion, list_any}
use Rattle.std.proofs.lemmas.Bool.{false≢true}
use Rattle.std.proofs.lemmas.List.Sums.{sum_by-cons}
use Rattle.rn_pattern.specs.Tree.{Tree}
use Rattle.rn_text.specs.Texts.{Text}
use Rattle.rn_pattern.specs.Document.{Item}
use Rattle.rn_pattern.specs.Datatype.{Table}
use Rattle.rn_pattern.specs.Matching.{Grammar, IsValid}
use Rattle.rn_pattern.specs.NameRules.{KeepsNameRules}
use Rattle.rn_pattern.specs.Excepts.{HasExcepts}
use Rattle.rn_pattern.specs.References.{Reaches, by_one, by_more}
use Rattle.rn_pattern.specs.Opened.{opened, opened_grammar}
use Rattle.rn_pattern.specs.Reached.{IsCanonicalOf}
use Rattle.rn_pattern.proofs.Ordered.InOrder.{contains_cases}
use Rattle.rn_pattern.proofs.Matches.OpenedKeeps.{opened_valid}
use Rattle.rn_syntax.specs.Tree as t
use Rattle.rn_syntax.specs.Tree.{Declaration, Module, item_includes, includes}
use Rattle.rn_syntax.proofs.Lists.EmptyLists.{nil_parts}
use Rattle.rn_assemble.specs.Components.{Key, start_key, name_key, same_key, Component, NamedModule, has_key, Includes, components, instances, instances_within, roots, set_components}
use Rattle.rn_assemble.specs.Combine.{of_key, bodies, method_node, IsPlainTwice, IsMixed, IsCombination, joined_tree, joined_pattern, joined_grammar, module_grammar, components_of, AreDistinct}
use Rattle.rn_assemble.specs.WellFormed.{IsWellFormed}
use Rattle.rn_assemble.specs.Refusal.{Refusal, conflict, faulty, missing, cycle, too_many_instances, override, plain_twice, mixed_methods, no_start, undefined, recursive, name_class, item_lacks, items_lack, Lacks, StandsFor, grammar_of}
use Rattle.rn_assemble.proofs.Combined.Combinations.{combined_valid, some_joined, joined_definition}
use Rattle.rn_assemble.proofs.Combined.PlainComponents.{plain_once, not_mixed, sorted_distinct, mapped_distinct}
use Rattle.rn_assemble.proofs.Combined.JoinedProperties.{joined_excepts, joined_definition_excepts}
use Rattle.rn_assemble.proofs.Combined.OneModule.{one_module}
use Rattle.rn_simplify.specs.ReadBack.{IsReadBack}
use Rattle.rn_pattern.proofs.Matches.Pruned.{canonical_grammar_valid}
use Rattle.rn_simplify.proofs.Simplified.FixedPoint.{fixed_point, one_canonical}
use Rattle.rn_simplify.proofs.Simplified.WellFormed.{normal_well_formed, opened_well_formed}

-- the canonical grammar has the documents of the grammar
pub normal_valid : (G N : Grammar) → IsCanonicalOf G N → IsWellFormed G → (T : Table) (doc : Item) → IsValid G T doc ↔ IsValid N T doc
normal_valid G N c w T doc = canonical_grammar_valid G N c T w.start_excepts w.excepts doc

-- each combination of components has the documents of the canonical grammar of what they are joined to, opened
pub combination_valid : (cs : List Component) (C N : Grammar) → AllByRecursion (λ (c : Component). HasExcepts c.body) cs → IsCombination cs C → IsCanonicalOf (joined_grammar cs) N → (T : Table) (doc : Item) → IsValid C T doc ↔ IsValid (opened_grammar N) T doc
combination_valid cs C N e c n T doc =
    let first = combined_valid T cs C c doc in
    let second = canonical_grammar_valid (joined_grammar cs) N n T (joined_excepts cs start_key e) (λ x. joined_definition_excepts cs x e) doc in
    let third = opened_valid N T doc in
    (λ v. third.0 (second.0 (first.0 v)), λ v. first.1 (second.1 (third.1 v)))

module _ (N : Grammar) (r : IsReadBack N) where
  pub combination_read : (cs : List Component) (C : Grammar) → AllByRecursion (λ (c : Component). HasExcepts c.body) cs → IsCombination cs C → IsCanonicalOf (joined_grammar cs) N → (T : Table) (doc : Item) → IsValid C T doc ↔ IsValid (module_grammar r.tree) T doc
  combination_read cs C e c n T doc = subst (λ R. IsValid C T doc ↔ IsValid R T doc) (sym r.same) (combination_valid cs C N e c n T doc)

  -- a grammar has the documents of what is read back of its canonical grammar
  pub joined_read : (G : Grammar) → IsCanonicalOf G N → IsWellFormed G → (T : Table) (doc : Item) → IsValid G T doc ↔ IsValid (module_grammar r.tree) T doc
  joined_read G c w T doc =
      let first = normal_valid G N c w T doc in
      let second = opened_valid N T doc in
      subst (λ R. IsValid G T doc ↔ IsValid R T doc) (sym r.same) (λ v. second.0 (first.0 v), λ v. first.1 (second.1 v))

  module _ (G : Grammar) (c : IsCanonicalOf G N) where
    -- what is read back has the canonical grammar that was printed, and no other
    pub read_canonical : IsCanonicalOf (module_grammar r.tree) N
    read_canonical = subst (λ R. IsCanonicalOf R N) (sym r.same) (fixed_point G N c)

    pub read_only : (M : Grammar) → IsCanonicalOf (module_grammar r.tree) M → M ≡ N
    read_only M m = one_canonical (module_grammar r.tree) M N m read_canonical

    pub read_well_formed : IsWellFormed G → IsWellFormed (module_grammar r.tree)
    read_well_formed w = subst IsWellFormed (sym r.same) (opened_well_formed N (normal_well_formed G N c w))

-- items without includes override nothing
module _ (included : Text → Text → List Component) (inherited : Text) (ds : List Declaration) (k : Key) where
  mutual
    item_lacks_none : (x : t.Item) → item_includes x ≡ [] → item_lacks included inherited ds x k ≡ false
    item_lacks_none (t.define n m p) e = refl
    item_lacks_none (t.start m p) e = refl
    item_lacks_none (t.div xs) e = items_lack_none xs e
    item_lacks_none (t.include w h xs) e = cc

    items_lack_none : (xs : t.Items) → includes xs ≡ [] → items_lack included inherited ds xs k ≡ false
    items_lack_none t.no_items e = refl
    items_lack_none (t.item x xs) e = let both = nil_parts (item_includes x) (includes xs) e in λ i. item_lacks_none x both.0 i || items_lack_none xs both.1 i

has_key_at : (b : Bool) (k : Key) (c : Component) (cs : List Component) → (bodies k cs ≡ [] → has_key k cs ≡ false) → map (λ (d : Component). d.body) (cond b (c ∷ of_key k cs) (of_key k cs)) ≡ [] → (b || has_key k cs) ≡ false
has_key_at true k c cs ih e = cc
has_key_at false k c cs ih e = ih e

-- a key without bodies has no component
no_bodies : (k : Key) (cs : List Component) → bodies k cs ≡ [] → has_key k cs ≡ false
no_bodies k [] e = refl
no_bodies k (c ∷ cs) e = has_key_at (same_key k c.key) k c cs (no_bodies k cs) e

keeps_at : (k : Key) (cs : List Component) (ps : List Tree) → bodies k cs ≡ ps → has_key k cs ≡ true → IfSome (some_joined (method_node k cs) ps) KeepsNameRules → KeepsNameRules (joined_pattern cs k)
keeps_at k cs [] e h n = absurd (false≢true (sym (no_bodies k cs e) ∙ h))
keeps_at k cs (p ∷ ps) e h n = subst (λ (qs : List Tree). KeepsNameRules (joined_tree (method_node k cs) qs)) (sym e) n

-- each key of what is joined to a well-formed grammar keeps the restrictions on name classes
keeps_rules : (cs : List Component) → IsWellFormed (joined_grammar cs) → (k : Key) → has_key k cs ≡ true → KeepsNameRules (joined_pattern cs k)
keeps_rules cs w start_key h = w.start_names
keeps_rules cs w (name_key y) h = keeps_at (name_key y) cs (bodies (name_key y) cs) refl h (subst (λ (o : Option Tree). IfSome o KeepsNameRules) (joined_definition cs y) (w.names y))

-- a set of one module that includes none
module _ (x : Text) (m : Module) (alone : includes m.items ≡ []) where
  abbrev one : NamedModule
  one = record { name = x; tree = m }

  abbrev set : List NamedModule
  set = one ∷ []

  wanted_at : (b : Bool) → flat_map (λ (s : NamedModule). includes s.tree.items) (cond b set []) ≡ []
  wanted_at true = ap (λ l. l ++ []) alone
  wanted_at false = refl

  no_include : (y z : Text) → ¬ Includes set y z
  no_include y z h = false≢true (sym (ap (list_any (bytes_eq z)) (wanted_at (bytes_eq y x))) ∙ h)

  no_cycle : (y z : Text) → ¬ Reaches (Includes set) y z
  no_cycle y z (by_one h) = no_include y z h
  no_cycle y z (by_more {b = b} h l) = no_include y b h

  one_root : roots set ≡ set
  one_root = ap (λ l. cond (not (list_any (bytes_eq x) l)) set []) (wanted_at true)

  one_instance : instances set x ≡ 1
  one_instance = ap (λ l. 1 + sum_by (instances_within 512 set) l) (wanted_at (bytes_eq x x))

  few_instances : ¬ (512 < sum_by (λ (r : NamedModule). instances set r.name) (roots set))
  few_instances h =
      let l : 512 < sum_by (λ (r : NamedModule). instances set r.name) set = subst (λ (rs : List NamedModule). 512 < sum_by (λ (r : NamedModule). instances set r.name) rs) one_root h in
      absurd (omega (arith, l, sum_by-cons (λ (r : NamedModule). instances set r.name) one [], one_instance))

  named_one : (b : Bool) (s : NamedModule) → Contains (cond b set []) s → s ≡ one
  named_one true s c = ⊎_elim (λ e. sym e) (λ (i, l, is). absurd (omega (arith, l))) (contains_cases one s [] c)
  named_one false s (i, l, is) = absurd (omega (arith, l))

  no_override : (y : Text) (k : Key) → ¬ Lacks set y k
  no_override y k (s, c, h) =
      let e : s ≡ one = named_one (bytes_eq y x) s c in
      let here : items_lack (components set) [] m.declarations m.items k ≡ true = subst (λ (v : NamedModule). items_lack (components set) [] v.tree.declarations v.tree.items k ≡ true) e h in
      false≢true (sym (items_lack_none (components set) [] m.declarations k m.items alone) ∙ here)

module _ (G N : Grammar) (c : IsCanonicalOf G N) (w : IsWellFormed G) (r : IsReadBack N) (x : Text) where
  abbrev printed : List NamedModule
  printed = record { name = x; tree = r.tree } ∷ []

  parts : set_components printed ≡ components_of (opened_grammar N)
  parts = one_module x r.tree r.no_includes ∙ r.components

  distinct : AreDistinct (opened_grammar N).definitions
  distinct = mapped_distinct opened N.definitions (sorted_distinct N.definitions c.in_order)

  well_formed : IsWellFormed (grammar_of printed)
  well_formed = subst (λ (cs : List Component). IsWellFormed (joined_grammar cs)) (sym (one_module x r.tree r.no_includes)) (read_well_formed N r G c w)

  has_start : has_key start_key (set_components printed) ≡ true
  has_start = ap (has_key start_key) parts

  -- no refusal stands for a set of the one module that is read back
  pub none_stands : (q : Refusal) → ¬ StandsFor printed q
  none_stands (conflict y n) h = h
  none_stands (faulty f y) h = h
  none_stands (missing y v) h = no_include x r.tree r.no_includes y v h.1.holds.0
  none_stands (cycle y) h = no_cycle x r.tree r.no_includes y y h.holds
  none_stands too_many_instances h = few_instances x r.tree r.no_includes h
  none_stands (override y k) h = no_override x r.tree r.no_includes y k h.1.holds
  none_stands (plain_twice k) h = plain_once (opened_grammar N) distinct k (subst (IsPlainTwice k) parts h.holds)
  none_stands (mixed_methods k) h = not_mixed (opened_grammar N) distinct k (subst (IsMixed k) parts h.holds)
  none_stands no_start h = false≢true (sym h ∙ has_start)
  none_stands (undefined y) h = well_formed.defined y h.holds
  none_stands (recursive y) h = well_formed.loop_free y h.holds
  none_stands (name_class k) h = h.holds.1 (keeps_rules (set_components printed) well_formed k h.holds.0)
