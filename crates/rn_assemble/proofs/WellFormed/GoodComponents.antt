-- The components of modules of faultless texts can be written, and so can their grammar.
use Rattle.std.proofs.Common.{◌≡◌, ◌≢◌, ℕ, zero, suc, not, List, [], ◌∷◌, Option, Some, None, refl, Contains}
use Rattle.std.specs.Prelude.{⊤, bytes_eq}
use Rattle.std.specs.List.{AllByRecursion, AllZip}
use Rattle.std.specs.Str.{chars}
use Rattle.rn_text.specs.Texts.{Text}
use Rattle.rn_pattern.proofs.Ordered.Ascending.{each_append, each_flat}
use Rattle.rn_pattern.proofs.Ordered.InOrder.{contains_front, contains_behind}
use Rattle.rn_modset.specs.Contributions.{Member}
use Rattle.rn_modset.specs.Modules as effective
use Rattle.rn_syntax.specs.declared.fault.FaultKind.{FaultKind}
use Rattle.rn_syntax.specs.declared.fault.FaultKind.TheVariants as kind
use Rattle.rn_syntax.specs.Tree as t
use Rattle.rn_syntax.specs.Tree.{Declaration, Item, Items, Module}
use Rattle.rn_syntax.specs.Places.{class_places, unbound_type, wrong_builtin, context_value, inherit_places, declarations_places, item_places, items_places, prefix_places, builtin_places, context_places, except_places}
use Rattle.rn_syntax.specs.Faults.{kind_places}
use Rattle.rn_syntax.proofs.Lists.EmptyLists.{nil_parts}
use Rattle.rn_syntax.proofs.FaultPlaces.FaultKinds.{each_empty}
use Rattle.rn_assemble.specs.Components.{Component, NamedModule, has_key, handed_on, item_components, all_components, module_components, modules_named, components_within, components, instance_limit, roots, set_components, without_overridden}
use Rattle.rn_assemble.specs.WritableTexts.{IsXml}
use Rattle.rn_assemble.specs.Refusal.{IsModuleOf, HasTextFault, AreModules, grammar_of}
use Rattle.rn_assemble.specs.WellFormed.{HasWritableTexts}
use Rattle.rn_assemble.proofs.WellFormed.ComponentExcepts.{in_item, in_items, resolved_has, each_kept}
use Rattle.rn_assemble.proofs.WellFormed.GoodTrees.{IsGoodItem, AreGoodItems, AreGoodDeclarations, IsGoodModule, module_good}
use Rattle.rn_assemble.proofs.WellFormed.GoodPatterns.{default_xml, namespace_xml, has_none, resolved_writable}
use Rattle.rn_assemble.proofs.WellFormed.ComponentExcepts.{all_true}
use Rattle.rn_assemble.proofs.Combined.JoinedProperties.{IsWritableComponent, joined_writable}
use Rattle.rn_assemble.proofs.WellFormed.Terminals.{xml_nothing, tokens_good}

module _ (ds : List Declaration) where
  -- where prefixes, datatypes and values in items are at fault
  abbrev prefix_item : Item → List ℕ
  prefix_item = item_places (class_places ds) (unbound_type ds) (λ _ _. []) (inherit_places ds)

  abbrev prefix_items : Items → List ℕ
  prefix_items = items_places (class_places ds) (unbound_type ds) (λ _ _. []) (inherit_places ds)

  abbrev builtin_item : Item → List ℕ
  builtin_item = item_places (λ _. []) (wrong_builtin ds) (λ _ _. []) (λ _. [])

  abbrev builtin_items : Items → List ℕ
  builtin_items = items_places (λ _. []) (wrong_builtin ds) (λ _ _. []) (λ _. [])

  abbrev context_item : Item → List ℕ
  context_item = item_places (λ _. []) (context_value ds) (λ _ _. []) (λ _. [])

  abbrev context_items : Items → List ℕ
  context_items = items_places (λ _. []) (context_value ds) (λ _ _. []) (λ _. [])

-- the namespace that an include hands on
handed_xml : (inherited : Text) (ds : List Declaration) → IsXml inherited → AreGoodDeclarations ds → (h : Option (Text × ℕ)) → IsXml (handed_on inherited ds h)
handed_xml inherited ds x d None = default_xml inherited ds x d
handed_xml inherited ds x d (Some p) = namespace_xml inherited ds x d p.0

module _ (included : Text → Text → List Component) (good : (y u : Text) → IsXml u → AllByRecursion IsWritableComponent (included y u)) (inherited : Text) (ds : List Declaration) (x : IsXml inherited) (d : AreGoodDeclarations ds) where
  mutual
    item_writable : (i : Item) → IsGoodItem i → prefix_item ds i ≡ [] → builtin_item ds i ≡ [] → context_item ds i ≡ [] → in_item i ≡ [] → AllByRecursion IsWritableComponent (item_components included inherited ds i)
    item_writable (t.define n m p) g u b k e =
        ((g.0, resolved_writable inherited ds x d (class_places ds) p g.1 (has_none (class_places ds) (unbound_type ds) (λ _ _. []) p u) (has_none (λ _. []) (wrong_builtin ds) (λ _ _. []) p b) (has_none (λ _. []) (context_value ds) (λ _ _. []) p k) (resolved_has inherited ds p e)), tt)
    item_writable (t.start m p) g u b k e =
        ((tt, resolved_writable inherited ds x d (class_places ds) p g (has_none (class_places ds) (unbound_type ds) (λ _ _. []) p u) (has_none (λ _. []) (wrong_builtin ds) (λ _ _. []) p b) (has_none (λ _. []) (context_value ds) (λ _ _. []) p k) (resolved_has inherited ds p e)), tt)
    item_writable (t.div xs) g u b k e = items_writable xs g u b k e
    item_writable (t.include wanted inherit xs) g u b k e =
        let own = all_components included inherited ds xs in
        let from = included wanted (handed_on inherited ds inherit) in
        let prefixes = nil_parts (inherit_places ds inherit) (prefix_items ds xs) u in
        each_append IsWritableComponent (without_overridden from own) own (each_kept IsWritableComponent (λ c. not (has_key c.key own)) from (good wanted (handed_on inherited ds inherit) (handed_xml inherited ds x d inherit))) (items_writable xs g prefixes.1 b k e)

    items_writable : (xs : Items) → AreGoodItems xs → prefix_items ds xs ≡ [] → builtin_items ds xs ≡ [] → context_items ds xs ≡ [] → in_items xs ≡ [] → AllByRecursion IsWritableComponent (all_components included inherited ds xs)
    items_writable t.no_items g u b k e = tt
    items_writable (t.item i xs) g u b k e =
        let prefixes = nil_parts (prefix_item ds i) (prefix_items ds xs) u in
        let builtins = nil_parts (builtin_item ds i) (builtin_items ds xs) b in
        let contexts = nil_parts (context_item ds i) (context_items ds xs) k in
        let excepts = nil_parts (in_item i) (in_items xs) e in
        each_append IsWritableComponent (item_components included inherited ds i) (all_components included inherited ds xs) (item_writable i g.0 prefixes.0 builtins.0 contexts.0 excepts.0) (items_writable xs g.1 prefixes.1 builtins.1 contexts.1 excepts.1)

-- a good tree without faults
pub record IsFaultless (m : Module) : Type 0 where
  pub good : IsGoodModule m
  pub bound : prefix_places m ≡ []
  pub builtin_types : builtin_places m ≡ []
  pub no_context : context_places m ≡ []
  pub excepts : except_places m ≡ []

module _ (modules : List NamedModule) (faultless : AllByRecursion (λ (m : NamedModule). IsFaultless m.tree) modules) where
  within_writable : (depth : ℕ) (x u : Text) → IsXml u → AllByRecursion IsWritableComponent (components_within depth modules x u)
  within_writable zero x u h = tt
  within_writable (suc depth) x u h =
      each_flat IsWritableComponent (λ (m : NamedModule). IsFaultless m.tree) (λ (m : NamedModule). module_components (components_within depth modules) u m.tree)
      (λ m f. items_writable (components_within depth modules) (within_writable depth) u m.tree.declarations h f.good.declarations m.tree.items f.good.items
      (nil_parts (declarations_places [] m.tree.declarations) (prefix_items m.tree.declarations m.tree.items) f.bound).1 f.builtin_types f.no_context f.excepts)
      (modules_named x modules) (each_kept (λ (m : NamedModule). IsFaultless m.tree) (λ m. bytes_eq x m.name) modules faultless)

  set_writable : AllByRecursion IsWritableComponent (set_components modules)
  set_writable = each_flat IsWritableComponent (λ _. ⊤) (λ (r : NamedModule). components modules r.name []) (λ r h. within_writable (suc instance_limit) r.name [] xml_nothing) (roots modules) (all_true (roots modules))

  pub grammar_writable : HasWritableTexts (grammar_of modules)
  grammar_writable = joined_writable (set_components modules) set_writable

-- ---- modules of a set

no_places : (xs : List ℕ) → ¬ (xs ≢ []) → xs ≡ []
no_places [] h = refl
no_places (x ∷ xs) h = absurd (h (λ e. cc))

no_places_of : (text : Text) (m : Module) → ((f : FaultKind) → ¬ HasTextFault text f) → IsModuleOf text m → (k : FaultKind) → kind_places k m ≡ []
no_places_of text m none is kind.Encoding = refl
no_places_of text m none is kind.Lexical = refl
no_places_of text m none is kind.Deep = refl
no_places_of text m none is kind.Syntax = refl
no_places_of text m none is k = no_places (kind_places k m) (λ h. none k (m, is, h))

faultless_of : (text : Text) (m : Module) → ((f : FaultKind) → ¬ HasTextFault text f) → IsModuleOf text m → IsFaultless m
faultless_of text m none (u, (ts, has, tree)) =
    let empty = each_empty m (λ k. no_places_of text m none (u, (ts, has, tree)) k) in
    record {
      good = module_good tree (tokens_good (chars text) ts has);
      bound = empty.0;
      builtin_types = empty.1;
      no_context = empty.2;
      excepts = empty.3;
    }

each_faultless : (texts : List effective.Module) (modules : List NamedModule) → ((x text : Text) → Contains {X = Text × Text} texts (x, text) → (f : FaultKind) → ¬ HasTextFault text f)
    → AllZip (λ (x : effective.Module) (m : NamedModule). (m.name ≡ x.0) × IsModuleOf x.1 m.tree) texts modules → AllByRecursion (λ (m : NamedModule). IsFaultless m.tree) modules
each_faultless [] [] none h = tt
each_faultless [] (m ∷ ms) none h = absurd h
each_faultless (x ∷ xs) [] none h = absurd h
each_faultless (x ∷ xs) (m ∷ ms) none h = (faultless_of x.1 m.tree (none x.0 x.1 (contains_front x xs)) h.0.1, each_faultless xs ms (λ y text c. none y text (contains_behind x (y, text) xs c)) h.1)

-- the modules of a set are faultless
pub modules_faultless : (s : List Member) (modules : List NamedModule) → AreModules s modules → AllByRecursion (λ (m : NamedModule). IsFaultless m.tree) modules
modules_faultless s modules a = each_faultless a.texts modules (λ x text c f h. a.faultless x (text, c, (f, h))) a.trees

-- and their grammar can be written
pub set_grammar_writable : (s : List Member) (modules : List NamedModule) → AreModules s modules → HasWritableTexts (grammar_of modules)
set_grammar_writable s modules a = grammar_writable modules (modules_faultless s modules a)
