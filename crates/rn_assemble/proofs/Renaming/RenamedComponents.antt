-- The components of renamed modules are those of the modules, with their bodies renamed; and all their URIs are known.
use Rattle.std.proofs.Common.{◌≡◌, ℕ, zero, suc, ◌+◌, true, not, List, [], ◌∷◌, ◌++◌, map, filter, flat_map, refl, sym, ap, ◌∙◌}
use Rattle.std.specs.Prelude.{bytes_eq, sum_by, ⊤}
use Rattle.std.specs.List.{AllByRecursion, list_any}
use Rattle.std.proofs.lemmas.List.{map-append}
use Rattle.std.proofs.lemmas.List.Folds.{flat_map-map}
use Rattle.rn_text.specs.Texts.{Text}
use Rattle.rn_pattern.proofs.Ordered.Ascending.{each_append, each_flat}
use Rattle.rn_syntax.specs.Tree as t
use Rattle.rn_syntax.specs.Tree.{Declaration, Item, Items, includes}
use Rattle.rn_assemble.specs.Components.{Key, start_key, name_key, same_key, Component, NamedModule, has_key, without_overridden, handed_on, item_components, all_components, module_components, modules_named, components_within, components, instance_limit, Includes, instances_within, roots, set_components}
use Rattle.rn_assemble.specs.Renamed.{renamed_tree, HasKnownUris, IsRenaming}
use Rattle.rn_assemble.specs.inside.RenamedModules.{renamed_module, renamed_modules, DeclaresKnown, DeclareKnown}
use Rattle.rn_assemble.proofs.WellFormed.ComponentExcepts.{each_kept, all_true}
use Rattle.rn_assemble.proofs.Renaming.MappedTests.{filter_inside, flat_map_inside, any_inside}
use Rattle.rn_assemble.proofs.Renaming.ResolvedPatterns.{renamed_declarations, resolved_pattern-renamed, handed_on-renamed}
use Rattle.rn_assemble.proofs.Renaming.ResolvedUris.{resolved_pattern-known, handed_on-known}

-- ---- modules

-- what the modules include
abbrev pub all_wanted : List NamedModule → List Text
all_wanted ms = flat_map (λ (m : NamedModule). includes m.tree.items) ms

module _ (named : Text → Text) where
  abbrev pub renamed_component : Component → Component
  renamed_component c = record { key = c.key; method = c.method; body = renamed_tree named c.body }

  abbrev pub renamed_components : List Component → List Component
  renamed_components cs = map renamed_component cs

  pub modules_named-renamed : (x : Text) (ms : List NamedModule)
      → modules_named x (renamed_modules named ms) ≡ renamed_modules named (modules_named x ms)
  modules_named-renamed x = filter_inside (renamed_module named) (λ m. bytes_eq x m.name) (λ m. bytes_eq x m.name) (λ m. refl)

  pub all_wanted-renamed : (ms : List NamedModule) → all_wanted (renamed_modules named ms) ≡ all_wanted ms
  all_wanted-renamed ms = flat_map-map (λ (m : NamedModule). includes m.tree.items) (renamed_module named) ms

  pub wanted_by-renamed : (x : Text) (ms : List NamedModule)
      → all_wanted (modules_named x (renamed_modules named ms)) ≡ all_wanted (modules_named x ms)
  wanted_by-renamed x ms = ap all_wanted (modules_named-renamed x ms) ∙ all_wanted-renamed (modules_named x ms)

  pub Includes-renamed : (ms : List NamedModule) (x y : Text) → Includes (renamed_modules named ms) x y ≡ Includes ms x y
  Includes-renamed ms x y = ap (λ ws. list_any (bytes_eq y) ws ≡ true) (wanted_by-renamed x ms)

  pub instances_within-renamed : (depth : ℕ) (ms : List NamedModule) (x : Text)
      → instances_within depth (renamed_modules named ms) x ≡ instances_within depth ms x
  instances_within-renamed zero ms x = refl
  instances_within-renamed (suc depth) ms x =
      let included = wanted_by-renamed x ms in
      λ i. 1 + sum_by (λ y. instances_within-renamed depth ms y i) (included i)

  pub roots-renamed : (ms : List NamedModule) → roots (renamed_modules named ms) ≡ renamed_modules named (roots ms)
  roots-renamed ms =
      let is_root = λ (ws : List Text) (m : NamedModule). not (list_any (bytes_eq m.name) ws) in
      ap (λ ws. filter (is_root ws) (renamed_modules named ms)) (all_wanted-renamed ms)
      ∙ filter_inside (renamed_module named) (is_root (all_wanted ms)) (is_root (all_wanted ms)) (λ m. refl) ms

  -- ---- components

  pub has_key-renamed : (k : Key) (cs : List Component) → has_key k (renamed_components cs) ≡ has_key k cs
  has_key-renamed k = any_inside renamed_component (λ c. same_key k c.key) (λ c. same_key k c.key) (λ c. refl)

  without-renamed : (cs own : List Component)
      → without_overridden (renamed_components cs) (renamed_components own) ≡ renamed_components (without_overridden cs own)
  without-renamed cs own =
      filter_inside renamed_component (λ c. not (has_key c.key own)) (λ c. not (has_key c.key (renamed_components own)))
      (λ c. ap not (has_key-renamed c.key own)) cs

  -- f gives the components of modules, and g those of the modules renamed
  abbrev pub IncludesRenamed : (Text → Text → List Component) → (Text → Text → List Component) → Type 0
  IncludesRenamed f g = (x u : Text) → g x (named u) ≡ renamed_components (f x u)

-- the components of all modules, by those of the modules that they include
abbrev components_in : (Text → Text → List Component) → Text → List NamedModule → List Component
components_in f inherited ms = flat_map (λ (m : NamedModule). module_components f inherited m.tree) ms

-- all URIs of the component are known
abbrev pub HasKnownBody : (Text → Type 0) → Component → Type 0
HasKnownBody Known c = HasKnownUris Known c.body

module _ {named : Text → Text} {Known : Text → Type 0} (r : IsRenaming named Known) where
  module _ (f g : Text → Text → List Component) (included : IncludesRenamed named f g) (inherited : Text) (ds : List Declaration) where
    -- the components of items, and those of the items in a renamed module
    abbrev own : Items → List Component
    own xs = all_components f inherited ds xs

    abbrev own_renamed : Items → List Component
    own_renamed xs = all_components g (named inherited) (renamed_declarations named ds) xs

    mutual
      item-renamed : (x : Item)
          → item_components g (named inherited) (renamed_declarations named ds) x
          ≡ renamed_components named (item_components f inherited ds x)
      item-renamed (t.define x m p) =
          let body = resolved_pattern-renamed r inherited ds p in
          λ i. record { key = name_key x; method = m; body = body i } ∷ []
      item-renamed (t.start m p) =
          let body = resolved_pattern-renamed r inherited ds p in
          λ i. record { key = start_key; method = m; body = body i } ∷ []
      item-renamed (t.div xs) = items-renamed xs
      item-renamed (t.include x inherit xs) =
          let u = handed_on inherited ds inherit in
          let from = ap (g x) (handed_on-renamed r inherited ds inherit) ∙ included x u in
          let items = items-renamed xs in
          (λ i. without_overridden (from i) (items i) ++ items i)
          ∙ ap (λ l. l ++ renamed_components named (own xs)) (without-renamed named (f x u) (own xs))
          ∙ sym (map-append (renamed_component named) (without_overridden (f x u) (own xs)) (own xs))

      pub items-renamed : (xs : Items) → own_renamed xs ≡ renamed_components named (own xs)
      items-renamed t.no_items = refl
      items-renamed (t.item x xs) =
          let first = item-renamed x in
          let rest = items-renamed xs in
          (λ i. first i ++ rest i) ∙ sym (map-append (renamed_component named) (item_components f inherited ds x) (own xs))

  modules-renamed : (f g : Text → Text → List Component) → IncludesRenamed named f g → (inherited : Text) (ms : List NamedModule)
      → components_in g (named inherited) (renamed_modules named ms) ≡ renamed_components named (components_in f inherited ms)
  modules-renamed f g included inherited [] = refl
  modules-renamed f g included inherited (m ∷ ms) =
      let first = items-renamed f g included inherited m.tree.declarations m.tree.items in
      let rest = modules-renamed f g included inherited ms in
      (λ i. first i ++ rest i)
      ∙ sym (map-append (renamed_component named) (module_components f inherited m.tree) (components_in f inherited ms))

  pub components_within-renamed : (depth : ℕ) (ms : List NamedModule)
      → IncludesRenamed named (components_within depth ms) (components_within depth (renamed_modules named ms))
  components_within-renamed zero ms x inherited = refl
  components_within-renamed (suc depth) ms x inherited =
      let f = components_within depth ms in
      let g = components_within depth (renamed_modules named ms) in
      ap (components_in g (named inherited)) (modules_named-renamed named x ms)
      ∙ modules-renamed f g (components_within-renamed depth ms) inherited (modules_named x ms)

  -- under the empty namespace
  components_of_root : (ms : List NamedModule) (x : Text)
      → components (renamed_modules named ms) x [] ≡ renamed_components named (components ms x [])
  components_of_root ms x =
      ap (components (renamed_modules named ms) x) (sym r.none) ∙ components_within-renamed (suc instance_limit) ms x []

  pub set_components-renamed : (ms : List NamedModule)
      → set_components (renamed_modules named ms) ≡ renamed_components named (set_components ms)
  set_components-renamed ms =
      let of_root = λ (m : NamedModule). components (renamed_modules named ms) m.name [] in
      ap (flat_map of_root) (roots-renamed named ms)
      ∙ flat_map-map of_root (renamed_module named) (roots ms)
      ∙ (λ i. flat_map (λ (m : NamedModule). components_of_root ms m.name i) (roots ms))
      ∙ flat_map_inside (renamed_component named) (λ (m : NamedModule). components ms m.name []) (roots ms)

  -- ---- known URIs

  abbrev IncludesKnown : (Text → Text → List Component) → Type 0
  IncludesKnown f = (x u : Text) → Known u → AllByRecursion (HasKnownBody Known) (f x u)

  module _ (f : Text → Text → List Component) (known : IncludesKnown f)
      (inherited : Text) (ds : List Declaration) (k : Known inherited) (h : AllByRecursion (DeclaresKnown Known) ds) where
    mutual
      item-known : (x : Item) → AllByRecursion (HasKnownBody Known) (item_components f inherited ds x)
      item-known (t.define x m p) = (resolved_pattern-known r inherited ds k h p, tt)
      item-known (t.start m p) = (resolved_pattern-known r inherited ds k h p, tt)
      item-known (t.div xs) = items-known xs
      item-known (t.include x inherit xs) =
          let u = handed_on inherited ds inherit in
          let items = all_components f inherited ds xs in
          let all = known x u (handed_on-known r inherited ds k h inherit) in
          let from = each_kept (HasKnownBody Known) (λ c. not (has_key c.key items)) (f x u) all in
          each_append (HasKnownBody Known) (without_overridden (f x u) items) items from (items-known xs)

      items-known : (xs : Items) → AllByRecursion (HasKnownBody Known) (all_components f inherited ds xs)
      items-known t.no_items = tt
      items-known (t.item x xs) =
          each_append (HasKnownBody Known) (item_components f inherited ds x) (all_components f inherited ds xs)
          (item-known x) (items-known xs)

  module _ (ms : List NamedModule) (declared : DeclareKnown Known ms) where
    abbrev IsOfKnown : NamedModule → Type 0
    IsOfKnown m = AllByRecursion (DeclaresKnown Known) m.tree.declarations

    within-known : (depth : ℕ) → IncludesKnown (components_within depth ms)
    within-known zero x u k = tt
    within-known (suc depth) x u k =
        let f = components_within depth ms in
        each_flat (HasKnownBody Known) IsOfKnown (λ (m : NamedModule). module_components f u m.tree)
        (λ m h. items-known f (within-known depth) u m.tree.declarations k h m.tree.items)
        (modules_named x ms) (each_kept IsOfKnown (λ m. bytes_eq x m.name) ms declared)

    pub set_components-known : AllByRecursion (HasKnownBody Known) (set_components ms)
    set_components-known =
        each_flat (HasKnownBody Known) (λ _. ⊤) (λ (m : NamedModule). components ms m.name [])
        (λ m h. within-known (suc instance_limit) m.name [] r.knows_none) (roots ms) (all_true (roots ms))
