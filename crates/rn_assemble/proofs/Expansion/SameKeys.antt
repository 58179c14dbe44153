-- Which keys components have: the same under any namespace, and with includes that have the same.
use Rattle.std.proofs.Common.{◌≡◌, ℕ, zero, suc, ◌+◌, ◌-◌, ◌≤◌, Bool, true, false, cond, not, List, [], ◌∷◌, ◌++◌, refl, sym, ap, ◌∙◌, arith}
use Rattle.std.specs.Prelude.{flat_map, ◌||◌, ◌&&◌}
use Rattle.std.specs.List.{AllByRecursion}
use Rattle.std.proofs.Math.Bool.{and-false}
use Rattle.std.proofs.lemmas.List.Folds.{list_any-append}
use Rattle.rn_text.specs.Texts.{Text}
use Rattle.rn_pattern.proofs.Ordered.Ascending.{each_front, each_behind}
use Rattle.rn_pattern.proofs.Ordered.InOrder.{each_contained}
use Rattle.rn_syntax.specs.Tree as t
use Rattle.rn_syntax.specs.Tree.{Declaration, Item, Items, item_includes, includes}
use Rattle.rn_assemble.specs.Components.{Key, Component, NamedModule, same_key, has_key, without_overridden, handed_on, item_components, all_components, module_components, modules_named, components_within, instances_within, included_by}
use Rattle.rn_assemble.specs.Refusal.{item_lacks, items_lack}
use Rattle.rn_assemble.proofs.Combined.Depth.{components_enough}
use Rattle.rn_assemble.proofs.Referring.KeyNumbers.{same_key-Decides}

keys_joined : (k : Key) (ps qs cs ds : List Component) → has_key k ps ≡ has_key k cs → has_key k qs ≡ has_key k ds → has_key k (ps ++ qs) ≡ has_key k (cs ++ ds)
keys_joined k ps qs cs ds e f =
    let p : Component → Bool = λ c. same_key k c.key in
    list_any-append p ps qs ∙ (λ i. e i || f i) ∙ sym (list_any-append p cs ds)

-- a component that is kept, or not, where its key is overridden or not
kept_key : (b kept : Bool) (k : Key) (c : Component) (rest : List Component) (more free : Bool) → same_key k c.key ≡ b → (b ≡ true → kept ≡ free) → has_key k rest ≡ (more && free) → has_key k (cond kept (c ∷ rest) rest) ≡ ((b || more) && free)
kept_key true true k c rest more free e s h = ap (λ x. x || has_key k rest) e ∙ s refl
kept_key true false k c rest more free e s h = h ∙ ap (λ x. more && x) (sym (s refl)) ∙ and-false more ∙ s refl
kept_key false true k c rest more free e s h = ap (λ x. x || has_key k rest) e ∙ h
kept_key false false k c rest more free e s h = h

pub keys_overridden : (k : Key) (cs own : List Component) → has_key k (without_overridden cs own) ≡ (has_key k cs && not (has_key k own))
keys_overridden k [] own = refl
keys_overridden k (c ∷ cs) own =
    kept_key (same_key k c.key) (not (has_key c.key own)) k c (without_overridden cs own) (has_key k cs) (not (has_key k own)) refl
    (λ e. ap (λ j. not (has_key j own)) (sym ((same_key-Decides k c.key).0 e))) (keys_overridden k cs own)

keys_spliced : (k : Key) (cs own ds mine : List Component) → has_key k cs ≡ has_key k ds → has_key k own ≡ has_key k mine → has_key k (without_overridden cs own ++ own) ≡ has_key k (without_overridden ds mine ++ mine)
keys_spliced k cs own ds mine e f =
    keys_joined k (without_overridden cs own) own (without_overridden ds mine) mine (keys_overridden k cs own ∙ (λ i. e i && not (f i)) ∙ sym (keys_overridden k ds mine)) f

module _ (f g : Text → Text → List Component) where
  abbrev pub HaveSameKeys : Text → Type 0
  HaveSameKeys y = (u v : Text) (k : Key) → has_key k (f y u) ≡ has_key k (g y v)

  module _ (u v : Text) (ds : List Declaration) where
    mutual
      item_keys : (x : Item) → AllByRecursion HaveSameKeys (item_includes x) → (k : Key) → has_key k (item_components f u ds x) ≡ has_key k (item_components g v ds x)
      item_keys (t.define n m p) a k = refl
      item_keys (t.start m p) a k = refl
      item_keys (t.div xs) a k = items_keys xs a k
      item_keys (t.include w h xs) a k =
          keys_spliced k (f w (handed_on u ds h)) (all_components f u ds xs) (g w (handed_on v ds h)) (all_components g v ds xs) (a.0 (handed_on u ds h) (handed_on v ds h) k) (items_keys xs a.1 k)

      items_keys : (xs : Items) → AllByRecursion HaveSameKeys (includes xs) → (k : Key) → has_key k (all_components f u ds xs) ≡ has_key k (all_components g v ds xs)
      items_keys t.no_items a k = refl
      items_keys (t.item x xs) a k =
          keys_joined k (item_components f u ds x) (all_components f u ds xs) (item_components g v ds x) (all_components g v ds xs)
          (item_keys x (each_front HaveSameKeys (item_includes x) (includes xs) a) k) (items_keys xs (each_behind HaveSameKeys (item_includes x) (includes xs) a) k)

    mutual
      item_lacks_same : (x : Item) → AllByRecursion HaveSameKeys (item_includes x) → (k : Key) → item_lacks f u ds x k ≡ item_lacks g v ds x k
      item_lacks_same (t.define n m p) a k = refl
      item_lacks_same (t.start m p) a k = refl
      item_lacks_same (t.div xs) a k = items_lack_same xs a k
      item_lacks_same (t.include w h xs) a k = let own = items_keys xs a.1 k in let from = a.0 (handed_on u ds h) (handed_on v ds h) k in λ i. own i && not (from i)

      -- what the includes lack
      pub items_lack_same : (xs : Items) → AllByRecursion HaveSameKeys (includes xs) → (k : Key) → items_lack f u ds xs k ≡ items_lack g v ds xs k
      items_lack_same t.no_items a k = refl
      items_lack_same (t.item x xs) a k =
          let first = item_lacks_same x (each_front HaveSameKeys (item_includes x) (includes xs) a) k in
          let rest = items_lack_same xs (each_behind HaveSameKeys (item_includes x) (includes xs) a) k in
          λ i. first i || rest i

  modules_keys : (u v : Text) (ms : List NamedModule) → AllByRecursion HaveSameKeys (flat_map (λ (m : NamedModule). includes m.tree.items) ms) → (k : Key)
      → has_key k (flat_map (λ (m : NamedModule). module_components f u m.tree) ms) ≡ has_key k (flat_map (λ (m : NamedModule). module_components g v m.tree) ms)
  modules_keys u v [] a k = refl
  modules_keys u v (m ∷ ms) a k =
      let more = flat_map (λ (n : NamedModule). includes n.tree.items) ms in
      keys_joined k (module_components f u m.tree) (flat_map (λ (n : NamedModule). module_components f u n.tree) ms) (module_components g v m.tree) (flat_map (λ (n : NamedModule). module_components g v n.tree) ms)
      (items_keys u v m.tree.declarations m.tree.items (each_front HaveSameKeys (includes m.tree.items) more a) k) (modules_keys u v ms (each_behind HaveSameKeys (includes m.tree.items) more a) k)

module _ (modules : List NamedModule) where
  keys_anywhere : (depth : ℕ) (x : Text) → HaveSameKeys (components_within depth modules) (components_within depth modules) x
  keys_anywhere zero x u v k = refl
  keys_anywhere (suc depth) x u v k =
      let all : (y : Text) → HaveSameKeys (components_within depth modules) (components_within depth modules) y = keys_anywhere depth in
      modules_keys (components_within depth modules) (components_within depth modules) u v (modules_named x modules) (each_contained (HaveSameKeys (components_within depth modules) (components_within depth modules)) (included_by modules x) (λ y c. all y)) k

  -- the same at any depth from the number of a module's instances on
  pub keys_enough : (total depth : ℕ) (x : Text) → depth ≤ total → instances_within depth modules x ≤ depth → HaveSameKeys (components_within depth modules) (components_within total modules) x
  keys_enough total depth x le h u v k =
      let e : depth + (total - depth) ≡ total = omega arith in
      keys_anywhere depth x u v k ∙ ap (has_key k) (sym (components_enough modules (total - depth) depth x v h)) ∙ ap (λ n. has_key k (components_within n modules x v)) e
