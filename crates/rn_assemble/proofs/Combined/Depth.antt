-- Where a module has no more instances than the depth, any greater depth gives the same instances and the same components.
use Rattle.std.proofs.Common.{◌≡◌, ℕ, zero, suc, ◌+◌, ◌≤◌, List, [], ◌∷◌, ◌++◌, refl, ap, ◌∙◌, arith}
use Rattle.std.specs.Prelude.{flat_map, sum_by}
use Rattle.std.specs.List.{AllByRecursion}
use Rattle.std.proofs.lemmas.List.Sums.{sum_by-cons}
use Rattle.rn_text.specs.Texts.{Text}
use Rattle.rn_pattern.proofs.Ordered.Ascending.{each_front, each_behind}
use Rattle.rn_syntax.specs.Tree as t
use Rattle.rn_syntax.specs.Tree.{Declaration, Item, Items, item_includes, includes}
use Rattle.rn_assemble.specs.Components.{Component, NamedModule, item_components, all_components, module_components, without_overridden, handed_on, included_by, modules_named, components_within, instances_within}

-- the components of items depend on those of their includes alone
module _ (f g : Text → Text → List Component) where
  abbrev Agree : Text → Type 0
  Agree y = (u : Text) → f y u ≡ g y u

  module _ (u : Text) (ds : List Declaration) where
    mutual
      item-agree : (x : Item) → AllByRecursion Agree (item_includes x) → item_components f u ds x ≡ item_components g u ds x
      item-agree (t.define n m p) a = refl
      item-agree (t.start m p) a = refl
      item-agree (t.div xs) a = items-agree xs a
      item-agree (t.include w h xs) a =
          let own = items-agree xs a.1 in
          let from = a.0 (handed_on u ds h) in
          λ i. without_overridden (from i) (own i) ++ own i

      items-agree : (xs : Items) → AllByRecursion Agree (includes xs) → all_components f u ds xs ≡ all_components g u ds xs
      items-agree t.no_items a = refl
      items-agree (t.item x xs) a =
          let first = item-agree x (each_front Agree (item_includes x) (includes xs) a) in
          let rest = items-agree xs (each_behind Agree (item_includes x) (includes xs) a) in
          λ i. first i ++ rest i

  modules-agree : (u : Text) (ms : List NamedModule) → AllByRecursion Agree (flat_map (λ (m : NamedModule). includes m.tree.items) ms)
      → flat_map (λ (m : NamedModule). module_components f u m.tree) ms ≡ flat_map (λ (m : NamedModule). module_components g u m.tree) ms
  modules-agree u [] a = refl
  modules-agree u (m ∷ ms) a =
      let more = flat_map (λ (n : NamedModule). includes n.tree.items) ms in
      let first = items-agree u m.tree.declarations m.tree.items (each_front Agree (includes m.tree.items) more a) in
      let rest = modules-agree u ms (each_behind Agree (includes m.tree.items) more a) in
      λ i. first i ++ rest i

-- no part of a sum is more than the sum
parts_up_to : (f : Text → ℕ) (n : ℕ) (xs : List Text) → sum_by f xs ≤ n → AllByRecursion (λ y. f y ≤ n) xs
parts_up_to f n [] h = tt
parts_up_to f n (x ∷ xs) h = (omega (arith, h, sum_by-cons f x xs), parts_up_to f n xs (omega (arith, h, sum_by-cons f x xs)))

each_to : (P Q : Text → Type 0) → ((x : Text) → P x → Q x) → (xs : List Text) → AllByRecursion P xs → AllByRecursion Q xs
each_to P Q to [] h = tt
each_to P Q to (x ∷ xs) h = (to x h.0, each_to P Q to xs h.1)

sums_agree : (f g : Text → ℕ) (xs : List Text) → AllByRecursion (λ y. f y ≡ g y) xs → sum_by f xs ≡ sum_by g xs
sums_agree f g [] h = refl
sums_agree f g (x ∷ xs) h = omega (arith, sum_by-cons f x xs, sum_by-cons g x xs, h.0, sums_agree f g xs h.1)

module _ (modules : List NamedModule) where
  pub few : (depth : ℕ) (x : Text) → instances_within (suc depth) modules x ≤ suc depth → AllByRecursion (λ y. instances_within depth modules y ≤ depth) (included_by modules x)
  few depth x h = parts_up_to (instances_within depth modules) depth (included_by modules x) (omega (arith, h))

  same_count : (depth : ℕ) (x : Text) → instances_within depth modules x ≤ depth → instances_within (suc depth) modules x ≡ instances_within depth modules x
  same_count zero x h = absurd (omega (arith, h))
  same_count (suc depth) x h =
      ap (λ n. 1 + n) (sums_agree (instances_within (suc depth) modules) (instances_within depth modules) (included_by modules x) (each_to (λ y. instances_within depth modules y ≤ depth) (λ y. instances_within (suc depth) modules y ≡ instances_within depth modules y) (same_count depth) (included_by modules x) (few depth x h)))

  one_deeper : (depth : ℕ) (x u : Text) → instances_within depth modules x ≤ depth → components_within (suc depth) modules x u ≡ components_within depth modules x u
  one_deeper zero x u h = absurd (omega (arith, h))
  one_deeper (suc depth) x u h =
      modules-agree (components_within (suc depth) modules) (components_within depth modules) u (modules_named x modules)
      (each_to (λ y. instances_within depth modules y ≤ depth) (Agree (components_within (suc depth) modules) (components_within depth modules)) (λ y k v. one_deeper depth y v k) (included_by modules x) (few depth x h))

  pub instances_enough : (more depth : ℕ) (x : Text) → instances_within depth modules x ≤ depth → instances_within (depth + more) modules x ≡ instances_within depth modules x
  instances_enough zero depth x h = let e : depth + zero ≡ depth = omega arith in ap (λ n. instances_within n modules x) e
  instances_enough (suc more) depth x h =
      let e : depth + suc more ≡ suc (depth + more) = omega arith in
      let before = instances_enough more depth x h in
      ap (λ n. instances_within n modules x) e ∙ same_count (depth + more) x (omega (arith, before, h)) ∙ before

  pub components_enough : (more depth : ℕ) (x u : Text) → instances_within depth modules x ≤ depth → components_within (depth + more) modules x u ≡ components_within depth modules x u
  components_enough zero depth x u h = let e : depth + zero ≡ depth = omega arith in ap (λ n. components_within n modules x u) e
  components_enough (suc more) depth x u h =
      let e : depth + suc more ≡ suc (depth + more) = omega arith in
      ap (λ n. components_within n modules x u) e ∙ one_deeper (depth + more) x u (omega (arith, instances_enough more depth x h, h)) ∙ components_enough more depth x u h
