-- What the instances of the modules lack, followed from the roots, is what the modules lack.
use Rattle.std.proofs.Common.{◌≡◌, inl, inr, ⊎_elim, ℕ, zero, suc, ◌<◌, ◌≤◌, true, List, [], ◌∷◌, ◌++◌, map, refl, sym, ap, ◌∙◌, subst, arith, Contains}
use Rattle.std.specs.Prelude.{◌↔◌, bytes_eq, sum_by}
use Rattle.std.specs.List.{AllByRecursion}
use Rattle.std.specs.List.Sorted.{IsStrictlySortedBy}
use Rattle.std.proofs.Math.Nat.{lt_of_not-le}
use Rattle.std.proofs.lemmas.List.{map-append}
use Rattle.std.proofs.lemmas.List.Sums.{get_or-le-sum_by}
use Rattle.std.proofs.lemmas.Slice.Eq.{bytes_eq-Decides}
use Rattle.rn_text.specs.Texts.{Text, text_cmp}
use Rattle.rn_pattern.specs.References.{Reaches, by_one, by_more}
use Rattle.rn_pattern.proofs.Ordered.InOrder.{contained_each, each_contained}
use Rattle.rn_syntax.specs.Tree as t
use Rattle.rn_syntax.specs.Tree.{Declaration, Item, Items, item_includes, includes}
use Rattle.rn_assemble.specs.Components.{Key, NamedModule, Includes, components_within, instance_limit, instances_within, modules_named, roots, included_by}
use Rattle.rn_assemble.specs.inside.Contained.{AreFlat}
use Rattle.rn_assemble.specs.inside.ContentsOf.{name_at}
use Rattle.rn_assemble.specs.inside.Included.{AreIncluded}
use Rattle.rn_assemble.specs.inside.Lacking.{LacksFrom, LacksWithin, handed_namespaces, item_handed_namespaces}
use Rattle.rn_assemble.specs.Refusal.{Lacks, items_lack}
use Rattle.rn_assemble.proofs.Combined.Depth.{few}
use Rattle.rn_assemble.proofs.Referring.ListMembers.{flat_contains, map_contained, map_contains}
use Rattle.rn_assemble.proofs.Expansion.Rooted.{IsRooted, includer, kept, rooted}
use Rattle.rn_assemble.proofs.Expansion.SameKeys.{HaveSameKeys, items_lack_same, keys_enough}

-- what is handed on goes to the includes
module _ (u : Text) (ds : List Declaration) where
  mutual
    item_handed_names : (x : Item) → map (λ (w : Text × Text). w.0) (item_handed_namespaces u ds x) ≡ item_includes x
    item_handed_names (t.define n m p) = refl
    item_handed_names (t.start m p) = refl
    item_handed_names (t.div xs) = handed_names xs
    item_handed_names (t.include w h xs) = ap (λ l. w ∷ l) (handed_names xs)

    handed_names : (xs : Items) → map (λ (w : Text × Text). w.0) (handed_namespaces u ds xs) ≡ includes xs
    handed_names t.no_items = refl
    handed_names (t.item x xs) = map-append (λ (w : Text × Text). w.0) (item_handed_namespaces u ds x) (handed_namespaces u ds xs) ∙ (λ i. item_handed_names x i ++ handed_names xs i)

  handed_in : (xs : Items) (w : Text × Text) → Contains (handed_namespaces u ds xs) w → Contains (includes xs) w.0
  handed_in xs w c = subst (λ l. Contains l w.0) (handed_names xs) (map_contains (λ (v : Text × Text). v.0) (handed_namespaces u ds xs) w c)

  handed_to : (xs : Items) (y : Text) → Contains (includes xs) y → (w : Text × Text) × Contains {X = Text × Text} (handed_namespaces u ds xs) w × (w.0 ≡ y)
  handed_to xs y c = map_contained (λ (v : Text × Text). v.0) (handed_namespaces u ds xs) y (subst (λ l. Contains l y) (sym (handed_names xs)) c)

module _ (modules : List NamedModule) (total : ℕ) where
  -- the module lacks the key, where includes are followed so deep
  abbrev LacksAt : Text → Key → Type 0
  LacksAt y k = (m : NamedModule) × Contains (modules_named y modules) m × (items_lack (components_within total modules) [] m.tree.declarations m.tree.items k ≡ true)

  fewer : (depth : ℕ) (x : Text) (m : NamedModule) (y : Text) → instances_within (suc depth) modules x ≤ suc depth → Contains (modules_named x modules) m → Contains (includes m.tree.items) y → instances_within depth modules y ≤ depth
  fewer depth x m y h c d =
      contained_each (λ z. instances_within depth modules z ≤ depth) (included_by modules x) (few modules depth x h) y (flat_contains (λ (n : NamedModule). includes n.tree.items) (modules_named x modules) m y c d)

  deep_enough : (depth : ℕ) (x u : Text) (m : NamedModule) (k : Key) → suc depth ≤ total → instances_within (suc depth) modules x ≤ suc depth → Contains (modules_named x modules) m
      → items_lack (components_within depth modules) u m.tree.declarations m.tree.items k ≡ items_lack (components_within total modules) [] m.tree.declarations m.tree.items k
  deep_enough depth x u m k le h c =
      items_lack_same (components_within depth modules) (components_within total modules) u [] m.tree.declarations m.tree.items
      (each_contained (HaveSameKeys (components_within depth modules) (components_within total modules)) (includes m.tree.items) (λ y d. keys_enough modules total depth y (omega (arith, le)) (fewer depth x m y h c d))) k

  lacked : (depth : ℕ) (x u y : Text) (k : Key) → depth ≤ total → instances_within depth modules x ≤ depth → LacksWithin depth modules x u y k → LacksAt y k
  lacked zero x u y k le h l = absurd l
  lacked (suc depth) x u y k le h (m, c, inl (e, l)) = (m, subst (λ z. Contains (modules_named z modules) m) e c, sym (deep_enough depth x u m k le h c) ∙ l)
  lacked (suc depth) x u y k le h (m, c, inr (w, d, l)) = lacked depth w.0 w.1 y k (omega (arith, le)) (fewer depth x m w.0 h c (handed_in u m.tree.declarations m.tree.items w d)) l

  here : (depth : ℕ) (y u : Text) (k : Key) → depth ≤ total → instances_within depth modules y ≤ depth → LacksAt y k → LacksWithin depth modules y u y k
  here zero y u k le h l = absurd (omega (arith, h))
  here (suc depth) y u k le h (m, c, l) = (m, c, inl (refl, deep_enough depth y u m k le h c ∙ l))

  step : (depth : ℕ) (x b y u : Text) (k : Key) → Includes modules x b → instances_within (suc depth) modules x ≤ suc depth
      → (instances_within depth modules b ≤ depth → (v : Text) → LacksWithin depth modules b v y k) → LacksWithin (suc depth) modules x u y k
  step depth x b y u k s h to =
      let m = includer modules x b s in
      let w = handed_to u m.0.tree.declarations m.0.tree.items b m.4 in
      (m.0, m.3, inr (w.0, w.1, subst (λ z. LacksWithin depth modules z w.0.1 y k) (sym w.2) (to (fewer depth x m.0 b h m.3 m.4) w.0.1)))

  along : (depth : ℕ) (x y u : Text) (k : Key) → depth ≤ total → instances_within depth modules x ≤ depth → Reaches (Includes modules) x y → LacksAt y k → LacksWithin depth modules x u y k
  along zero x y u k le h p l = absurd (omega (arith, h))
  along (suc depth) x y u k le h (by_one s) l = step depth x y y u k s h (λ f v. here depth y v k (omega (arith, le)) f l)
  along (suc depth) x y u k le h (by_more {b = b} s r) l = step depth x b y u k s h (λ f v. along depth b y v k (omega (arith, le)) f r l)

module _ (modules : List NamedModule) (limit : ℕ) (few_instances : ¬ (limit < sum_by (λ (m : NamedModule). instances_within (suc limit) modules m.name) (roots modules))) where
  root_few : (r : NamedModule) → Contains (roots modules) r → instances_within (suc limit) modules r.name ≤ suc limit
  root_few r (i, l, e) =
      let count : NamedModule → ℕ = λ m. instances_within (suc limit) modules m.name in
      omega (arith, get_or-le-sum_by count (roots modules) i r l, ap count e, lt_of_not-le few_instances)

  module _ (numbers : List ℕ) (no_cycle : (x : Text) → ¬ Reaches (Includes modules) x x) (are : map (name_at modules) numbers ≡ map (λ (m : NamedModule). m.name) (roots modules)) where
    from_roots : (y : Text) (k : Key) → (n : ℕ) × Contains numbers n × LacksWithin (suc limit) modules (name_at modules n) [] y k → LacksAt modules (suc limit) y k
    from_roots y k (n, c, l) =
        let r = map_contained (λ (m : NamedModule). m.name) (roots modules) (name_at modules n) (subst (λ xs. Contains xs (name_at modules n)) are (map_contains (name_at modules) numbers n c)) in
        lacked modules (suc limit) (suc limit) (name_at modules n) [] y k (omega arith) (subst (λ x. instances_within (suc limit) modules x ≤ suc limit) r.2 (root_few r.0 r.1)) l

    from_root : (y : Text) (k : Key) → IsRooted modules y → LacksAt modules (suc limit) y k → (n : ℕ) × Contains numbers n × LacksWithin (suc limit) modules (name_at modules n) [] y k
    from_root y k (r, c, p) l =
        let n = map_contained (name_at modules) numbers r.name (subst (λ xs. Contains xs r.name) (sym are) (map_contains (λ (m : NamedModule). m.name) (roots modules) r c)) in
        let below : LacksWithin (suc limit) modules r.name [] y k = ⊎_elim
        (λ e. subst (λ x. LacksWithin (suc limit) modules x [] y k) (sym e) (here modules (suc limit) (suc limit) y [] k (omega arith) (subst (λ x. instances_within (suc limit) modules x ≤ suc limit) e (root_few r c)) l))
        (λ q. along modules (suc limit) (suc limit) r.name y [] k (omega arith) (root_few r c) q l) p in
        (n.0, n.1, subst (λ x. LacksWithin (suc limit) modules x [] y k) (sym n.2) below)

    to_roots : (y : Text) (k : Key) → LacksAt modules (suc limit) y k → (n : ℕ) × Contains numbers n × LacksWithin (suc limit) modules (name_at modules n) [] y k
    to_roots y k (m, c, l) =
        let there = kept (λ (n : NamedModule). bytes_eq y n.name) modules m c in
        let same : m.name ≡ y = sym ((bytes_eq-Decides y m.name).0 there.1) in
        from_root y k (subst (IsRooted modules) same (rooted modules no_cycle m there.0)) (m, c, l)

    lacks_either_way : (y : Text) (k : Key) → ((n : ℕ) × Contains numbers n × LacksWithin (suc limit) modules (name_at modules n) [] y k) ↔ LacksAt modules (suc limit) y k
    lacks_either_way y k = (from_roots y k, to_roots y k)

-- what the instances of the roots lack, the modules lack
pub lacks_alike : (modules : List NamedModule) (numbers : List ℕ) → IsStrictlySortedBy text_cmp (map (λ (m : NamedModule). m.name) modules)
    → AllByRecursion (λ (m : NamedModule). AreFlat m.tree.items) modules → AreIncluded modules numbers → (y : Text) (k : Key) → LacksFrom modules numbers y k ↔ Lacks modules y k
lacks_alike modules numbers sorted flat a y k = lacks_either_way modules instance_limit a.few numbers a.no_cycle a.are y k
