-- Renamed modules lack the keys that the modules lack, and want the modules that these want.
use mathlib.Core.Logic.Iff
use Rattle.std.proofs.Common.{◌≡◌, ◌↔◌, ℕ, suc, Bool, ◌&&◌, ◌||◌, not, List, [], ◌∷◌, map, Option, Contains, refl, sym, ap, ◌∙◌, subst}
use Rattle.rn_text.specs.Texts.{Text}
use Rattle.rn_syntax.specs.Tree as t
use Rattle.rn_syntax.specs.Tree.{Declaration, Item, Items}
use Rattle.rn_assemble.specs.Components.{Key, Component, NamedModule, has_key, handed_on, all_components, modules_named, components, instance_limit}
use Rattle.rn_assemble.specs.Refusal.{item_lacks, items_lack, Lacks, Wants}
use Rattle.rn_assemble.specs.Renamed.{IsRenaming}
use Rattle.rn_assemble.specs.inside.RenamedModules.{renamed_module, renamed_modules}
use Rattle.rn_assemble.proofs.Referring.ListMembers.{map_contains, map_contained}
use Rattle.rn_assemble.proofs.Renaming.AlikeFacts.{same_type}
use Rattle.rn_assemble.proofs.Renaming.ResolvedPatterns.{renamed_declarations, handed_on-renamed}
use Rattle.rn_assemble.proofs.Renaming.RenamedComponents.{modules_named-renamed, Includes-renamed, has_key-renamed, items-renamed, components_within-renamed, IncludesRenamed}

mapped_empty : {X Y : Type 0} (f : X → Y) (xs : List X) → (map f xs ≡ []) ↔ (xs ≡ [])
mapped_empty f [] = (λ e. refl, λ e. refl)
mapped_empty f (x ∷ xs) = (λ e. cc, λ e. cc)

module _ (named : Text → Text) (ms : List NamedModule) where
  missing_alike : (w : Text) → (modules_named w (renamed_modules named ms) ≡ []) ↔ (modules_named w ms ≡ [])
  missing_alike w =
      subst (λ l. (l ≡ []) ↔ (modules_named w ms ≡ [])) (sym (modules_named-renamed named w ms))
      (mapped_empty (renamed_module named) (modules_named w ms))

  pub Wants-renamed : (x w : Text) → Wants (renamed_modules named ms) x w ↔ Wants ms x w
  Wants-renamed x w = Iff.and (same_type (Includes-renamed named ms x w)) (missing_alike w)

module _ {named : Text → Text} {Known : Text → Type 0} (r : IsRenaming named Known) where
  module _ (f g : Text → Text → List Component) (included : IncludesRenamed named f g) (inherited : Text) (ds : List Declaration) where
    -- the declarations renamed
    abbrev es : List Declaration
    es = renamed_declarations named ds

    own_keys : (k : Key) (xs : Items)
        → has_key k (all_components g (named inherited) es xs) ≡ has_key k (all_components f inherited ds xs)
    own_keys k xs =
        ap (has_key k) (items-renamed r f g included inherited ds xs) ∙ has_key-renamed named k (all_components f inherited ds xs)

    included_keys : (k : Key) (x : Text) (inherit : Option (Text × ℕ))
        → has_key k (g x (handed_on (named inherited) es inherit)) ≡ has_key k (f x (handed_on inherited ds inherit))
    included_keys k x inherit =
        let u = handed_on inherited ds inherit in
        ap (λ v. has_key k (g x v)) (handed_on-renamed r inherited ds inherit) ∙ ap (has_key k) (included x u)
        ∙ has_key-renamed named k (f x u)

    mutual
      item_lacks-renamed : (x : Item) (k : Key) → item_lacks g (named inherited) es x k ≡ item_lacks f inherited ds x k
      item_lacks-renamed (t.define x m p) k = refl
      item_lacks-renamed (t.start m p) k = refl
      item_lacks-renamed (t.div xs) k = items_lack-renamed xs k
      item_lacks-renamed (t.include x inherit xs) k =
          let own = own_keys k xs in
          let from = included_keys k x inherit in
          λ i. own i && not (from i)

      pub items_lack-renamed : (xs : Items) (k : Key) → items_lack g (named inherited) es xs k ≡ items_lack f inherited ds xs k
      items_lack-renamed t.no_items k = refl
      items_lack-renamed (t.item x xs) k =
          let first = item_lacks-renamed x k in
          let rest = items_lack-renamed xs k in
          λ i. first i || rest i

  module _ (ms : List NamedModule) where
    -- the modules renamed
    abbrev ns : List NamedModule
    ns = renamed_modules named ms

    -- a module, among others, lacks the key
    abbrev module_lacks : List NamedModule → NamedModule → Key → Bool
    module_lacks among m k = items_lack (components among) [] m.tree.declarations m.tree.items k

    lacks_alike : (m : NamedModule) (k : Key) → module_lacks ns (renamed_module named m) k ≡ module_lacks ms m k
    lacks_alike m k =
        let ds = m.tree.declarations in
        ap (λ u. items_lack (components ns) u (renamed_declarations named ds) m.tree.items k) (sym r.none)
        ∙ items_lack-renamed (components ms) (components ns) (components_within-renamed r (suc instance_limit) ms) [] ds m.tree.items k

    lacks_to : (x : Text) (k : Key) → Lacks ns x k → Lacks ms x k
    lacks_to x k (n, c, e) =
        let found = subst (λ l. Contains l n) (modules_named-renamed named x ms) c in
        let (m, d, same) = map_contained (renamed_module named) (modules_named x ms) n found in
        (m, d, sym (lacks_alike m k) ∙ ap (λ o. module_lacks ns o k) same ∙ e)

    lacks_from : (x : Text) (k : Key) → Lacks ms x k → Lacks ns x k
    lacks_from x k (m, c, e) =
        let n = renamed_module named m in
        let found = map_contains (renamed_module named) (modules_named x ms) m c in
        (n, subst (λ l. Contains l n) (sym (modules_named-renamed named x ms)) found, lacks_alike m k ∙ e)

    pub Lacks-renamed : (x : Text) (k : Key) → Lacks (renamed_modules named ms) x k ↔ Lacks ms x k
    Lacks-renamed x k = (lacks_to x k, lacks_from x k)
