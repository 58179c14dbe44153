-- The components of modules in which no except is at fault have excepts that are allowed.
use Rattle.std.proofs.Common.{◌≡◌, ℕ, zero, suc, Bool, true, false, not, cond, List, [], ◌∷◌, filter, refl, Some, None}
use Rattle.std.specs.Prelude.{⊤, bytes_eq}
use Rattle.std.specs.List.{AllByRecursion}
use Rattle.std.proofs.lemmas.Bool.{and_parts, false≢true}
use Rattle.rn_text.specs.Texts.{Text}
use Rattle.rn_pattern.specs.Excepts.{IsExcept, AreExcepts, HasExcepts, HaveExcepts}
use Rattle.rn_pattern.proofs.Ordered.Ascending.{each_append, each_flat}
use Rattle.rn_syntax.specs.declared.tree.Operator.TheVariants as o
use Rattle.rn_syntax.specs.declared.tree.Postfix.TheVariants as r
use Rattle.rn_syntax.specs.Tree as t
use Rattle.rn_syntax.specs.Tree.{Pattern, Patterns, Declaration, Item, Items}
use Rattle.rn_syntax.specs.Places.{place_if, pattern_places, patterns_places, item_places, items_places, is_allowed, are_allowed, except_places}
use Rattle.rn_syntax.proofs.Lists.EmptyLists.{nil_parts}
use Rattle.rn_assemble.specs.Resolve.{resolved_pattern, resolved_patterns}
use Rattle.rn_assemble.specs.Components.{Component, NamedModule, has_key, handed_on, item_components, all_components, module_components, modules_named, components_within, components, instance_limit, roots, set_components, without_overridden}

-- where excepts in a pattern are at fault
abbrev pub places : Pattern → List ℕ
places = pattern_places (λ _. []) (λ _ _ _. []) (λ i p. place_if (not (is_allowed p)) i)

abbrev all_places : Patterns → List ℕ
all_places = patterns_places (λ _. []) (λ _ _ _. []) (λ i p. place_if (not (is_allowed p)) i)

abbrev pub in_item : Item → List ℕ
in_item = item_places (λ _. []) (λ _ _ _. []) (λ i p. place_if (not (is_allowed p)) i) (λ _. [])

abbrev pub in_items : Items → List ℕ
in_items = items_places (λ _. []) (λ _ _ _. []) (λ i p. place_if (not (is_allowed p)) i) (λ _. [])

allowed_at : (b : Bool) (i : ℕ) → place_if (not b) i ≡ [] → b ≡ true
allowed_at true i e = refl
allowed_at false i e = cc

module _ (inherited : Text) (ds : List Declaration) where
  mutual
    resolved_except : (p : Pattern) → is_allowed p ≡ true → places p ≡ [] → IsExcept (resolved_pattern inherited ds p)
    resolved_except t.not_allowed e h = tt
    resolved_except (t.value None s) e h = tt
    resolved_except (t.value (Some d) s) e h = tt
    resolved_except (t.datum d ps) e h = tt
    resolved_except (t.datum_but d ps i p) e h = let both = nil_parts (place_if (not (is_allowed p)) i) (places p) h in resolved_except p (allowed_at (is_allowed p) i both.0) both.1
    resolved_except (t.chain o.Bar ps) e h = resolved_excepts ps e h
    resolved_except p e h = absurd (false≢true e)

    resolved_excepts : (ps : Patterns) → are_allowed ps ≡ true → all_places ps ≡ [] → AreExcepts (resolved_patterns inherited ds ps)
    resolved_excepts t.no_patterns e h = tt
    resolved_excepts (t.pattern p ps) e h =
        let allowed = and_parts (is_allowed p) (are_allowed ps) e in
        let both = nil_parts (places p) (all_places ps) h in
        (resolved_except p allowed.0 both.0, resolved_excepts ps allowed.1 both.1)

  mutual
    pub resolved_has : (p : Pattern) → places p ≡ [] → HasExcepts (resolved_pattern inherited ds p)
    resolved_has (t.element c p) h = resolved_has p h
    resolved_has (t.attribute c p) h = resolved_has p h
    resolved_has (t.list p) h = resolved_has p h
    resolved_has (t.mixed p) h = (resolved_has p h, (tt, tt))
    resolved_has t.empty h = tt
    resolved_has t.not_allowed h = tt
    resolved_has t.text h = tt
    resolved_has (t.ref x) h = tt
    resolved_has (t.value None s) h = tt
    resolved_has (t.value (Some d) s) h = tt
    resolved_has (t.datum d ps) h = tt
    resolved_has (t.datum_but d ps i p) h = let both = nil_parts (place_if (not (is_allowed p)) i) (places p) h in resolved_except p (allowed_at (is_allowed p) i both.0) both.1
    resolved_has (t.repeated r.Question p) h = (resolved_has p h, (tt, tt))
    resolved_has (t.repeated r.Star p) h = (resolved_has p h, (tt, tt))
    resolved_has (t.repeated r.Plus p) h = resolved_has p h
    resolved_has (t.chain o.Comma ps) h = resolved_have ps h
    resolved_has (t.chain o.Ampersand ps) h = resolved_have ps h
    resolved_has (t.chain o.Bar ps) h = resolved_have ps h

    resolved_have : (ps : Patterns) → all_places ps ≡ [] → HaveExcepts (resolved_patterns inherited ds ps)
    resolved_have t.no_patterns h = tt
    resolved_have (t.pattern p ps) h = let both = nil_parts (places p) (all_places ps) h in (resolved_has p both.0, resolved_have ps both.1)

abbrev Good : Component → Type 0
Good c = HasExcepts c.body

module _ {X : Type 0} (P : X → Type 0) where
  each_kept_at : (b : Bool) (x : X) (xs : List X) → P x → AllByRecursion P xs → AllByRecursion P (cond b (x ∷ xs) xs)
  each_kept_at true x xs h k = (h, k)
  each_kept_at false x xs h k = k

  pub each_kept : (test : X → Bool) (xs : List X) → AllByRecursion P xs → AllByRecursion P (filter test xs)
  each_kept test [] h = tt
  each_kept test (x ∷ xs) h = each_kept_at (test x) x (filter test xs) h.0 (each_kept test xs h.1)

module _ (included : Text → Text → List Component) (good : (x u : Text) → AllByRecursion Good (included x u)) (inherited : Text) (ds : List Declaration) where
  mutual
    item_good : (x : Item) → in_item x ≡ [] → AllByRecursion Good (item_components included inherited ds x)
    item_good (t.define n m p) h = (resolved_has inherited ds p h, tt)
    item_good (t.start m p) h = (resolved_has inherited ds p h, tt)
    item_good (t.div xs) h = items_good xs h
    item_good (t.include wanted inherit xs) h =
        let own = all_components included inherited ds xs in
        let from = included wanted (handed_on inherited ds inherit) in
        each_append Good (without_overridden from own) own (each_kept Good (λ c. not (has_key c.key own)) from (good wanted (handed_on inherited ds inherit))) (items_good xs h)

    items_good : (xs : Items) → in_items xs ≡ [] → AllByRecursion Good (all_components included inherited ds xs)
    items_good t.no_items h = tt
    items_good (t.item x xs) h =
        let both = nil_parts (in_item x) (in_items xs) h in
        each_append Good (item_components included inherited ds x) (all_components included inherited ds xs) (item_good x both.0) (items_good xs both.1)

-- no except of the module is at fault
abbrev Allowed : NamedModule → Type 0
Allowed m = except_places m.tree ≡ []

pub all_true : {X : Type 0} (rs : List X) → AllByRecursion (λ _. ⊤) rs
all_true [] = tt
all_true (r ∷ rs) = (tt, all_true rs)

module _ (modules : List NamedModule) (allowed : AllByRecursion Allowed modules) where
  within_good : (depth : ℕ) (x u : Text) → AllByRecursion Good (components_within depth modules x u)
  within_good zero x u = tt
  within_good (suc depth) x u =
      each_flat Good Allowed (λ (m : NamedModule). module_components (components_within depth modules) u m.tree)
      (λ m h. items_good (components_within depth modules) (within_good depth) u m.tree.declarations m.tree.items h) (modules_named x modules) (each_kept Allowed (λ m. bytes_eq x m.name) modules allowed)

  -- the components of the set
  pub set_excepts : AllByRecursion (λ (c : Component). HasExcepts c.body) (set_components modules)
  set_excepts = each_flat Good (λ _. ⊤) (λ (r : NamedModule). components modules r.name []) (λ r h. within_good (suc instance_limit) r.name []) (roots modules) (all_true (roots modules))
