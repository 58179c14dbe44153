-- The lacks of a module are those that its includes bring.
use Rattle.std.proofs.Common.{◌≡◌, ◌⊎◌, inl, inr, ⊎_elim, ℕ, zero, suc, ◌+◌, ◌≤◌, Bool, true, ◌&&◌, ◌||◌, List, [], ◌∷◌, ◌++◌, length, map, Option, Some, None, refl, sym, ap, ◌∙◌, subst, arith, Contains}
use Rattle.std.specs.Prelude.{not, ◌↔◌, slice_range}
use Rattle.std.specs.List.{Any, list_any}
use Rattle.std.proofs.Math.Bool.{or-false}
use Rattle.std.proofs.lemmas.List.{length-append, length-map, map-append, get_or-map}
use Rattle.std.proofs.lemmas.List.Elements.{Contains-append_left, Contains-push, Contains-push_cases}
use Rattle.std.proofs.lemmas.List.Folds.{Any-from_list_any, list_any-append, list_any-from_Any}
use Rattle.rn_text.specs.Texts.{Text}
use Rattle.rn_pattern.proofs.Ordered.InOrder.{contains_cases, contains_front}
use Rattle.rn_syntax.specs.Tree as t
use Rattle.rn_syntax.specs.Tree.{Declaration, Item, Items, includes, item_includes}
use Rattle.rn_assemble.specs.Components.{Component, Key, NamedModule, components_within, handed_on, has_key, modules_named}
use Rattle.rn_assemble.specs.inside.Bringing.{IncludedLacks, InclusionLacks, included_in}
use Rattle.rn_assemble.specs.inside.Contained.{AreFlat, Inclusion, IsFlat, WrittenComponent, inclusions, item_inclusions, item_written_components, place_in, written_components}
use Rattle.rn_assemble.specs.inside.ContentsOf.{resolved_component}
use Rattle.rn_assemble.specs.inside.Lacking.{LacksWithin, handed_namespaces, item_handed_namespaces}
use Rattle.rn_assemble.specs.Refusal.{item_lacks, items_lack}
use Rattle.rn_assemble.proofs.Expansion.IncludeOrder.{items_none, no_includes_behind, no_includes_front}
use Rattle.rn_assemble.proofs.Expansion.ModuleLookups.{included_agrees, none_named, place_name}
use Rattle.rn_assemble.proofs.Expansion.Ranges.{range_parts, whole_range}
use Rattle.rn_assemble.proofs.Expansion.Spliced.{items_plain}

-- lacks that one of these brings, and those of one more
abbrev pub SomeLacks : {X : Type 0} → (X → Text → Key → Type 0) → List X → Text → Key → Type 0
SomeLacks {X} P xs y k = (x : X) × Contains xs x × P x y k

module _ {X : Type 0} (P : X → Text → Key → Type 0) (y : Text) (k : Key) where
  pub some_none : ⊥ ↔ SomeLacks P [] y k
  some_none = (λ h. absurd h, λ h. omega (arith, h.1.1))

  pub some_more : (xs : List X) (x : X) → (SomeLacks P xs y k ⊎ P x y k) ↔ SomeLacks P (xs ++ x ∷ []) y k
  some_more xs x = (
    ⊎_elim (λ p. (p.0, Contains-append_left xs (x ∷ []) p.0 p.1, p.2)) (λ p. (x, Contains-push xs x, p)),
    λ p. ⊎_elim (λ c. inl (p.0, c, p.2)) (λ e. inr (subst (λ z. P z y k) (sym e) p.2)) (Contains-push_cases xs x p.0 p.1),
  )

-- some element of a list, and of what it is made to
any_map : {X Y : Type 0} (f : X → Y) (P : Y → Type 0) (xs : List X) → Any (λ x. P (f x)) xs → Any P (map f xs)
any_map f P xs (k, x, l, e, p) = (k, f x, omega (arith, l, length-map xs f), get_or-map f xs k x (f x) l ∙ ap f e, p)

any_unmap : {X Y : Type 0} (f : X → Y) (P : Y → Type 0) (xs : List X) → Any P (map f xs) → Any (λ x. P (f x)) xs
any_unmap f P [] (k, y, l, e, p) = absurd (omega (arith, l))
any_unmap f P (x ∷ xs) (zero, y, l, e, p) = (0, x, omega arith, refl, subst P (sym e) p)
any_unmap f P (x ∷ xs) (suc k, y, l, e, p) = let r = any_unmap f P xs (k, y, omega (arith, l), e, p) in (suc r.0, r.1, omega (arith, r.2), r.3, r.4)

-- which key is lacked by an include alone
module _ (modules : List NamedModule) (f : Text → Text → List Component) (at : Option ℕ → Text → List Component) (agree : (w v : Text) → at (place_in modules w) v ≡ f w v) (u : Text) (ds : List Declaration) where
  abbrev res : List WrittenComponent → List Component
  res ws = map (resolved_component u ds) ws

  abbrev lacks_by : List WrittenComponent → Key → Inclusion → Bool
  lacks_by ws k i = has_key k (res (slice_range ws i.first i.end)) && not (has_key k (at i.module_at (handed_on u ds i.inherit)))

  mutual
    item_lacks_by : (ws : List WrittenComponent) (k : Key) (x : Item) (n : ℕ) → IsFlat x → n + length (item_written_components x) ≤ length ws → slice_range ws n (n + length (item_written_components x)) ≡ item_written_components x
        → list_any (lacks_by ws k) (item_inclusions modules n x) ≡ item_lacks f u ds x k
    item_lacks_by ws k (t.define x m p) n fl l e = refl
    item_lacks_by ws k (t.start m p) n fl l e = refl
    item_lacks_by ws k (t.div xs) n fl l e = items_lack_by ws k xs n fl l e
    item_lacks_by ws k (t.include w h xs) n fl l e =
        let v = handed_on u ds h in
        let i : Inclusion = record { module_at = place_in modules w; inherit = h; first = n; end = n + length (written_components xs) } in
        ap (λ (is : List Inclusion). list_any (lacks_by ws k) (is ++ i ∷ [])) (items_none modules n xs fl) ∙ or-false (lacks_by ws k i)
        ∙ (λ j. has_key k (res (e j)) && not (has_key k (agree w v j)))
        ∙ ap (λ (cs : List Component). has_key k cs && not (has_key k (f w v))) (sym (items_plain modules f at agree u ds xs fl))

    items_lack_by : (ws : List WrittenComponent) (k : Key) (xs : Items) (n : ℕ) → AreFlat xs → n + length (written_components xs) ≤ length ws → slice_range ws n (n + length (written_components xs)) ≡ written_components xs
        → list_any (lacks_by ws k) (inclusions modules n xs) ≡ items_lack f u ds xs k
    items_lack_by ws k t.no_items n fl l e = refl
    items_lack_by ws k (t.item x xs) n fl l e =
        let m = n + length (item_written_components x) in
        let size = length-append (item_written_components x) (written_components xs) in
        let parts = range_parts ws (item_written_components x) (written_components xs) n l e in
        let first = item_lacks_by ws k x n fl.0 (omega (arith, l, size)) parts.0 in
        let rest = items_lack_by ws k xs m fl.1 (omega (arith, l, size)) parts.1 in
        list_any-append (lacks_by ws k) (item_inclusions modules n x) (inclusions modules m xs) ∙ (λ j. first j || rest j)

  items_lack_is : (k : Key) (xs : Items) → AreFlat xs → list_any (lacks_by (written_components xs) k) (inclusions modules 0 xs) ≡ items_lack f u ds xs k
  items_lack_is k xs fl = items_lack_by (written_components xs) k xs 0 fl (omega arith) (whole_range (written_components xs))

-- which modules are included, by name and by place, and the namespace that is handed on
module _ (modules : List NamedModule) (u : Text) (ds : List Declaration) where
  abbrev wanted_at : Text × Text → Option ℕ × Text
  wanted_at w = (place_in modules w.0, w.1)

  abbrev included_at : Inclusion → Option ℕ × Text
  included_at i = (i.module_at, handed_on u ds i.inherit)

  mutual
    none_handed_item : (x : Item) → item_includes x ≡ [] → item_handed_namespaces u ds x ≡ []
    none_handed_item (t.define x m p) e = refl
    none_handed_item (t.start m p) e = refl
    none_handed_item (t.div xs) e = none_handed xs e
    none_handed_item (t.include w h xs) e = cc

    none_handed : (xs : Items) → includes xs ≡ [] → handed_namespaces u ds xs ≡ []
    none_handed t.no_items e = refl
    none_handed (t.item x xs) e =
        let first = none_handed_item x (no_includes_front (item_includes x) (includes xs) e) in
        let rest = none_handed xs (no_includes_behind (item_includes x) (includes xs) e) in
        λ i. first i ++ rest i

  mutual
    item_handed_by : (n : ℕ) (x : Item) → IsFlat x → map wanted_at (item_handed_namespaces u ds x) ≡ map included_at (item_inclusions modules n x)
    item_handed_by n (t.define x m p) fl = refl
    item_handed_by n (t.start m p) fl = refl
    item_handed_by n (t.div xs) fl = handed_by n xs fl
    item_handed_by n (t.include w h xs) fl =
        let i : Inclusion = record { module_at = place_in modules w; inherit = h; first = n; end = n + length (written_components xs) } in
        ap (λ (ws : List (Text × Text)). wanted_at (w, handed_on u ds h) ∷ map wanted_at ws) (none_handed xs fl) ∙ sym (ap (λ (is : List Inclusion). map included_at (is ++ i ∷ [])) (items_none modules n xs fl))

    handed_by : (n : ℕ) (xs : Items) → AreFlat xs → map wanted_at (handed_namespaces u ds xs) ≡ map included_at (inclusions modules n xs)
    handed_by n t.no_items fl = refl
    handed_by n (t.item x xs) fl =
        let m = n + length (item_written_components x) in
        let first = item_handed_by n x fl.0 in
        let rest = handed_by m xs fl.1 in
        map-append wanted_at (item_handed_namespaces u ds x) (handed_namespaces u ds xs) ∙ (λ j. first j ++ rest j) ∙ sym (map-append included_at (item_inclusions modules n x) (inclusions modules m xs))

-- a module that is not there lacks nothing
nothing_lacked : (depth : ℕ) (modules : List NamedModule) (w v y : Text) (k : Key) → modules_named w modules ≡ [] → ¬ LacksWithin depth modules w v y k
nothing_lacked zero modules w v y k e h = h
nothing_lacked (suc depth) modules w v y k e h =
    let c : Contains [] h.0 = subst (λ (ms : List NamedModule). Contains ms h.0) e h.1 in
    absurd (omega (arith, c.1))

lacked_at : (depth : ℕ) (modules : List NamedModule) (w v y : Text) (k : Key) (o : Option ℕ) → place_in modules w ≡ o → LacksWithin depth modules w v y k → IncludedLacks depth modules o v y k
lacked_at depth modules w v y k None e h = nothing_lacked depth modules w v y k (none_named w 0 modules e) h
lacked_at depth modules w v y k (Some i) e h = subst (λ x. LacksWithin depth modules x v y k) (sym (place_name w i modules e)) h

lacked_from : (depth : ℕ) (modules : List NamedModule) (w v y : Text) (k : Key) (o : Option ℕ) → place_in modules w ≡ o → IncludedLacks depth modules o v y k → LacksWithin depth modules w v y k
lacked_from depth modules w v y k None e h = absurd h
lacked_from depth modules w v y k (Some i) e h = subst (λ x. LacksWithin depth modules x v y k) (place_name w i modules e) h

-- the lacks of the one module of a name
module _ (depth : ℕ) (modules : List NamedModule) (x u : Text) (m : NamedModule) (named : modules_named x modules ≡ m ∷ []) (flat : AreFlat m.tree.items) (y : Text) (k : Key) where
  abbrev is : List Inclusion
  is = inclusions modules 0 m.tree.items

  abbrev FollowedInclude : Inclusion → Type 0
  FollowedInclude i = InclusionLacks depth modules x u m.tree.declarations (written_components m.tree.items) i y k

  abbrev Within : Option ℕ × Text → Type 0
  Within w = IncludedLacks depth modules w.0 w.1 y k

  -- in a module, by its own includes or within
  abbrev InModule : NamedModule → Type 0
  InModule n = ((x ≡ y) × (items_lack (components_within depth modules) u n.tree.declarations n.tree.items k ≡ true))
      ⊎ ((w : Text × Text) × Contains {X = Text × Text} (handed_namespaces u n.tree.declarations n.tree.items) w × LacksWithin depth modules w.0 w.1 y k)

  abbrev test : Inclusion → Bool
  test = lacks_by modules (components_within depth modules) (included_in depth modules) (included_agrees depth modules) u m.tree.declarations (written_components m.tree.items) k

  own_is : list_any test is ≡ items_lack (components_within depth modules) u m.tree.declarations m.tree.items k
  own_is = items_lack_is modules (components_within depth modules) (included_in depth modules) (included_agrees depth modules) u m.tree.declarations k m.tree.items flat

  to_brought : InModule m → Any FollowedInclude is
  to_brought (inl (s, e)) = let a = Any-from_list_any test is (own_is ∙ e) in (a.0, a.1, a.2, a.3, inl (s, a.4))
  to_brought (inr (w, c, h)) =
      let at : Any Within (map (wanted_at modules u m.tree.declarations) (handed_namespaces u m.tree.declarations m.tree.items)) = any_map (wanted_at modules u m.tree.declarations) Within (handed_namespaces u m.tree.declarations m.tree.items) (c.0, w, c.1, c.2, lacked_at depth modules w.0 w.1 y k (place_in modules w.0) refl h) in
      let a = any_unmap (included_at modules u m.tree.declarations) Within is (subst (λ (ws : List (Option ℕ × Text)). Any Within ws) (handed_by modules u m.tree.declarations 0 m.tree.items flat) at) in
      (a.0, a.1, a.2, a.3, inr a.4)

  from_brought : Any FollowedInclude is → InModule m
  from_brought (j, i, l, e, inl (s, b)) = inl (s, sym own_is ∙ list_any-from_Any test is (j, i, l, e, b))
  from_brought (j, i, l, e, inr h) =
      let at : Any Within (map (included_at modules u m.tree.declarations) is) = any_map (included_at modules u m.tree.declarations) Within is (j, i, l, e, h) in
      let a = any_unmap (wanted_at modules u m.tree.declarations) Within (handed_namespaces u m.tree.declarations m.tree.items) (subst (λ (ws : List (Option ℕ × Text)). Any Within ws) (sym (handed_by modules u m.tree.declarations 0 m.tree.items flat)) at) in
      inr (a.1, (a.0, a.2, a.3), lacked_from depth modules a.1.0 a.1.1 y k (place_in modules a.1.0) refl a.4)

  lacks_brought : LacksWithin (suc depth) modules x u y k → SomeLacks (InclusionLacks depth modules x u m.tree.declarations (written_components m.tree.items)) is y k
  lacks_brought h =
      let only : (m ≡ h.0) ⊎ Contains [] h.0 = contains_cases m h.0 [] (subst (λ (ms : List NamedModule). Contains ms h.0) named h.1) in
      let a = to_brought (⊎_elim (λ s. subst InModule (sym s) h.2) (λ c. absurd (omega (arith, c.1))) only) in
      (a.1, (a.0, a.2, a.3), a.4)

  brought_lacks : SomeLacks (InclusionLacks depth modules x u m.tree.declarations (written_components m.tree.items)) is y k → LacksWithin (suc depth) modules x u y k
  brought_lacks (i, c, h) = (m, subst (λ (ms : List NamedModule). Contains ms m) (sym named) (contains_front m []), from_brought (c.0, i, c.1, c.2, h))

  pub lacks_are : SomeLacks (InclusionLacks depth modules x u m.tree.declarations (written_components m.tree.items)) is y k ↔ LacksWithin (suc depth) modules x u y k
  lacks_are = (brought_lacks, lacks_brought)
