-- The step of bringing a module in, include by include.
use Rattle.std.proofs.Common.{◌≡◌, ◌⊎◌, inl, inr, ⊎_elim, ℕ, suc, ◌+◌, ◌<◌, ◌≤◌, List, [], ◌∷◌, ◌++◌, length, take, drop, map, Option, Some, refl, sym, ap, ◌∙◌, subst, arith, append_assoc}
use Rattle.std.specs.Prelude.{◌↔◌, slice_get, slice_range}
use Rattle.std.specs.List.{AllByRecursion}
use Rattle.std.specs.Option.{option_map_or}
use Rattle.std.proofs.lemmas.List.{drop_all, map-append, take_all}
use Rattle.std.proofs.lemmas.List.Elements.{All-from_recursion}
use Rattle.std.proofs.lemmas.Option.{get_or_from_slice_get, same_Some}
use Rattle.rn_text.specs.Texts.{Text}
use Rattle.rn_pattern.proofs.Ordered.Ascending.{each_append}
use Rattle.rn_syntax.specs.Tree as t
use Rattle.rn_syntax.specs.Tree.{Declaration}
use Rattle.rn_assemble.specs.declared.reading.contents.Contents.{Contents}
use Rattle.rn_assemble.specs.declared.reading.contents.Include.{Include}
use Rattle.rn_assemble.specs.declared.resolving.context.Context.{Context}
use Rattle.rn_assemble.specs.declared.including.segments.Segments.{Segments}
use Rattle.rn_assemble.specs.Components.{Component, Key, NamedModule, components_within, has_key, without_overridden}
use Rattle.rn_assemble.specs.inside.Bringing.{Brings, CanAdd, CanBring, CanList, InclusionLacks, brought_in, included_in, own_components}
use Rattle.rn_assemble.specs.inside.Contained.{AreFlat, Inclusion, WrittenComponent, inclusions, item_inclusions, written_components}
use Rattle.rn_assemble.specs.inside.ContentsOf.{IsContents, declarations_at, name_at, resolved_component, segment_begin, segment_end, written_at}
use Rattle.rn_assemble.specs.inside.ContextBindings.{AgreeUnder, BindsAs}
use Rattle.rn_assemble.specs.inside.Lacking.{LacksWithin}
use Rattle.rn_assemble.specs.inside.Views.{inclusion_view}
use Rattle.rn_assemble.proofs.Expansion.BroughtSegments.{brings_both, brings_like, brings_none}
use Rattle.rn_assemble.proofs.Expansion.IncludedLacks.{SomeLacks, lacks_are, some_more, some_none}
use Rattle.rn_assemble.proofs.Expansion.IncludeOrder.{Ordered, inclusions_ordered}
use Rattle.rn_assemble.proofs.Expansion.ModuleLookups.{expanded_is, included_agrees, one_named, place_within}
use Rattle.rn_assemble.proofs.Expansion.SameNamespaces.{agree_back, components_alike, lacks_alike}
use Rattle.rn_assemble.proofs.Expansion.SegmentPlaces.{zip_get}
use Rattle.rn_assemble.proofs.Expansion.Spliced.{keys_unparted, spliced, spliced_is, unparted}

-- each include's module is one of the modules
abbrev pub IsWithin : List NamedModule → Inclusion → Type 0
IsWithin modules i = (k : ℕ) → i.module_at ≡ Some k → k < length modules

module _ (modules : List NamedModule) where
  mutual
    item_within : (n : ℕ) (x : t.Item) → AllByRecursion (IsWithin modules) (item_inclusions modules n x)
    item_within n (t.define x m p) = tt
    item_within n (t.start m p) = tt
    item_within n (t.div xs) = items_within n xs
    item_within n (t.include w h xs) = each_append (IsWithin modules) (inclusions modules n xs) _ (items_within n xs) (λ k e. place_within w k modules e, tt)

    items_within : (n : ℕ) (xs : t.Items) → AllByRecursion (IsWithin modules) (inclusions modules n xs)
    items_within n t.no_items = tt
    items_within n (t.item x xs) = each_append (IsWithin modules) (item_inclusions modules n x) _ (item_within n x) (items_within _ xs)

-- the contents are those of the module at the place, which consists of its own components and of what its includes bring
pub record IsModule (modules : List NamedModule) (m : ℕ) (content : Contents) : Type 0 where
  pub within : m < length modules
  pub binds : BindsAs content.bindings (declarations_at modules m)
  pub count : content.count ≡ length (written_at modules m)
  pub ordered : Ordered (length (written_at modules m)) 0 (map inclusion_view content.includes.items)
  pub included : AllByRecursion (IsWithin modules) (map inclusion_view content.includes.items)
  pub components : (depth : ℕ) (u : Text) → spliced (included_in depth modules) u (declarations_at modules m) (written_at modules m) (map inclusion_view content.includes.items) 0 ≡ components_within (suc depth) modules (name_at modules m) u
  pub lacks : (depth : ℕ) (u y : Text) (k : Key)
      → SomeLacks (InclusionLacks depth modules (name_at modules m) u (declarations_at modules m) (written_at modules m)) (map inclusion_view content.includes.items) y k ↔ LacksWithin (suc depth) modules (name_at modules m) u y k
  pub components_same : (depth : ℕ) (u v : Text) → AgreeUnder (declarations_at modules m) u v → components_within depth modules (name_at modules m) u ≡ components_within depth modules (name_at modules m) v
  pub lacks_same : (depth : ℕ) (u v : Text) → AgreeUnder (declarations_at modules m) u v → (y : Text) (k : Key) → LacksWithin depth modules (name_at modules m) u y k ↔ LacksWithin depth modules (name_at modules m) v y k

pub is_module : (modules : List NamedModule) (contents : List Contents) (m : ℕ) (content : Contents) → CanList modules contents → m < length modules → slice_get contents m ≡ Some content → IsModule modules m content
is_module modules contents m content can l at =
    let z = zip_get (IsContents modules) modules contents can.are m l in
    let n = z.0 in
    let one = one_named modules can.in_order m l in
    let same : one.0 ≡ n = sym (one.1 n) ∙ get_or_from_slice_get modules m n n z.2 in
    let named = one.2 ∙ ap (λ (k : NamedModule). k ∷ []) same in
    let is : IsContents modules n content = subst (IsContents modules n) (same_Some z.1 content (sym z.3 ∙ at)) z.4 in
    let flat : AreFlat n.tree.items = subst (λ (k : NamedModule). AreFlat k.tree.items) (one.1 n ∙ same) (All-from_recursion (λ (k : NamedModule). AreFlat k.tree.items) modules can.flat m n l) in
    let ds : n.tree.declarations ≡ declarations_at modules m = sym (ap (λ (o : Option NamedModule). option_map_or (λ (k : NamedModule). k.tree.declarations) o []) z.2) in
    let ws : written_components n.tree.items ≡ written_at modules m = sym (ap (λ (o : Option NamedModule). option_map_or (λ (k : NamedModule). written_components k.tree.items) o []) z.2) in
    let js : inclusions modules 0 n.tree.items ≡ map inclusion_view content.includes.items = sym is.includes in
    let x = name_at modules m in
    record {
      within = l;
      binds = subst (λ (d : List Declaration). BindsAs content.bindings d) ds is.bindings;
      count = is.count ∙ ap length ws;
      ordered = subst (λ (v : List WrittenComponent). Ordered (length v) 0 (map inclusion_view content.includes.items)) ws (subst (λ (i : List Inclusion). Ordered (length (written_components n.tree.items)) 0 i) js (inclusions_ordered modules n.tree.items flat));
      included = subst (λ (i : List Inclusion). AllByRecursion (IsWithin modules) i) js (items_within modules 0 n.tree.items);
      components = λ depth u. (λ j. spliced (included_in depth modules) u (sym ds j) (sym ws j) (sym js j) 0)
          ∙ spliced_is modules (components_within depth modules) (included_in depth modules) (included_agrees depth modules) u n.tree.declarations n.tree.items flat ∙ sym (expanded_is depth modules m u n named);
      lacks = λ depth u y k.
          subst (λ (d : List Declaration). SomeLacks (InclusionLacks depth modules x u d (written_at modules m)) (map inclusion_view content.includes.items) y k ↔ LacksWithin (suc depth) modules x u y k) ds
          (subst (λ (v : List WrittenComponent). SomeLacks (InclusionLacks depth modules x u n.tree.declarations v) (map inclusion_view content.includes.items) y k ↔ LacksWithin (suc depth) modules x u y k) ws
          (subst (λ (i : List Inclusion). SomeLacks (InclusionLacks depth modules x u n.tree.declarations (written_components n.tree.items)) i y k ↔ LacksWithin (suc depth) modules x u y k) js
          (lacks_are depth modules x u n named flat y k)));
      components_same = λ depth u v a. components_alike modules x n named depth u v (subst (λ (d : List Declaration). AgreeUnder d u v) (sym ds) a);
      lacks_same = λ depth u v a y k.
          let here = subst (λ (d : List Declaration). AgreeUnder d u v) (sym ds) a in
          (lacks_alike modules x n named depth u v here y k, lacks_alike modules x n named depth v u (agree_back n.tree.declarations u v here) y k);
    }

-- how far a module is brought in: up to the include of number n, whose segment begins at `from`
pub record Going (modules : List NamedModule) (m : ℕ) (u : Text) (depth : ℕ) (content : Contents) (old now : Segments) (n from : ℕ) : Type 0 where
  pub done : List Component
  pub all : List Component
  pub brings : Brings modules old now done all (SomeLacks (InclusionLacks depth modules (name_at modules m) u (declarations_at modules m) (written_at modules m)) (map inclusion_view (take n content.includes.items)))
  pub left : done ++ spliced (included_in depth modules) u (declarations_at modules m) (written_at modules m) (map inclusion_view (drop n content.includes.items)) from ≡ spliced (included_in depth modules) u (declarations_at modules m) (written_at modules m) (map inclusion_view content.includes.items) 0
  pub whole : all ++ unparted (included_in depth modules) u (declarations_at modules m) (written_at modules m) (map inclusion_view (drop n content.includes.items)) from ≡ unparted (included_in depth modules) u (declarations_at modules m) (written_at modules m) (map inclusion_view content.includes.items) 0
  pub begins : from ≡ segment_begin content.includes.items n
  pub ordered : Ordered (length (written_at modules m)) from (map inclusion_view (drop n content.includes.items))
  pub included : AllByRecursion (IsWithin modules) (map inclusion_view (drop n content.includes.items))

pub end_below : (end n : ℕ) (is : List Inclusion) → Ordered end n is → n ≤ end
end_below end n [] h = h
end_below end n (i ∷ is) h = omega (arith, h.0, h.1, h.2)

module _ (modules : List NamedModule) (m : ℕ) (content : Contents) (is : IsModule modules m content) where
  -- a segment of it can be added
  pub can_segment : (x : Segments) (context : Context) (n from to : ℕ) → slice_get x.contents.now m ≡ Some content → BindsAs context.bindings.now (declarations_at modules m) → n ≤ length content.includes.items
      → from ≡ segment_begin content.includes.items n → to ≡ segment_end content n → from ≤ to → to ≤ length (written_at modules m) → CanAdd modules x m n context from to
  can_segment x context n from to at binds l begins ends ordered below = record {
    within = is.within;
    binds = binds;
    numbered = λ c e. subst (λ (d : Contents). (n ≤ length d.includes.items) × (from ≡ segment_begin d.includes.items n) × (to ≡ segment_end d n)) (same_Some content c (sym at ∙ e)) (l, begins, ends);
    ordered = ordered;
    to_within = below;
  }

  module _ (u : Text) (depth : ℕ) (old : Segments) where
    abbrev ds : List Declaration
    ds = declarations_at modules m

    abbrev ws : List WrittenComponent
    ws = written_at modules m

    abbrev items : List Include
    items = content.includes.items

    abbrev at : Option ℕ → Text → List Component
    at = included_in depth modules

    abbrev Lacks : Inclusion → Text → Key → Type 0
    Lacks = InclusionLacks depth modules (name_at modules m) u ds ws

    abbrev made : ℕ → ℕ → List Component
    made from to = map (resolved_component u ds) (slice_range ws from to)

    -- at the beginning
    pub going_none : CanBring modules old → Going modules m u depth content old old 0 0
    going_none can = record {
      done = [];
      all = [];
      brings = brings_like modules old old [] [] [] [] (λ y k. ⊥) (SomeLacks Lacks []) refl (λ k. refl) (λ y k. some_none Lacks y k) (brings_none modules old can);
      left = refl;
      whole = refl;
      begins = refl;
      ordered = is.ordered;
      included = is.included;
    }

    -- with the segment before the include of number n, and what the include brings in
    module _ (now mid new : Segments) (n from : ℕ) (i : Include) (g : Going modules m u depth content old now n from) (here : slice_get items n ≡ Some i) (step : drop n items ≡ i ∷ drop (n + 1) items) (taken : take (n + 1) items ≡ take n items ++ i ∷ [])
        (b : Brings modules now mid (made from i.from) (made from i.from) (λ y k. ⊥)) (c : Brings modules mid new (without_overridden (brought_in depth modules u ds (inclusion_view i)) (own_components modules m u ds (inclusion_view i))) (brought_in depth modules u ds (inclusion_view i)) (Lacks (inclusion_view i))) where
      abbrev part : List Component
      part = without_overridden (brought_in depth modules u ds (inclusion_view i)) (own_components modules m u ds (inclusion_view i))

      abbrev brought : List Component
      brought = brought_in depth modules u ds (inclusion_view i)

      abbrev rest : List Inclusion
      rest = map inclusion_view (drop (n + 1) items)

      abbrev js : List Inclusion
      js = map inclusion_view (take n items)

      taken_view : js ++ inclusion_view i ∷ [] ≡ map inclusion_view (take (n + 1) items)
      taken_view = sym (ap (map inclusion_view) taken ∙ map-append inclusion_view (take n items) (i ∷ []))

      lacks_more : (y : Text) (k : Key) → (SomeLacks Lacks js y k ⊎ (⊥ ⊎ Lacks (inclusion_view i) y k)) ↔ SomeLacks Lacks (map inclusion_view (take (n + 1) items)) y k
      lacks_more y k =
          let more = subst (λ (l : List Inclusion). (SomeLacks Lacks js y k ⊎ Lacks (inclusion_view i) y k) ↔ SomeLacks Lacks l y k) taken_view (some_more Lacks y k js (inclusion_view i)) in (
            λ h. more.0 (⊎_elim (λ p. inl p) (λ q. ⊎_elim (λ e. absurd e) (λ p. inr p) q) h),
            λ h. ⊎_elim (λ p. inl p) (λ p. inr (inr p)) (more.1 h),
          )

      pub going_more : Going modules m u depth content old new (n + 1) i.from
      going_more =
          let inner = brings_both modules now mid new (made from i.from) part (made from i.from) brought (λ y k. ⊥) (Lacks (inclusion_view i)) b c in
          let outer = brings_both modules old now new g.done (made from i.from ++ part) g.all (made from i.from ++ brought) (SomeLacks Lacks js) (λ y k. ⊥ ⊎ Lacks (inclusion_view i) y k) g.brings inner in
          let next : suc n ≡ n + 1 = omega arith in
          record {
            done = g.done ++ (made from i.from ++ part);
            all = g.all ++ (made from i.from ++ brought);
            brings = brings_like modules old new (g.done ++ (made from i.from ++ part)) (g.done ++ (made from i.from ++ part)) (g.all ++ (made from i.from ++ brought)) (g.all ++ (made from i.from ++ brought))
                (λ y k. SomeLacks Lacks js y k ⊎ (⊥ ⊎ Lacks (inclusion_view i) y k)) (SomeLacks Lacks (map inclusion_view (take (n + 1) items))) refl (λ k. refl) lacks_more outer;
            left =
                let after = spliced at u ds ws rest i.from in
                append_assoc g.done (made from i.from ++ part) after ∙ ap (λ l. g.done ++ l) (append_assoc (made from i.from) part after) ∙ ap (λ (l : List Include). g.done ++ spliced at u ds ws (map inclusion_view l) from) (sym step) ∙ g.left;
            whole =
                let after = unparted at u ds ws rest i.from in
                append_assoc g.all (made from i.from ++ brought) after ∙ ap (λ l. g.all ++ l) (append_assoc (made from i.from) brought after) ∙ ap (λ (l : List Include). g.all ++ unparted at u ds ws (map inclusion_view l) from) (sym step) ∙ g.whole;
            begins = sym (ap (λ (o : Option Include). option_map_or (λ (x : Include). x.from) o 0) here) ∙ ap (segment_begin items) next;
            ordered = (subst (λ (l : List Include). Ordered (length ws) from (map inclusion_view l)) step g.ordered).3;
            included = (subst (λ (l : List Include). AllByRecursion (IsWithin modules) (map inclusion_view l)) step g.included).1;
          }

    -- at the end, with the last segment, for a namespace of which the module makes the same
    pub going_end : (now new : Segments) (n from : ℕ) (v : Text) → AgreeUnder ds v u → Going modules m u depth content old now n from → length items ≤ n → Brings modules now new (made from content.count) (made from content.count) (λ y k. ⊥)
        → Brings modules old new (components_within (suc depth) modules (name_at modules m) v) (components_within (suc depth) modules (name_at modules m) v) (LacksWithin (suc depth) modules (name_at modules m) v)
    going_end now new n from v agree g past b =
        let last = made from content.count in
        let all_js = map inclusion_view items in
        let cs = components_within (suc depth) modules (name_at modules m) v in
        let is_same : components_within (suc depth) modules (name_at modules m) u ≡ cs = sym (is.components_same (suc depth) v u agree) in
        let none : drop n items ≡ [] = drop_all n items past in
        let both = brings_both modules old now new g.done last g.all last (SomeLacks Lacks (map inclusion_view (take n items))) (λ y k. ⊥) g.brings b in
        let left : g.done ++ last ≡ cs = ap (λ k. g.done ++ made from k) is.count ∙ ap (λ (l : List Include). g.done ++ spliced at u ds ws (map inclusion_view l) from) (sym none) ∙ g.left ∙ is.components depth u ∙ is_same in
        let whole : g.all ++ last ≡ unparted at u ds ws all_js 0 = ap (λ k. g.all ++ made from k) is.count ∙ ap (λ (l : List Include). g.all ++ unparted at u ds ws (map inclusion_view l) from) (sym none) ∙ g.whole in
        let took : take n items ≡ items = take_all n items past in
        brings_like modules old new (g.done ++ last) cs (g.all ++ last) cs (λ y k. SomeLacks Lacks (map inclusion_view (take n items)) y k ⊎ ⊥) (LacksWithin (suc depth) modules (name_at modules m) v) left
        (λ k. ap (has_key k) whole ∙ keys_unparted at u ds k ws all_js 0 is.ordered ∙ ap (has_key k) (is.components depth u ∙ is_same))
        (λ y k. (
          λ h. (is.lacks_same (suc depth) v u agree y k).1 ((is.lacks depth u y k).0 (subst (λ (l : List Include). SomeLacks Lacks (map inclusion_view l) y k) took (⊎_elim (λ p. p) (λ e. absurd e) h))),
          λ h. inl (subst (λ (l : List Include). SomeLacks Lacks (map inclusion_view l) y k) (sym took) ((is.lacks depth u y k).1 ((is.lacks_same (suc depth) v u agree y k).0 h))),
        )) both
