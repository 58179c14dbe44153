-- The components of a module are those of its contents, with the included ones put in before an include's own.
use Rattle.std.proofs.Common.{◌≡◌, ℕ, ◌+◌, ◌≤◌, Bool, true, false, not, ◌&&◌, ◌||◌, List, [], ◌∷◌, ◌++◌, length, map, Option, refl, sym, ap, ◌∙◌, subst, arith, append_assoc, append-nil}
use Rattle.std.specs.Prelude.{slice_range}
use Rattle.std.proofs.lemmas.List.{map-append, length-append}
use Rattle.std.proofs.lemmas.List.Folds.{list_any-append}
use Rattle.rn_text.specs.Texts.{Text}
use Rattle.rn_syntax.specs.Tree as t
use Rattle.rn_syntax.specs.Tree.{Declaration, Item, Items, item_includes, includes}
use Rattle.rn_assemble.specs.Components.{Component, Key, NamedModule, all_components, item_components, has_key, same_key, without_overridden, handed_on}
use Rattle.rn_assemble.specs.inside.Contained.{AreFlat, IsFlat, Inclusion, WrittenComponent, inclusions, item_inclusions, item_written_components, place_in, written_components}
use Rattle.rn_assemble.specs.inside.ContentsOf.{resolved_component}
use Rattle.rn_assemble.proofs.Expansion.IncludeOrder.{Follow, Ordered, items_follow, items_none, no_includes_front, no_includes_behind}
use Rattle.rn_assemble.proofs.Expansion.Ranges.{range_both, range_none, range_parts, whole_range}
use Rattle.rn_assemble.proofs.Expansion.SameKeys.{keys_overridden}

module _ (at : Option ℕ → Text → List Component) (u : Text) (ds : List Declaration) where
  abbrev included : Inclusion → List Component
  included i = at i.module_at (handed_on u ds i.inherit)

  abbrev made : List WrittenComponent → List Component
  made ws = map (resolved_component u ds) ws

  -- what is left from a place on
  abbrev pub spliced : List WrittenComponent → List Inclusion → ℕ → List Component
  spliced ws [] n = map (resolved_component u ds) (slice_range ws n (length ws))
  spliced ws (i ∷ is) n = map (resolved_component u ds) (slice_range ws n i.first) ++ (without_overridden (at i.module_at (handed_on u ds i.inherit)) (map (resolved_component u ds) (slice_range ws i.first i.end)) ++ spliced ws is i.first)

  -- the same, with what includes override
  abbrev pub unparted : List WrittenComponent → List Inclusion → ℕ → List Component
  unparted ws [] n = made (slice_range ws n (length ws))
  unparted ws (i ∷ is) n = made (slice_range ws n i.first) ++ (included i ++ unparted ws is i.first)

  -- its keys are those of what is left: an include's own components come behind
  or_left : (a b c d : Bool) → (a ≡ true → d ≡ true) → (b || (c || d)) ≡ (b || ((c && not a) || d))
  or_left true true c d h = refl
  or_left true false true d h = sym (h refl)
  or_left true false false d h = refl
  or_left false true c d h = refl
  or_left false false true d h = refl
  or_left false false false d h = refl

  or_true : (b c : Bool) → c ≡ true → (b || c) ≡ true
  or_true true c e = refl
  or_true false c e = e

  or_either : (b c d : Bool) → (c ≡ true → d ≡ true) → (b || c) ≡ true → (b || d) ≡ true
  or_either true c d h e = refl
  or_either false c d h e = h e

  has_both : (k : Key) (cs ds : List Component) → has_key k (cs ++ ds) ≡ (has_key k cs || has_key k ds)
  has_both k cs ds = list_any-append (λ (c : Component). same_key k c.key) cs ds

  has_parts : (k : Key) (ws : List WrittenComponent) (a b c : ℕ) → a ≤ b → b ≤ c → has_key k (made (slice_range ws a c)) ≡ (has_key k (made (slice_range ws a b)) || has_key k (made (slice_range ws b c)))
  has_parts k ws a b c l m = ap (λ vs. has_key k (made vs)) (range_both ws a b c l m) ∙ ap (has_key k) (map-append (resolved_component u ds) (slice_range ws a b) (slice_range ws b c)) ∙ has_both k (made (slice_range ws a b)) (made (slice_range ws b c))

  abbrev taken : List WrittenComponent → Inclusion → List Component
  taken ws i = without_overridden (included i) (made (slice_range ws i.first i.end))

  has_spliced : (k : Key) (ws : List WrittenComponent) (i : Inclusion) (is : List Inclusion) (n : ℕ) → has_key k (spliced ws (i ∷ is) n) ≡ (has_key k (made (slice_range ws n i.first)) || (has_key k (taken ws i) || has_key k (spliced ws is i.first)))
  has_spliced k ws i is n = has_both k (made (slice_range ws n i.first)) (taken ws i ++ spliced ws is i.first) ∙ ap (λ b. has_key k (made (slice_range ws n i.first)) || b) (has_both k (taken ws i) (spliced ws is i.first))

  -- a key of the components from a place on
  written_key : (k : Key) (ws : List WrittenComponent) (is : List Inclusion) (n : ℕ) → Ordered (length ws) n is → has_key k (made (slice_range ws n (length ws))) ≡ true → has_key k (spliced ws is n) ≡ true
  written_key k ws [] n o e = e
  written_key k ws (i ∷ is) n o e =
      has_spliced k ws i is n
      ∙ or_either (has_key k (made (slice_range ws n i.first))) (has_key k (made (slice_range ws i.first (length ws)))) (has_key k (taken ws i) || has_key k (spliced ws is i.first))
      (λ h. or_true (has_key k (taken ws i)) (has_key k (spliced ws is i.first)) (written_key k ws is i.first o.3 h))
      (sym (has_parts k ws n i.first (length ws) o.0 (omega (arith, o.1, o.2))) ∙ e)

  or_begin : (b c : Bool) → b ≡ true → (b || c) ≡ true
  or_begin true c e = refl
  or_begin false c e = cc

  pub keys_unparted : (k : Key) (ws : List WrittenComponent) (is : List Inclusion) (n : ℕ) → Ordered (length ws) n is → has_key k (unparted ws is n) ≡ has_key k (spliced ws is n)
  keys_unparted k ws [] n o = refl
  keys_unparted k ws (i ∷ is) n o =
      let own = made (slice_range ws i.first i.end) in
      let rest = has_key k (spliced ws is i.first) in
      let before = has_key k (made (slice_range ws n i.first)) in
      let inner : has_key k own ≡ true → rest ≡ true = λ e. written_key k ws is i.first o.3 (has_parts k ws i.first i.end (length ws) o.1 o.2 ∙ or_begin (has_key k own) (has_key k (made (slice_range ws i.end (length ws)))) e) in
      has_both k (made (slice_range ws n i.first)) (included i ++ unparted ws is i.first) ∙ ap (λ b. before || b) (has_both k (included i) (unparted ws is i.first) ∙ ap (λ b. has_key k (included i) || b) (keys_unparted k ws is i.first o.3))
      ∙ or_left (has_key k own) before (has_key k (included i)) rest inner
      ∙ sym (has_spliced k ws i is n ∙ ap (λ b. before || (b || rest)) (keys_overridden k (included i) own))

module _ (modules : List NamedModule) where
  module _ (f : Text → Text → List Component) (at : Option ℕ → Text → List Component) (agree : (w v : Text) → at (place_in modules w) v ≡ f w v) (u : Text) (ds : List Declaration) where
    abbrev res : List WrittenComponent → List Component
    res ws = map (resolved_component u ds) ws

    skips : (ws : List WrittenComponent) (js : List Inclusion) (n m : ℕ) → n ≤ m → m ≤ length ws → Follow (length ws) m js → spliced at u ds ws js n ≡ res (slice_range ws n m) ++ spliced at u ds ws js m
    skips ws [] n m l k o = ap res (range_both ws n m (length ws) l k) ∙ map-append (resolved_component u ds) (slice_range ws n m) (slice_range ws m (length ws))
    skips ws (j ∷ js) n m l k o =
        let rest = without_overridden (at j.module_at (handed_on u ds j.inherit)) (res (slice_range ws j.first j.end)) ++ spliced at u ds ws js j.first in
        ap (λ l. l ++ rest) (ap res (range_both ws n m j.first l o.0) ∙ map-append (resolved_component u ds) (slice_range ws n m) (slice_range ws m j.first)) ∙ append_assoc (res (slice_range ws n m)) (res (slice_range ws m j.first)) rest

    -- own items, among which there is no include
    mutual
      item_plain : (x : Item) → item_includes x ≡ [] → item_components f u ds x ≡ res (item_written_components x)
      item_plain (t.define x m p) e = refl
      item_plain (t.start m p) e = refl
      item_plain (t.div xs) e = items_plain xs e
      item_plain (t.include w h xs) e = cc

      pub items_plain : (xs : Items) → includes xs ≡ [] → all_components f u ds xs ≡ res (written_components xs)
      items_plain t.no_items e = refl
      items_plain (t.item x xs) e =
          let first = item_plain x (no_includes_front (item_includes x) (includes xs) e) in
          let rest = items_plain xs (no_includes_behind (item_includes x) (includes xs) e) in
          (λ i. first i ++ rest i) ∙ sym (map-append (resolved_component u ds) (item_written_components x) (written_components xs))

    one_more : (ws : List WrittenComponent) (js : List Inclusion) (n : ℕ) (w : WrittenComponent) → n + 1 ≤ length ws → slice_range ws n (n + 1) ≡ w ∷ [] → Follow (length ws) (n + 1) js → spliced at u ds ws js n ≡ res (w ∷ []) ++ spliced at u ds ws js (n + 1)
    one_more ws js n w l e o = skips ws js n (n + 1) (omega arith) l o ∙ ap (λ vs. res vs ++ spliced at u ds ws js (n + 1)) e

    mutual
      item_spliced : (ws : List WrittenComponent) (x : Item) (js : List Inclusion) (n : ℕ) → IsFlat x → n + length (item_written_components x) ≤ length ws → slice_range ws n (n + length (item_written_components x)) ≡ item_written_components x → Follow (length ws) (n + length (item_written_components x)) js
          → spliced at u ds ws (item_inclusions modules n x ++ js) n ≡ item_components f u ds x ++ spliced at u ds ws js (n + length (item_written_components x))
      item_spliced ws (t.define x m p) js n fl l e o = one_more ws js n _ l e o
      item_spliced ws (t.start m p) js n fl l e o = one_more ws js n _ l e o
      item_spliced ws (t.div xs) js n fl l e o = items_spliced ws xs js n fl l e o
      item_spliced ws (t.include w h xs) js n fl l e o =
          let k = n + length (written_components xs) in
          let v = handed_on u ds h in
          let i : Inclusion = record { module_at = place_in modules w; inherit = h; first = n; end = k } in
          let own : all_components f u ds xs ≡ res (written_components xs) = items_plain xs fl in
          let whole = (λ j. spliced at u ds ws ((items_none modules n xs fl j ++ i ∷ []) ++ js) n) ∙ ap (λ r. res r ++ (without_overridden (at (place_in modules w) v) (res (slice_range ws n k)) ++ spliced at u ds ws js n)) (range_none ws n) in
          whole ∙ (λ j. without_overridden (agree w v j) (res (e j)) ++ spliced at u ds ws js n) ∙ ap (λ r. without_overridden (f w v) (res (written_components xs)) ++ r) (skips ws js n k (omega arith) l o ∙ ap (λ r. res r ++ spliced at u ds ws js k) e)
          ∙ sym (append_assoc (without_overridden (f w v) (res (written_components xs))) (res (written_components xs)) (spliced at u ds ws js k)) ∙ (λ j. (without_overridden (f w v) (sym own j) ++ sym own j) ++ spliced at u ds ws js k)

      items_spliced : (ws : List WrittenComponent) (xs : Items) (js : List Inclusion) (n : ℕ) → AreFlat xs → n + length (written_components xs) ≤ length ws → slice_range ws n (n + length (written_components xs)) ≡ written_components xs → Follow (length ws) (n + length (written_components xs)) js
          → spliced at u ds ws (inclusions modules n xs ++ js) n ≡ all_components f u ds xs ++ spliced at u ds ws js (n + length (written_components xs))
      items_spliced ws t.no_items js n fl l e o = let z : n ≡ n + 0 = omega arith in ap (spliced at u ds ws js) z
      items_spliced ws (t.item x xs) js n fl l e o =
          let m = n + length (item_written_components x) in
          let size = length-append (item_written_components x) (written_components xs) in
          let end : n + length (item_written_components x ++ written_components xs) ≡ m + length (written_components xs) = omega (arith, size) in
          let parts = range_parts ws (item_written_components x) (written_components xs) n l e in
          let ordered = subst (λ k. Follow (length ws) k js) end o in
          let first = item_spliced ws x (inclusions modules m xs ++ js) n fl.0 (omega (arith, l, size)) parts.0 (items_follow modules (length ws) m xs js fl.1 (omega (arith, l, size)) ordered) in
          let rest = items_spliced ws xs js m fl.1 (omega (arith, l, size)) parts.1 ordered in
          ap (λ is. spliced at u ds ws is n) (append_assoc (item_inclusions modules n x) (inclusions modules m xs) js) ∙ first ∙ ap (λ r. item_components f u ds x ++ r) (rest ∙ ap (λ k. all_components f u ds xs ++ spliced at u ds ws js k) (sym end))
          ∙ sym (append_assoc (item_components f u ds x) (all_components f u ds xs) (spliced at u ds ws js (n + length (item_written_components x ++ written_components xs))))

    -- a whole module
    pub spliced_is : (xs : Items) → AreFlat xs → spliced at u ds (written_components xs) (inclusions modules 0 xs) 0 ≡ all_components f u ds xs
    spliced_is xs fl =
        let ws = written_components xs in
        let n : 0 + length ws ≡ length ws = omega arith in
        let none : spliced at u ds ws [] (0 + length ws) ≡ [] = ap (λ k. spliced at u ds ws [] k) n ∙ ap res (range_none ws (length ws)) in
        ap (λ is. spliced at u ds ws is 0) (sym (append-nil (inclusions modules 0 xs))) ∙ items_spliced ws xs [] 0 fl (omega arith) (whole_range ws) (omega arith)
        ∙ ap (λ r. all_components f u ds xs ++ r) none ∙ append-nil (all_components f u ds xs)
