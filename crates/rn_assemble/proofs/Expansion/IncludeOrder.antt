-- The includes of a module stand in the order of their own components.
use Rattle.std.proofs.Common.{◌≡◌, ℕ, zero, suc, ◌+◌, ◌<◌, ◌≤◌, List, [], ◌∷◌, ◌++◌, length, get_or, map, Some, refl, sym, ap, ◌∙◌, subst, inl, inr, arith, append_assoc, append-nil}
use Rattle.std.specs.Prelude.{slice_get}
use Rattle.std.specs.List.{AllByRecursion, AllZip}
use Rattle.std.proofs.lemmas.Bool.{cases_lt}
use Rattle.std.proofs.lemmas.List.{length-append}
use Rattle.std.proofs.lemmas.Option.{same_Some, slice_get-get_or}
use Rattle.rn_text.specs.Texts.{Text}
use Rattle.rn_syntax.specs.Tree as t
use Rattle.rn_syntax.specs.Tree.{Item, Items, item_includes, includes}
use Rattle.rn_assemble.specs.Components.{NamedModule}
use Rattle.rn_assemble.specs.declared.reading.contents.Contents.{Contents}
use Rattle.rn_assemble.specs.declared.reading.contents.Include.{Include}
use Rattle.rn_assemble.specs.inside.Bringing.{CanList}
use Rattle.rn_assemble.specs.inside.Contained.{AreFlat, IsFlat, Inclusion, inclusions, item_inclusions, item_written_components, place_in, written_components}
use Rattle.rn_assemble.specs.inside.ContentsOf.{AreApart, HasOrderedIncludes, IsContents}
use Rattle.rn_assemble.specs.inside.Views.{inclusion_view}

-- no include before a place, and each include's own components behind it
abbrev pub Ordered : ℕ → ℕ → List Inclusion → Type 0
Ordered end n [] = n ≤ end
Ordered end n (i ∷ is) = (n ≤ i.first) × (i.first ≤ i.end) × (i.end ≤ end) × Ordered end i.first is

pub no_includes_front : (xs ys : List Text) → xs ++ ys ≡ [] → xs ≡ []
no_includes_front [] ys e = refl
no_includes_front (x ∷ xs) ys e = cc

pub no_includes_behind : (xs ys : List Text) → xs ++ ys ≡ [] → ys ≡ []
no_includes_behind [] ys e = e
no_includes_behind (x ∷ xs) ys e = cc

pub ordered_from : (end m n : ℕ) (js : List Inclusion) → m ≤ n → Ordered end n js → Ordered end m js
ordered_from end m n [] l h = omega (arith, l, h)
ordered_from end m n (j ∷ js) l h = (omega (arith, l, h.0), h.1, h.2, h.3)

-- the same, and each include behind the own components of those before it
abbrev pub Follow : ℕ → ℕ → List Inclusion → Type 0
Follow end n [] = n ≤ end
Follow end n (i ∷ is) = (n ≤ i.first) × (i.first ≤ i.end) × (i.end ≤ end) × Follow end i.end is

follow_from : (end m n : ℕ) (js : List Inclusion) → m ≤ n → Follow end n js → Follow end m js
follow_from end m n [] l h = omega (arith, l, h)
follow_from end m n (j ∷ js) l h = (omega (arith, l, h.0), h.1, h.2, h.3)

ordered_if : (end n : ℕ) (js : List Inclusion) → Follow end n js → Ordered end n js
ordered_if end n [] h = h
ordered_if end n (j ∷ js) h = (h.0, h.1, h.2, ordered_from end j.first j.end js h.1 (ordered_if end j.end js h.3))

module _ (modules : List NamedModule) where
  -- where there is no include
  mutual
    item_none : (n : ℕ) (x : Item) → item_includes x ≡ [] → item_inclusions modules n x ≡ []
    item_none n (t.define x m p) e = refl
    item_none n (t.start m p) e = refl
    item_none n (t.div xs) e = items_none n xs e
    item_none n (t.include w u xs) e = cc

    pub items_none : (n : ℕ) (xs : Items) → includes xs ≡ [] → inclusions modules n xs ≡ []
    items_none n t.no_items e = refl
    items_none n (t.item x xs) e =
        let first = item_none n x (no_includes_front (item_includes x) (includes xs) e) in
        let rest = items_none (n + length (item_written_components x)) xs (no_includes_behind (item_includes x) (includes xs) e) in
        λ i. first i ++ rest i

  mutual
    item_follows : (end n : ℕ) (x : Item) (js : List Inclusion) → IsFlat x → n + length (item_written_components x) ≤ end → Follow end (n + length (item_written_components x)) js → Follow end n (item_inclusions modules n x ++ js)
    item_follows end n (t.define x m p) js f l h = follow_from end n (n + 1) js (omega arith) h
    item_follows end n (t.start m p) js f l h = follow_from end n (n + 1) js (omega arith) h
    item_follows end n (t.div xs) js f l h = items_follow end n xs js f l h
    item_follows end n (t.include w u xs) js f l h =
        let i : Inclusion = record { module_at = place_in modules w; inherit = u; first = n; end = n + length (written_components xs) } in
        subst (λ is. Follow end n ((is ++ i ∷ []) ++ js)) (sym (items_none n xs f)) (omega arith, omega arith, l, h)

    pub items_follow : (end n : ℕ) (xs : Items) (js : List Inclusion) → AreFlat xs → n + length (written_components xs) ≤ end → Follow end (n + length (written_components xs)) js → Follow end n (inclusions modules n xs ++ js)
    items_follow end n t.no_items js f l h = follow_from end n (n + 0) js (omega arith) h
    items_follow end n (t.item x xs) js f l h =
        let size = length-append (item_written_components x) (written_components xs) in
        let m = n + length (item_written_components x) in
        let e : n + length (item_written_components x ++ written_components xs) ≡ m + length (written_components xs) = omega (arith, size) in
        subst (λ is. Follow end n is) (sym (append_assoc (item_inclusions modules n x) (inclusions modules m xs) js))
        (item_follows end n x (inclusions modules m xs ++ js) f.0 (omega (arith, l, size)) (items_follow end m xs js f.1 (omega (arith, l, size)) (subst (λ k. Follow end k js) e h)))

  inclusions_follow : (xs : Items) → AreFlat xs → Follow (length (written_components xs)) 0 (inclusions modules 0 xs)
  inclusions_follow xs f =
      let n = length (written_components xs) in
      subst (λ is. Follow n 0 is) (append-nil (inclusions modules 0 xs)) (items_follow n 0 xs [] f (omega arith) (omega arith))

  pub inclusions_ordered : (xs : Items) → AreFlat xs → Ordered (length (written_components xs)) 0 (inclusions modules 0 xs)
  inclusions_ordered xs f = ordered_if (length (written_components xs)) 0 (inclusions modules 0 xs) (inclusions_follow xs f)

-- those in the code begin no lower than n, and rise
module _ (end : ℕ) where
  below_all : (n : ℕ) (xs : List Include) (j : ℕ) (b : Include) → Follow end n (map inclusion_view xs) → slice_get xs j ≡ Some b → (n ≤ b.from) × (b.from ≤ b.to)
  below_all n [] j b h e = cc
  below_all n (x ∷ xs) zero b h e = subst (λ (i : Include). (n ≤ i.from) × (i.from ≤ i.to)) (same_Some x b e) (h.0, h.1)
  below_all n (x ∷ xs) (suc j) b h e =
      let rest = below_all x.to xs j b h.3 e in
      (omega (arith, h.0, h.1, rest.0), rest.1)

  behind : (n : ℕ) (xs : List Include) (i j : ℕ) (a b : Include) → Follow end n (map inclusion_view xs) → i < j → slice_get xs i ≡ Some a → slice_get xs j ≡ Some b → a.to ≤ b.from
  behind n [] i j a b h l e f = cc
  behind n (x ∷ xs) i zero a b h l e f = absurd (omega arith)
  behind n (x ∷ xs) zero (suc j) a b h l e f = subst (λ (i : Include). i.to ≤ b.from) (same_Some x a e) (below_all x.to xs j b h.3 f).0
  behind n (x ∷ xs) (suc i) (suc j) a b h l e f = behind x.to xs i j a b h.3 (omega arith) e f

  rise : (n : ℕ) (xs : List Include) (i j : ℕ) (d : Include) → Follow end n (map inclusion_view xs) → i ≤ j → j < length xs → (get_or xs i d).from ≤ (get_or xs j d).from
  rise n xs i j d h l m =
      let a = slice_get-get_or xs i d (omega (arith, l, m)) in
      let b = slice_get-get_or xs j d m in
      let own = below_all n xs i (get_or xs i d) h a in
      elim (cases_lt i j) [
        | inl k ↦ let to = behind n xs i j (get_or xs i d) (get_or xs j d) h k a b in omega (arith, own.1, to)
        | inr k ↦ let e : i ≡ j = omega (arith, k, l) in subst (λ t. (get_or xs i d).from ≤ (get_or xs t d).from) e (omega arith)
      ]

  apart_all : (n : ℕ) (xs : List Include) → Follow end n (map inclusion_view xs) → AreApart xs
  apart_all n xs h = record {
    ordered = λ i c. (below_all n xs c.0 i h (slice_get-get_or xs c.0 i c.1 ∙ ap Some c.2)).1;
    apart = λ i j a b. behind n xs i j a b h;
  }

-- what holds of the includes of each module, if its modules are flat
module _ (all : List NamedModule) (P : Contents → Type 0) (one : (end : ℕ) (c : Contents) → Follow end 0 (map inclusion_view c.includes.items) → P c) where
  of_contents : (modules : List NamedModule) (contents : List Contents) → AllZip (IsContents all) modules contents → AllByRecursion (λ (m : NamedModule). AreFlat m.tree.items) modules → AllByRecursion P contents
  of_contents [] [] z f = tt
  of_contents [] (c ∷ cs) z f = absurd z
  of_contents (m ∷ ms) [] z f = absurd z
  of_contents (m ∷ ms) (c ∷ cs) z f =
      let n = length (written_components m.tree.items) in
      (one n c (subst (λ is. Follow n 0 is) (sym z.0.includes) (inclusions_follow all m.tree.items f.0)), of_contents ms cs z.1 f.1)

-- the includes of flat modules stand in the order of their own components
pub includes_ordered : (modules : List NamedModule) (contents : List Contents) → CanList modules contents → AllByRecursion HasOrderedIncludes contents
includes_ordered modules contents can =
    of_contents modules HasOrderedIncludes (λ end c h i j d. rise end 0 c.includes.items i j d h) modules contents can.are can.flat

-- each include's own components come before those of the includes behind it
pub includes_apart : (modules : List NamedModule) (contents : List Contents) → CanList modules contents → AllByRecursion (λ (c : Contents). AreApart c.includes.items) contents
includes_apart modules contents can =
    of_contents modules (λ (c : Contents). AreApart c.includes.items) (λ end c h. apart_all end 0 c.includes.items h) modules contents can.are can.flat
