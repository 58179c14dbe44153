-- Components that are added to the rows of their keys, one after the other.
use Rattle.std.proofs.Common.{◌≡◌, ◌≢◌, ℕ, suc, ◌+◌, ◌<◌, ◌≤◌, cond, inl, inr, List, [], ◌∷◌, ◌++◌, length, map, refl, sym, ap, ◌∙◌, subst, append_assoc, append-nil, arith, true, false}
use Rattle.std.specs.Prelude.{Vec}
use Rattle.std.specs.declared.alloc.Global.{Global}
use Rattle.std.specs.List.Sorted.{IsStrictlySortedBy}
use Rattle.std.proofs.lemmas.Bool.{cases_eq}
use Rattle.std.proofs.lemmas.List.{map-append}
use Rattle.std.proofs.lemmas.List.Elements.{filter-append}
use Rattle.rn_text.specs.Texts.{Text, text_cmp}
use Rattle.rn_syntax.specs.declared.tree.Item.{Item}
use Rattle.rn_assemble.specs.Components.{Key, NamedModule, same_key}
use Rattle.rn_assemble.specs.declared.reading.key_rows.WrittenComponent as code
use Rattle.rn_assemble.specs.declared.reading.named_modules.NamedModule as code_module
use Rattle.rn_assemble.specs.inside.Contained.{WrittenComponent, written_components}
use Rattle.rn_assemble.specs.inside.Keyed.{AreNames, key_at}
use Rattle.rn_assemble.specs.inside.Rows.{AddsRows, AreRows, IsRowOf, KeepsRowsBut, Placed, all_placed, placed_from, placed_in, placed_view, row_at, with_key}
use Rattle.rn_assemble.specs.inside.Views.{with_items}
use Rattle.rn_assemble.proofs.Referring.KeyNumbers.{same_key-Decides, same_at}

-- ---- places of components

pub placed_parted : (m n : ℕ) (us vs : List WrittenComponent) → placed_from m n (us ++ vs) ≡ placed_from m n us ++ placed_from m (n + length us) vs
placed_parted m n [] vs = let e : n ≡ n + 0 = omega arith in ap (λ i. placed_from m i vs) e
placed_parted m n (u ∷ us) vs =
    let e : suc n + length us ≡ n + suc (length us) = omega arith in
    let p : Placed = record { module_at = m; number = n; component = u } in
    ap (λ ps. p ∷ ps) (placed_parted m (suc n) us vs ∙ ap (λ i. placed_from m (suc n) us ++ placed_from m i vs) e)

pub placed_behind : (m : ℕ) (xs : List NamedModule) (x : NamedModule) → placed_in m (xs ++ x ∷ []) ≡ placed_in m xs ++ placed_from (m + length xs) 0 (written_components x.tree.items)
placed_behind m [] x = let e : m ≡ m + 0 = omega arith in append-nil (placed_from m 0 (written_components x.tree.items)) ∙ ap (λ i. placed_from i 0 (written_components x.tree.items)) e
placed_behind m (y ∷ xs) x =
    let e : suc m + length xs ≡ m + suc (length xs) = omega arith in
    let first = placed_from m 0 (written_components y.tree.items) in
    ap (λ ps. first ++ ps) (placed_behind (suc m) xs x ∙ ap (λ i. placed_in (suc m) xs ++ placed_from i 0 (written_components x.tree.items)) e)
    ∙ sym (append_assoc first (placed_in (suc m) xs) (placed_from (m + suc (length xs)) 0 (written_components x.tree.items)))

-- ---- components that are added

keyed_parted : (k : Key) (us vs : List Placed) → with_key k (us ++ vs) ≡ with_key k us ++ with_key k vs
keyed_parted k us vs = filter-append (λ (p : Placed). same_key k p.component.key) us vs

module _ (names : List Text) where
  pub rows_none : (rows : List (Vec code.WrittenComponent Global)) → AddsRows names rows rows []
  rows_none rows = record { size = refl; each = λ n l. sym (append-nil (map (placed_view (key_at names n)) (row_at rows n))) }

  pub rows_more : (a b c : List (Vec code.WrittenComponent Global)) (us vs : List Placed) → AddsRows names a b us → AddsRows names b c vs → AddsRows names a c (us ++ vs)
  rows_more a b c us vs g h = record {
    size = h.size ∙ g.size;
    each = λ n l.
        let k = key_at names n in
        let old = map (placed_view k) (row_at a n) in
        h.each n (omega (arith, l, g.size)) ∙ ap (λ r. r ++ with_key k vs) (g.each n l) ∙ append_assoc old (with_key k us) (with_key k vs) ∙ ap (λ r. old ++ r) (sym (keyed_parted k us vs));
  }

  -- one component, whose key has that number
  module _ (s : IsStrictlySortedBy text_cmp names) (old new : List (Vec code.WrittenComponent Global)) (size : length old ≡ length names + 1) (key : ℕ) (w : code.WrittenComponent) (keeps : KeepsRowsBut key old new) (pushed : row_at new key ≡ row_at old key ++ w ∷ []) where
    abbrev added : List Placed
    added = placed_view (key_at names key) w ∷ []

    abbrev Added : ℕ → Type 0
    Added n = map (placed_view (key_at names n)) (row_at new n) ≡ map (placed_view (key_at names n)) (row_at old n) ++ with_key (key_at names n) added

    here : Added key
    here =
        let k = key_at names key in
        let had = map (placed_view k) (row_at old key) in
        ap (map (placed_view k)) pushed ∙ map-append (placed_view k) (row_at old key) (w ∷ []) ∙ ap (λ b. had ++ cond b added []) (sym ((same_key-Decides k k).1 refl))

    elsewhere : (n : ℕ) → n < length old → key < length names + 1 → n ≢ key → Added n
    elsewhere n l within ne =
        let k = key_at names n in
        let had = map (placed_view k) (row_at old n) in
        ap (map (placed_view k)) (keeps.others n ne) ∙ sym (append-nil had) ∙ ap (λ b. had ++ cond b added []) (sym (other (same_key k (key_at names key)) refl))
      where
        other : (b : _) → same_key (key_at names n) (key_at names key) ≡ b → same_key (key_at names n) (key_at names key) ≡ false
        other false e = e
        other true e = absurd (ne (same_at names s n key (omega (arith, l, size)) (omega (arith, within)) ((same_key-Decides (key_at names n) (key_at names key)).0 e)))

    pub one_row : key < length names + 1 → AddsRows names old new added
    one_row within = record {
      size = keeps.size;
      each = λ n l. elim (cases_eq n key) [
        | inl e ↦ subst Added (sym e) here
        | inr ne ↦ elsewhere n l within ne
      ];
    }

  -- ---- rows of the modules so far

  pub record AreRowsOf (modules : List NamedModule) (rows : List (Vec code.WrittenComponent Global)) : Type 0 where
    pub size : length rows ≡ length names + 1
    pub each : (n : ℕ) → n < length rows → IsRowOf modules (key_at names n) (row_at rows n)

  pub no_rows : (rows : List (Vec code.WrittenComponent Global)) → length rows ≡ length names + 1 → ((n : ℕ) → row_at rows n ≡ []) → AreRowsOf [] rows
  no_rows rows size none = record { size = size; each = λ n l. ap (map (placed_view (key_at names n))) (none n) }

  pub rows_of_more : (xs : List NamedModule) (x : NamedModule) (m : ℕ) (old new : List (Vec code.WrittenComponent Global)) → m ≡ length xs → AreRowsOf xs old → AddsRows names old new (placed_from m 0 (written_components x.tree.items)) → AreRowsOf (xs ++ x ∷ []) new
  rows_of_more xs x m old new e are adds = record {
    size = adds.size ∙ are.size;
    each = λ n l.
        let k = key_at names n in
        let more = written_components x.tree.items in
        let at : n < length old = omega (arith, l, adds.size) in
        let behind : m ≡ 0 + length xs = omega (arith, e) in
        adds.each n at ∙ ap (λ r. r ++ with_key k (placed_from m 0 more)) (are.each n at) ∙ sym (keyed_parted k (all_placed xs) (placed_from m 0 more))
        ∙ ap (with_key k) (ap (λ i. all_placed xs ++ placed_from i 0 more) behind ∙ sym (placed_behind 0 xs x));
  }

  pub all_rows : (modules : List NamedModule) (rows : List (Vec code.WrittenComponent Global)) → AreNames modules names → AreRowsOf modules rows → AreRows modules names rows
  all_rows modules rows names_are are = record { names_are = names_are; size = omega (arith, are.size); each = are.each }

pub items_size : (ms : List code_module.NamedModule) (xss : List (Vec Item Global)) → length xss ≤ length ms → length (with_items ms xss) ≡ length xss
items_size [] [] l = refl
items_size (m ∷ ms) [] l = refl
items_size [] (xs ∷ xss) l = absurd (omega (arith, l))
items_size (m ∷ ms) (xs ∷ xss) l = ap suc (items_size ms xss (omega (arith, l)))
