-- The modules that no module includes, by their numbers.
use Rattle.std.proofs.Common.{◌≡◌, ℕ, suc, ◌<◌, Bool, true, false, cond, ⊎_elim, List, [], ◌∷◌, ◌++◌, length, get_or, map, filter, refl, sym, ap, ◌∙◌, subst, arith, eqb}
use Rattle.std.specs.Prelude.{Contains, not, ◌||◌, bytes_eq, flat_map}
use Rattle.std.specs.List.{All, concat, list_any, range_with_len}
use Rattle.std.specs.List.Sorted.{IsStrictlySortedBy}
use Rattle.std.proofs.lemmas.Bool.{eq-eqb, eqb-true}
use Rattle.std.proofs.lemmas.Bool.Decides.{same_from_decides}
use Rattle.std.proofs.lemmas.List.{get_or_default, length-map, map-append}
use Rattle.std.proofs.lemmas.List.Elements.{All-contains, All-filter, Contains-append_cases}
use Rattle.std.proofs.lemmas.List.FromFn.{fill_by_all, get_or-range_with_len, length-range_with_len}
use Rattle.std.proofs.lemmas.Slice.Eq.{bytes_eq-Decides}
use Rattle.rn_text.specs.Texts.{Text, text_cmp}
use Rattle.rn_graph.specs.Graph.{AllBelow, IsGraph, row}
use Rattle.rn_pattern.proofs.Ordered.InOrder.{contains_behind, contains_front}
use Rattle.rn_assemble.specs.Components.{NamedModule, roots}
use Rattle.rn_syntax.specs.Tree.{includes}
use Rattle.rn_assemble.specs.inside.ContentsOf.{name_at}
use Rattle.rn_assemble.specs.inside.Inclusions.{AreInclusions, entries}
use Rattle.rn_assemble.proofs.Expansion.Inclusions.{included_at, same_place}

-- tests that agree at the elements keep the same ones
keep_same : {X : Type 0} (p q : X → Bool) (xs : List X) → ((x : X) → Contains xs x → p x ≡ q x) → filter p xs ≡ filter q xs
keep_same p q [] h = refl
keep_same p q (x ∷ xs) h =
    let here = h x (contains_front x xs) in
    let rest = keep_same p q xs (λ y c. h y (contains_behind x y xs c)) in
    λ i. cond (here i) (x ∷ rest i) (rest i)

keep_mapped_at : {X Y : Type 0} (f : X → Y) (b : Bool) (x : X) (xs : List X) (ys : List Y) → map f xs ≡ ys → map f (cond b (x ∷ xs) xs) ≡ cond b (f x ∷ ys) ys
keep_mapped_at f true x xs ys e = ap (λ l. f x ∷ l) e
keep_mapped_at f false x xs ys e = e

keep_mapped : {X Y : Type 0} (f : X → Y) (q : Y → Bool) (xs : List X) → map f (filter (λ x. q (f x)) xs) ≡ filter q (map f xs)
keep_mapped f q [] = refl
keep_mapped f q (x ∷ xs) = keep_mapped_at f (q (f x)) x (filter (λ z. q (f z)) xs) (filter q (map f xs)) (keep_mapped f q xs)

range_below : (n : ℕ) → All (λ x. x < n) (range_with_len 0 n)
range_below n k d l = let b : k < n = omega (arith, l, length-range_with_len 0 n) in omega (arith, get_or-range_with_len 0 n k d b, b)

joined_from : (rows : List (List ℕ)) (x : ℕ) → Contains (concat rows) x → (r : List ℕ) × Contains rows r × Contains r x
joined_from [] x (k, l, e) = absurd (omega (arith, l))
joined_from (r ∷ rows) x c = ⊎_elim (λ a. (r, contains_front r rows, a)) (λ b. let s = joined_from rows x b in (s.0, contains_behind r s.0 rows s.1, s.2)) (Contains-append_cases r (concat rows) x c)

-- each edge leads to a node
edges_below : (rows : List (List ℕ)) → IsGraph rows → AllBelow (length rows) (concat rows)
edges_below rows g x c =
    let s = joined_from rows x c in
    let at : row rows s.1.0 ≡ s.0 = get_or_default rows s.1.0 [] s.0 s.1.1 ∙ s.1.2 in
    g s.1.0 x (subst (λ r. Contains r x) (sym at) s.2)

pub entries_below : (rows : List (List ℕ)) → AllBelow (length rows) (entries rows)
entries_below rows x c =
    All-contains (λ y. y < length rows) (entries rows) x (All-filter (λ y. not (list_any (λ z. eqb y z) (concat rows))) (λ y. y < length rows) (range_with_len 0 (length rows)) (range_below (length rows))) c

-- the includes of all, where those of each are known
joined_names : (f : ℕ → Text) (ms : List NamedModule) (rows : List (List ℕ)) → length rows ≡ length ms → ((i : ℕ) (d : NamedModule) → i < length ms → map f (row rows i) ≡ includes (get_or ms i d).tree.items)
    → flat_map (λ (m : NamedModule). includes m.tree.items) ms ≡ map f (concat rows)
joined_names f [] [] s h = refl
joined_names f [] (r ∷ rows) s h = absurd (omega (arith, s))
joined_names f (m ∷ ms) [] s h = absurd (omega (arith, s))
joined_names f (m ∷ ms) (r ∷ rows) s h =
    let first : includes m.tree.items ≡ map f r = sym (h 0 m (omega arith)) in
    let rest = joined_names f ms rows (omega (arith, s)) (λ i d l. h (suc i) d (omega (arith, l))) in
    ap (λ l. l ++ flat_map (λ (n : NamedModule). includes n.tree.items) ms) first ∙ ap (λ l. map f r ++ l) rest ∙ sym (map-append f r (concat rows))

module _ (ms : List NamedModule) (o : IsStrictlySortedBy text_cmp (map (λ (m : NamedModule). m.name) ms)) where
  among_same : (i : ℕ) → i < length ms → (ns : List ℕ) → AllBelow (length ms) ns → list_any (bytes_eq (name_at ms i)) (map (name_at ms) ns) ≡ list_any (λ n. eqb i n) ns
  among_same i l [] b = refl
  among_same i l (n ∷ ns) b =
      let here : bytes_eq (name_at ms i) (name_at ms n) ≡ eqb i n = same_from_decides _ (eqb i n) (bytes_eq-Decides (name_at ms i) (name_at ms n))
      ((λ e. ap (name_at ms) (eqb-true i n e)), (λ e. eq-eqb i n (same_place ms o i n l (b n (contains_front n ns)) e))) in
      let rest = among_same i l ns (λ k c. b k (contains_behind n k ns c)) in
      λ j. here j || rest j

  module _ (rows : List (List ℕ)) (h : AreInclusions ms rows) where
    abbrev numbers : List ℕ
    numbers = range_with_len 0 (length rows)

    abbrev all : List Text
    all = flat_map (λ (m : NamedModule). includes m.tree.items) ms

    same : all ≡ map (name_at ms) (concat rows)
    same = joined_names (name_at ms) ms rows h.size (λ i d l. h.named i l ∙ included_at ms o i d l)

    agree : (x : ℕ) → Contains numbers x → not (list_any (λ y. eqb x y) (concat rows)) ≡ not (list_any (bytes_eq (name_at ms x)) all)
    agree x c =
        let below : AllBelow (length ms) (concat rows) = subst (λ n. AllBelow n (concat rows)) h.size (edges_below rows h.graph) in
        let l : x < length ms = subst (λ n. x < n) h.size (All-contains (λ y. y < length rows) numbers x (range_below (length rows)) c) in
        sym (ap not (ap (list_any (bytes_eq (name_at ms x))) same ∙ among_same x l (concat rows) below))

    named : map (name_at ms) numbers ≡ map (λ (m : NamedModule). m.name) ms
    named = sym (fill_by_all (name_at ms) (map (λ (m : NamedModule). m.name) ms) (length rows) [] (length-map ms (λ (m : NamedModule). m.name) ∙ sym h.size) (λ k l. refl))

    -- the entries are the roots
    pub entries_named : map (name_at ms) (entries rows) ≡ map (λ (m : NamedModule). m.name) (roots ms)
    entries_named =
        ap (map (name_at ms)) (keep_same (λ x. not (list_any (λ y. eqb x y) (concat rows))) (λ x. not (list_any (bytes_eq (name_at ms x)) all)) numbers agree)
        ∙ keep_mapped (name_at ms) (λ x. not (list_any (bytes_eq x) all)) numbers
        ∙ ap (filter (λ x. not (list_any (bytes_eq x) all))) named
        ∙ sym (keep_mapped (λ (m : NamedModule). m.name) (λ x. not (list_any (bytes_eq x) all)) ms)
