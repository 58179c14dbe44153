-- The forms that are reached, sorted by their names, are the grammar of forms, pruned.
use Rattle.std.proofs.Common.{◌≡◌, ⊎_elim, ◌+◌, ◌<◌, ℕ, zero, suc, Bool, true, false, cond, List, [], ◌∷◌, length, map, get_or, position, Some, refl, sym, ap, ◌∙◌, subst, arith, Ordering, Less, Equal, Greater, Bor}
use Rattle.std.specs.Prelude.{bytes_eq, Contains, IsPermutation, IsSortedBy, String, string_bytes}
use Rattle.std.specs.Ordering.{is_lt, ordering_reverse}
use Rattle.std.specs.Cmp.{IsStrictWeakOrder}
use Rattle.std.specs.Fn.{ComparesAs, Called}
use Rattle.std.specs.List.{AllByRecursion, IsDistinct, filter_map}
use Rattle.std.specs.List.Sorted.{IsStrictlySortedBy}
use Rattle.std.specs.declared.alloc.Global.{Global}
use Rattle.std.proofs.lemmas.Bool.{false≢true}
use Rattle.std.proofs.lemmas.Cmp.{nat_list_cmp_total, nat_list_eq_equiv}
use Rattle.std.proofs.lemmas.Fn.{always_returns_same}
use Rattle.std.proofs.lemmas.List.{get_or-map, get_or_default, length-map}
use Rattle.std.proofs.lemmas.List.Sorted.{IsPermutation-map, IsPermutation-sym, Contains-permutation, ranks_by}
use Rattle.std.proofs.lemmas.Map.Keys.{IsDistinct-IsPermutation, apart_from_distinct, sorted_from_all_adjacent}
use Rattle.std.proofs.lemmas.Slice.Eq.{bytes_eq-Decides}
use denote.Param.Members.{Mut}
use Rattle.rn_pattern.specs.Tree.{Tree}
use Rattle.rn_text.specs.Texts.{Text, text_cmp}
use Rattle.rn_pattern.specs.Matching.{Grammar, definition_of}
use Rattle.rn_pattern.specs.Reached.{IsReached, IsPruned}
use Rattle.rn_pattern.specs.View.{pattern_view}
use Rattle.rn_pattern.specs.declared.tree.Pattern.{Pattern}
use Rattle.rn_pattern.proofs.Ordered.InOrder.{contains_front, contains_behind, contains_cases}
use Rattle.rn_graph.specs.Graph.{is_marked}
use Rattle.rn_assemble.specs.GrammarView.{definitions_view}
use Rattle.rn_simplify.specs.inside.MarkedElements.{marked_elements}
use Rattle.rn_simplify.specs.inside.DefinitionNumbers.{MarksReached, numbers_of, rows_by}
use Rattle.rn_simplify.specs.inside.ReferredNames.{references}
use Rattle.rn_pattern.proofs.Ordered.Orders.{text_same}
use Rattle.rn_simplify.proofs.Simplified.ReferredIn.{contains_none}
use Rattle.rn_simplify.proofs.Simplified.ReferenceGraph.{nothing, is_at, number_some, body_is, reached_number, number_reached}

-- a place that has a mark, and holds x
abbrev pub MarkedAt : {X : Type 0} → List Bool → List X → X → Type 0
MarkedAt marks xs x = (k : ℕ) × (is_marked marks k ≡ true) × (k < length xs) × (get_or xs k x ≡ x)

module _ {X : Type 0} where
  marked_behind : (b : Bool) (bs : List Bool) (y : X) (xs : List X) (x : X) → MarkedAt bs xs x → MarkedAt (b ∷ bs) (y ∷ xs) x
  marked_behind b bs y xs x (k, m, l, e) = (suc k, m, omega (arith, l), e)

  in_marked_at : (b : Bool) (bs : List Bool) (y : X) (xs : List X) (x : X) → (Contains (marked_elements bs xs) x → MarkedAt bs xs x) → Contains (cond b (y ∷ marked_elements bs xs) (marked_elements bs xs)) x → MarkedAt (b ∷ bs) (y ∷ xs) x
  in_marked_at true bs y xs x r c = ⊎_elim (λ e. (0, refl, omega arith, e)) (λ d. marked_behind true bs y xs x (r d)) (contains_cases y x (marked_elements bs xs) c)
  in_marked_at false bs y xs x r c = marked_behind false bs y xs x (r c)

  pub in_marked : (bs : List Bool) (xs : List X) (x : X) → Contains (marked_elements bs xs) x → MarkedAt bs xs x
  in_marked [] xs x c = absurd (contains_none x c)
  in_marked (b ∷ bs) [] x c = absurd (contains_none x c)
  in_marked (b ∷ bs) (y ∷ xs) x c = in_marked_at b bs y xs x (in_marked bs xs x) c

  front_marked : (b : Bool) (y x : X) (ys : List X) → b ≡ true → y ≡ x → Contains (cond b (y ∷ ys) ys) x
  front_marked true y x ys e f = subst (λ z. Contains (y ∷ ys) z) f (contains_front y ys)
  front_marked false y x ys e f = absurd (false≢true e)

  behind_marked : (b : Bool) (y x : X) (ys : List X) → Contains ys x → Contains (cond b (y ∷ ys) ys) x
  behind_marked true y x ys c = contains_behind y x ys c
  behind_marked false y x ys c = c

  pub marked_in : (bs : List Bool) (xs : List X) (x : X) (k : ℕ) → is_marked bs k ≡ true → k < length xs → get_or xs k x ≡ x → Contains (marked_elements bs xs) x
  marked_in [] xs x k m l e = absurd (false≢true m)
  marked_in (b ∷ bs) [] x k m l e = absurd (omega (arith, l))
  marked_in (b ∷ bs) (y ∷ xs) x zero m l e = front_marked b y x (marked_elements bs xs) m e
  marked_in (b ∷ bs) (y ∷ xs) x (suc k) m l e = behind_marked b y x (marked_elements bs xs) (marked_in bs xs x k m (omega (arith, l)) e)

  module _ {Y : Type 0} (f : X → Y) where
    map_at : (b : Bool) (x : X) (xs : List X) (ys : List Y) → map f xs ≡ ys → map f (cond b (x ∷ xs) xs) ≡ cond b (f x ∷ ys) ys
    map_at true x xs ys e = ap (λ zs. f x ∷ zs) e
    map_at false x xs ys e = e

    pub map-marked_elements : (bs : List Bool) (xs : List X) → map f (marked_elements bs xs) ≡ marked_elements bs (map f xs)
    map-marked_elements [] xs = refl
    map-marked_elements (b ∷ bs) [] = refl
    map-marked_elements (b ∷ bs) (x ∷ xs) = map_at b x (marked_elements bs xs) (marked_elements bs (map f xs)) (map-marked_elements bs xs)

-- texts that differ still do where some are left out
all_at : (Q : Text → Type 0) (b : Bool) (x : Text) (xs : List Text) → Q x → AllByRecursion Q xs → AllByRecursion Q (cond b (x ∷ xs) xs)
all_at Q true x xs h k = (h, k)
all_at Q false x xs h k = k

all_marked : (Q : Text → Type 0) (bs : List Bool) (xs : List Text) → AllByRecursion Q xs → AllByRecursion Q (marked_elements bs xs)
all_marked Q [] xs h = tt
all_marked Q (b ∷ bs) [] h = tt
all_marked Q (b ∷ bs) (x ∷ xs) h = all_at Q b x (marked_elements bs xs) h.0 (all_marked Q bs xs h.1)

distinct_at : (b : Bool) (x : Text) (ys : List Text) → AllByRecursion (λ y. bytes_eq x y ≡ false) ys → IsDistinct bytes_eq ys → IsDistinct bytes_eq (cond b (x ∷ ys) ys)
unfolding IsDistinct
distinct_at true x ys h k = (h, k)
distinct_at false x ys h k = k

distinct_marked : (bs : List Bool) (xs : List Text) → IsDistinct bytes_eq xs → IsDistinct bytes_eq (marked_elements bs xs)
unfolding IsDistinct
distinct_marked [] xs h = tt
distinct_marked (b ∷ bs) [] h = tt
distinct_marked (b ∷ bs) (x ∷ xs) h = distinct_at b x (marked_elements bs xs) (all_marked (λ y. bytes_eq x y ≡ false) bs xs h.0) (distinct_marked bs xs h.1)

-- texts that neither fall nor are equal rise
rises_at : (x y : Text) (o : Ordering) → text_cmp x y ≡ o → is_lt (text_cmp y x) ≡ false → bytes_eq x y ≡ false → o ≡ Less
rises_at x y Less e f g = refl
rises_at x y Equal e f g = absurd (false≢true (sym g ∙ (bytes_eq-Decides x y).1 (text_same x y e)))
rises_at x y Greater e f g = absurd (false≢true (sym f ∙ ap is_lt (nat_list_cmp_total.antisymm y x ∙ ap ordering_reverse e)))

abbrev pub names : List (String Global × Pattern) → List Text
names es = map (λ (d : Text × Tree). d.0) (definitions_view es)

names_are : (es : List (String Global × Pattern)) → names es ≡ map (λ (e : String Global × Pattern). string_bytes e.0) es
names_are [] = refl
names_are (e ∷ es) = ap (λ ns. string_bytes e.0 ∷ ns) (names_are es)

-- sorted by their names, where the names differ
pub names_rise : {F : Type 0} {g : Mut F (Bor (String Global × Pattern) × (Bor (String Global × Pattern) × Unit {0})) Ordering} {f : F} (ys : List (String Global × Pattern)) → IsDistinct bytes_eq (names ys)
    → ((lt : String Global × Pattern → String Global × Pattern → Bool) → IsStrictWeakOrder lt → ComparesAs g lt f → IsSortedBy lt ys)
    → ((a : Bor (String Global × Pattern) × (Bor (String Global × Pattern) × Unit {0})) (r : Ordering) (f' : F) → Called g f a r f' → (r ≡ text_cmp (string_bytes a.0.now.0) (string_bytes a.1.0.now.0)) × (f' ≡ f))
    → IsStrictlySortedBy text_cmp (names ys)
names_rise {g = g} {f = f} ys distinct up h =
    let lt : String Global × Pattern → String Global × Pattern → Bool = λ x y. is_lt (text_cmp (string_bytes x.0) (string_bytes y.0)) in
    let ranked : IsSortedBy lt ys = up lt (ranks_by nat_list_cmp_total (λ (e : String Global × Pattern). string_bytes e.0)) (always_returns_same g (λ a r. is_lt r ≡ lt a.0.now a.1.0.now) f (λ a r f' k. (ap is_lt (h a r f' k).0, (h a r f' k).1))) in
    sorted_from_all_adjacent nat_list_cmp_total (names ys) [] (rises ys distinct ranked)
  where
    rises : (ys : List (String Global × Pattern)) → IsDistinct bytes_eq (names ys) → IsSortedBy (λ x y. is_lt (text_cmp (string_bytes x.0) (string_bytes y.0))) ys → (k : ℕ) → k + 1 < length (names ys) → text_cmp (get_or (names ys) k []) (get_or (names ys) (k + 1) []) ≡ Less
    rises [] d s k l = absurd (omega (arith, l))
    rises (y ∷ ys) d s k l =
        let xs = y ∷ ys in
        let at : (j : ℕ) → j < length (names xs) → get_or (names xs) j [] ≡ string_bytes (get_or xs j y).0 =
        λ j m. ap (λ ns. get_or ns j []) (names_are xs) ∙ get_or-map (λ (e : String Global × Pattern). string_bytes e.0) xs j y [] (omega (arith, m, ap length (names_are xs), length-map xs (λ (e : String Global × Pattern). string_bytes e.0))) in
        let size : length (names xs) ≡ length xs = ap length (names_are xs) ∙ length-map xs (λ (e : String Global × Pattern). string_bytes e.0) in
        let falls : is_lt (text_cmp (get_or (names xs) (k + 1) []) (get_or (names xs) k [])) ≡ false =
        (λ i. is_lt (text_cmp (at (k + 1) l i) (at k (omega (arith, l)) i))) ∙ s k y (omega arith) (omega (arith, l, size)) in
        rises_at (get_or (names xs) k []) (get_or (names xs) (k + 1) []) (text_cmp (get_or (names xs) k []) (get_or (names xs) (k + 1) [])) refl falls (apart_from_distinct bytes_eq (names xs) k (k + 1) [] d (omega arith) l)

-- numbers by other definitions of the same names
pub rows_same : (ds es : List (Text × Tree)) → map (λ (d : Text × Tree). d.0) es ≡ map (λ (d : Text × Tree). d.0) ds → rows_by ds es ≡ rows_by es es
rows_same ds es e = λ i. map (λ (d : Text × Tree). filter_map (λ x. position (bytes_eq x) (sym e i)) (references d.1)) es

pub numbers_same : (ds es : List (Text × Tree)) (xs : List Text) → map (λ (d : Text × Tree). d.0) es ≡ map (λ (d : Text × Tree). d.0) ds → numbers_of ds xs ≡ numbers_of es xs
numbers_same ds es xs e = λ i. filter_map (λ x. position (bytes_eq x) (sym e i)) xs

-- the pruned grammar: N has those of F that have a mark, in the order of their names
module _ (F : Grammar) (forms kept : List (String Global × Pattern)) (marks : List Bool) (whole : definitions_view forms ≡ F.definitions) (moved : IsPermutation (marked_elements marks forms) kept)
    (exact : MarksReached F marks) where
  shown : definitions_view (marked_elements marks forms) ≡ marked_elements marks F.definitions
  shown = map-marked_elements (λ (e : String Global × Pattern). (string_bytes e.0, pattern_view e.1)) marks forms ∙ ap (marked_elements marks) whole

  moved_view : IsPermutation (marked_elements marks F.definitions) (definitions_view kept)
  moved_view = subst (λ ds. IsPermutation ds (definitions_view kept)) shown (IsPermutation-map {X = Text × Tree} (λ (e : String Global × Pattern). (string_bytes e.0, pattern_view e.1)) (marked_elements marks forms) kept moved)

  pub kept_distinct : IsDistinct bytes_eq (map (λ (d : Text × Tree). d.0) F.definitions) → IsDistinct bytes_eq (names kept)
  kept_distinct d =
      let some = subst (IsDistinct bytes_eq) (sym (map-marked_elements (λ (d : Text × Tree). d.0) marks F.definitions)) (distinct_marked marks (map (λ (d : Text × Tree). d.0) F.definitions) d) in
      IsDistinct-IsPermutation bytes_eq nat_list_eq_equiv.symm (map (λ (d : Text × Tree). d.0) (marked_elements marks F.definitions)) (names kept) (IsPermutation-map (λ (d : Text × Tree). d.0) (marked_elements marks F.definitions) (definitions_view kept) moved_view) some

  into : (x : Text) (p : Tree) → Contains (definitions_view kept) (x, p) → IsReached F x × (definition_of F x ≡ Some p)
  into x p c =
      let (k, m, l, e) = in_marked marks F.definitions (x, p) (Contains-permutation (definitions_view kept) (marked_elements marks F.definitions) (x, p) (IsPermutation-sym (marked_elements marks F.definitions) (definitions_view kept) moved_view) c) in
      let (y, n, r) = number_reached F k ((exact k).0 m) in
      let at = is_at F.definitions y k n in
      let here : get_or F.definitions k nothing ≡ (x, p) = get_or_default F.definitions k nothing (x, p) l ∙ e in
      let same : y ≡ x = sym at.name ∙ ap (λ (d : Text × Tree). d.0) here in
      (subst (IsReached F) same r, ap (definition_of F) (sym same) ∙ at.found ∙ ap (λ (d : Text × Tree). Some d.1) here)

  out_of : (x : Text) (p : Tree) → IsReached F x → definition_of F x ≡ Some p → Contains (definitions_view kept) (x, p)
  out_of x p r e =
      let (k, n) = number_some F.definitions x p e in
      let at = is_at F.definitions x k n in
      let body = body_is F.definitions x k p n e in
      let here : get_or F.definitions k (x, p) ≡ (x, p) = get_or_default F.definitions k (x, p) nothing at.within ∙ (λ i. (at.name i, body i)) in
      Contains-permutation (marked_elements marks F.definitions) (definitions_view kept) (x, p) moved_view (marked_in marks F.definitions (x, p) k ((exact k).1 (reached_number F x k r n)) at.within here)

  pub pruned_is : IsStrictlySortedBy text_cmp (names kept) → IsPruned F (record { start = F.start; definitions = definitions_view kept })
  pruned_is up = record { start = refl; definitions = λ x p. (into x p, λ h. out_of x p h.0 h.1); in_order = up }
