-- The components of a row stand in the order of their modules and numbers.
use Rattle.std.proofs.Common.{◌≡◌, ◌⊎◌, ℕ, suc, ◌+◌, ◌<◌, ◌≤◌, List, [], ◌∷◌, ◌++◌, length, get_or, map, Some, refl, sym, subst, inl, inr, arith}
use Rattle.std.specs.Prelude.{slice_get}
use Rattle.std.specs.List.{All, AllByRecursion, AllPairs}
use Rattle.std.proofs.lemmas.List.{get_or-map, length-map}
use Rattle.std.proofs.lemmas.List.Elements.{All-append, All-filter, All-from_recursion, All-nil, All-weaker, recursion_from_All}
use Rattle.std.proofs.lemmas.List.Kept.{AllPairs-cons, AllPairs-filter}
use Rattle.std.proofs.lemmas.Option.{get_or_from_slice_get, slice_get_within}
use Rattle.rn_assemble.specs.Components.{Key, NamedModule, same_key}
use Rattle.rn_assemble.specs.declared.reading.key_rows.WrittenComponent as code
use Rattle.rn_assemble.specs.inside.Contained.{WrittenComponent, written_components}
use Rattle.rn_assemble.specs.inside.ContentsOf.{written_at}
use Rattle.rn_assemble.specs.inside.Rows.{IsRowOf, Placed, all_placed, placed_from, placed_in, placed_view}
use Rattle.rn_assemble.specs.inside.Runs.{IsOrderedRow}

-- the first one's module comes before the other's, or it has the lower number in the same module
abbrev pub IsBefore : Placed → Placed → Type 0
IsBefore p q = (p.module_at < q.module_at) ⊎ ((p.module_at ≡ q.module_at) × (p.number < q.number))

-- pairs of a list by its parts
pub pairs_nil : {X : Type 0} (R : X → X → Type 0) → AllPairs R []
pairs_nil R i j d l m = absurd (omega arith)

pub pairs_append : {X : Type 0} (R : X → X → Type 0) (xs ys : List X) → AllPairs R xs → AllPairs R ys → AllByRecursion (λ x. All (R x) ys) xs → AllPairs R (xs ++ ys)
pairs_append R [] ys p q h = q
pairs_append R (x ∷ xs) ys p q h =
    AllPairs-cons R x (xs ++ ys)
    (All-append (R x) xs ys (λ k d l. p 0 (suc k) d (omega arith) (omega arith)) h.0)
    (pairs_append R xs ys (λ i j d l m. p (suc i) (suc j) d (omega arith) (omega arith)) q h.1)

-- the first of two elements of such a list stands in R to the other
pub pair_at : {X : Type 0} (R : X → X → Type 0) (xs : List X) (i j : ℕ) (v w : X) → AllPairs R xs → i < j → slice_get xs i ≡ Some v → slice_get xs j ≡ Some w → R v w
pair_at R xs i j v w p l a b =
    let r : R (get_or xs i v) (get_or xs j v) = p i j v l (slice_get_within xs j w b) in
    let s : R v (get_or xs j v) = subst (λ x. R x (get_or xs j v)) (get_or_from_slice_get xs i v v a) r in
    subst (λ x. R v x) (get_or_from_slice_get xs j w v b) s

-- the components of one module, of which the first one has the number n
pub from_of : (m n : ℕ) (ws : List WrittenComponent) → AllByRecursion (λ (p : Placed). (p.module_at ≡ m) × (n ≤ p.number) × (p.number < n + length ws)) (placed_from m n ws)
from_of m n [] = tt
from_of m n (w ∷ ws) =
    let P = λ (p : Placed). (p.module_at ≡ m) × (suc n ≤ p.number) × (p.number < suc n + length ws) in
    let Q = λ (p : Placed). (p.module_at ≡ m) × (n ≤ p.number) × (p.number < n + suc (length ws)) in
    let rest : All Q (placed_from m (suc n) ws) =
    All-weaker P Q (λ p h. (h.0, omega (arith, h.1), omega (arith, h.2))) (placed_from m (suc n) ws) (All-from_recursion P (placed_from m (suc n) ws) (from_of m (suc n) ws)) in
    ((refl, omega arith, omega arith), recursion_from_All Q (placed_from m (suc n) ws) rest)

pub from_pairs : (m n : ℕ) (ws : List WrittenComponent) → AllPairs IsBefore (placed_from m n ws)
from_pairs m n [] = pairs_nil IsBefore
from_pairs m n (w ∷ ws) =
    let p : Placed = record { module_at = m; number = n; component = w } in
    let P = λ (q : Placed). (q.module_at ≡ m) × (suc n ≤ q.number) × (q.number < suc n + length ws) in
    AllPairs-cons IsBefore p (placed_from m (suc n) ws)
    (All-weaker P (IsBefore p) (λ q h. inr (sym h.0, omega (arith, h.1))) (placed_from m (suc n) ws) (All-from_recursion P (placed_from m (suc n) ws) (from_of m (suc n) ws)))
    (from_pairs m (suc n) ws)

-- the component is one of its module's, the first module having the place a
abbrev IsIn : ℕ → List NamedModule → Placed → Type 0
IsIn a xs p = (i : ℕ) × (p.module_at ≡ a + i) × (i < length xs) × (p.number < length (written_at xs i))

in_of : (a : ℕ) (xs : List NamedModule) → All (IsIn a xs) (placed_in a xs)
in_of a [] = All-nil (IsIn a [])
in_of a (x ∷ xs) =
    let ws = written_components x.tree.items in
    let P = λ (p : Placed). (p.module_at ≡ a) × (0 ≤ p.number) × (p.number < 0 + length ws) in
    All-append (IsIn a (x ∷ xs)) (placed_from a 0 ws) (placed_in (suc a) xs)
    (All-weaker P (IsIn a (x ∷ xs)) (λ p h. (0, omega (arith, h.0), omega arith, omega (arith, h.2))) (placed_from a 0 ws) (All-from_recursion P (placed_from a 0 ws) (from_of a 0 ws)))
    (All-weaker (IsIn (suc a) xs) (IsIn a (x ∷ xs)) (λ p h. (suc h.0, omega (arith, h.1), omega (arith, h.2), h.3)) (placed_in (suc a) xs) (in_of (suc a) xs))

in_pairs : (a : ℕ) (xs : List NamedModule) → AllPairs IsBefore (placed_in a xs)
in_pairs a [] = pairs_nil IsBefore
in_pairs a (x ∷ xs) =
    let ws = written_components x.tree.items in
    let P = λ (p : Placed). (p.module_at ≡ a) × (0 ≤ p.number) × (p.number < 0 + length ws) in
    let Q = λ (p : Placed). All (IsBefore p) (placed_in (suc a) xs) in
    let behind : (p : Placed) → P p → Q p = λ p h. All-weaker (IsIn (suc a) xs) (IsBefore p) (λ q g. inl (omega (arith, h.0, g.1))) (placed_in (suc a) xs) (in_of (suc a) xs) in
    pairs_append IsBefore (placed_from a 0 ws) (placed_in (suc a) xs) (from_pairs a 0 ws) (in_pairs (suc a) xs)
    (recursion_from_All Q (placed_from a 0 ws) (All-weaker P Q behind (placed_from a 0 ws) (All-from_recursion P (placed_from a 0 ws) (from_of a 0 ws))))

-- each component of a row precedes those behind it
pub row_rises : (modules : List NamedModule) (k : Key) (row : List code.WrittenComponent) → IsRowOf modules k row → IsOrderedRow row
row_rises modules k row is i j d l m =
    let keyed : AllPairs IsBefore (map (placed_view k) row) =
    subst (λ ps. AllPairs IsBefore ps) (sym is) (AllPairs-filter IsBefore (λ (p : Placed). same_key k p.component.key) (all_placed modules) (in_pairs 0 modules)) in
    let size = length-map row (placed_view k) in
    let r = keyed i j (placed_view k d) l (omega (arith, m, size)) in
    let a = get_or-map (placed_view k) row i d (placed_view k d) (omega (arith, l, m)) in
    let b = get_or-map (placed_view k) row j d (placed_view k d) m in
    subst (λ q. IsBefore (placed_view k (get_or row i d)) q) b (subst (λ p. IsBefore p (get_or (map (placed_view k) row) j (placed_view k d))) a r)

-- each component of a row is one of its module's
abbrev pub IsWrittenIn : List NamedModule → code.WrittenComponent → Type 0
IsWrittenIn modules w = (w.module.0 < length modules) × (w.number < length (written_at modules w.module.0))

pub row_written : (modules : List NamedModule) (k : Key) (row : List code.WrittenComponent) → IsRowOf modules k row → All (IsWrittenIn modules) row
row_written modules k row is j d l =
    let P = IsIn 0 modules in
    let keyed : All P (map (placed_view k) row) =
    subst (λ ps. All P ps) (sym is) (All-filter (λ (p : Placed). same_key k p.component.key) P (all_placed modules) (in_of 0 modules)) in
    let size = length-map row (placed_view k) in
    let at = keyed j (placed_view k d) (omega (arith, l, size)) in
    let r : P (placed_view k (get_or row j d)) = subst P (get_or-map (placed_view k) row j d (placed_view k d) l) at in
    let e : r.0 ≡ (get_or row j d).module.0 = omega (arith, r.1) in
    subst (λ i. (i < length modules) × ((get_or row j d).number < length (written_at modules i))) e (r.2, r.3)
