-- Ranges of lists: their parts, and those of a list that has got more elements.
use Rattle.std.proofs.Common.{◌≡◌, ℕ, zero, suc, ◌+◌, ◌-◌, ◌≤◌, List, [], ◌∷◌, ◌++◌, length, take, drop, refl, sym, ap, ◌∙◌, arith, length-append, length-drop}
use Rattle.std.specs.Prelude.{slice_range}
use Rattle.std.proofs.lemmas.List.{take_rest, take_at, drop_at, drop-drop, length-take-le, take_all, take-append-le, drop-append-le}

pub range_none : {X : Type 0} (xs : List X) (a : ℕ) → slice_range xs a a ≡ []
range_none xs a = let e : a - a ≡ 0 = omega arith in ap (λ n. take n (drop a xs)) e

-- a range in two parts
none : {X : Type 0} (j : ℕ) → [] ≡ take {A = X} j []
none zero = refl
none (suc j) = refl

take_both : {X : Type 0} (k j : ℕ) (xs : List X) → take (k + j) xs ≡ take k xs ++ take j (drop k xs)
take_both zero j xs = let e : zero + j ≡ j = omega arith in ap (λ n. take n xs) e
take_both (suc k) j [] = let e : suc k + j ≡ suc (k + j) = omega arith in ap (λ n. take n []) e ∙ none j
take_both (suc k) j (x ∷ xs) = let e : suc k + j ≡ suc (k + j) = omega arith in ap (λ n. take n (x ∷ xs)) e ∙ ap (λ l. x ∷ l) (take_both k j xs)

pub range_both : {X : Type 0} (ws : List X) (a b c : ℕ) → a ≤ b → b ≤ c → slice_range ws a c ≡ slice_range ws a b ++ slice_range ws b c
range_both ws a b c l m =
    let e : c - a ≡ b - a + (c - b) = omega (arith, l, m) in
    let d : a + (b - a) ≡ b = omega (arith, l) in
    ap (λ n. take n (drop a ws)) e ∙ take_both (b - a) (c - b) (drop a ws) ∙ ap (λ t. take (b - a) (drop a ws) ++ take (c - b) t) (drop-drop (b - a) a ws ∙ ap (λ n. drop n ws) d)

pub range_size : {X : Type 0} (ws : List X) (a b : ℕ) → b ≤ length ws → length (slice_range ws a b) ≡ b - a
range_size ws a b l = length-take-le (b - a) (drop a ws) (omega (arith, l, length-drop a ws))

same_front : {X : Type 0} (xs ys us vs : List X) → xs ++ ys ≡ us ++ vs → length xs ≡ length us → xs ≡ us
same_front xs ys us vs e l = sym (take_at xs ys (length us) l) ∙ ap (take (length us)) e ∙ take_at us vs (length us) refl

same_behind : {X : Type 0} (xs ys us vs : List X) → xs ++ ys ≡ us ++ vs → length xs ≡ length us → ys ≡ vs
same_behind xs ys us vs e l = sym (drop_at xs ys (length us) l) ∙ ap (drop (length us)) e ∙ drop_at us vs (length us) refl

-- the two parts of a range, and the range of the whole list
pub range_parts : {X : Type 0} (ws xs ys : List X) (n : ℕ) → n + length (xs ++ ys) ≤ length ws → slice_range ws n (n + length (xs ++ ys)) ≡ xs ++ ys → (slice_range ws n (n + length xs) ≡ xs) × (slice_range ws (n + length xs) (n + length xs + length ys) ≡ ys)
range_parts ws xs ys n l e =
    let m = n + length xs in
    let size = length-append xs ys in
    let end : n + length (xs ++ ys) ≡ m + length ys = omega (arith, size) in
    let both : slice_range ws n m ++ slice_range ws m (m + length ys) ≡ xs ++ ys = sym (range_both ws n m (m + length ys) (omega arith) (omega arith)) ∙ ap (slice_range ws n) (sym end) ∙ e in
    let len : length (slice_range ws n m) ≡ length xs = range_size ws n m (omega (arith, l, size)) ∙ omega arith in
    (same_front _ _ xs ys both len, same_behind _ _ xs ys both len)

pub whole_range : {X : Type 0} (ws : List X) → slice_range ws 0 (0 + length ws) ≡ ws
whole_range ws = let n : 0 + length ws ≡ length ws = omega arith in ap (slice_range ws 0) n ∙ take_rest ws 0

-- elements that have come behind
pub range_front : {X : Type 0} (xs ys : List X) (a b : ℕ) → a ≤ b → b ≤ length xs → slice_range (xs ++ ys) a b ≡ slice_range xs a b
range_front xs ys a b l m = ap (take (b - a)) (drop-append-le a xs ys (omega (arith, l, m))) ∙ take-append-le (b - a) (drop a xs) ys (omega (arith, l, m, length-drop a xs))

pub range_behind : {X : Type 0} (xs ys : List X) → slice_range (xs ++ ys) (length xs) (length (xs ++ ys)) ≡ ys
range_behind xs ys = ap (take (length (xs ++ ys) - length xs)) (drop_at xs ys (length xs) refl) ∙ take_all (length (xs ++ ys) - length xs) ys (omega (arith, length-append xs ys))
