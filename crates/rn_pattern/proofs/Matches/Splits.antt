-- A split into parts by numbers, as weaving one part after the other.
use Rattle.std.proofs.Common.{◌≡◌, ◌<◌, ℕ, zero, suc, List, [], ◌∷◌, map, length, All, refl, sym, ap, ◌∙◌, arith, cond, eqb, subst, ◌+◌}
use Rattle.std.proofs.Math.Path.{fun_ext}
use Rattle.std.proofs.Math.Dec.{eqb-suc-zero, eqb-zero-suc, eqb-suc-suc}
use Rattle.std.specs.List.{range_with_len}
use Rattle.std.proofs.lemmas.List.Elements.{All-nil, All-cons, All-head, All-tail}
use Rattle.std.proofs.lemmas.List.{nil_from_length}
use Rattle.rn_pattern.specs.Split.{part, IsSplit}
use Rattle.rn_pattern.proofs.Matches.Weaving.{Weave, woven, first, second}

-- the first part woven with what is left, and so on
abbrev pub Woven : {X : Type 0} → List X → List (List X) → Type 0
Woven xs [] = xs ≡ []
Woven {X} xs (p ∷ ps) = (rest : List X) × Weave X xs p rest × Woven rest ps

-- what is left without the part 0, and its numbers
abbrev others : {X : Type 0} → List ℕ → List X → List X
others [] xs = xs
others (n ∷ ns) [] = []
others (zero ∷ ns) (x ∷ xs) = others ns xs
others (suc n ∷ ns) (x ∷ xs) = x ∷ others ns xs

abbrev lowered : List ℕ → List ℕ
lowered [] = []
lowered (zero ∷ ns) = lowered ns
lowered (suc n ∷ ns) = n ∷ lowered ns

weave_others : {X : Type 0} (ns : List ℕ) (xs : List X) → Weave X xs (part 0 ns xs) (others ns xs)
weave_others [] [] = woven
weave_others [] (x ∷ xs) = second (weave_others [] xs)
weave_others (n ∷ ns) [] = woven
weave_others (zero ∷ ns) (x ∷ xs) = first (weave_others ns xs)
weave_others (suc n ∷ ns) (x ∷ xs) = rw eqb-suc-zero (second (weave_others ns xs))

length_others : {X : Type 0} (ns : List ℕ) (xs : List X) → length ns ≡ length xs → length (lowered ns) ≡ length (others ns xs)
length_others [] xs h = h
length_others (zero ∷ ns) [] h = absurd (omega arith)
length_others (suc n ∷ ns) [] h = absurd (omega arith)
length_others (zero ∷ ns) (x ∷ xs) h = length_others ns xs (omega arith)
length_others (suc n ∷ ns) (x ∷ xs) h = ap suc (length_others ns xs (omega arith))

lowered_below : (k : ℕ) (ns : List ℕ) → All (λ n. n < suc k) ns → All (λ n. n < k) (lowered ns)
lowered_below k [] h = All-nil (λ n. n < k)
lowered_below k (zero ∷ ns) h = lowered_below k ns (All-tail (λ n. n < suc k) zero ns h)
lowered_below k (suc n ∷ ns) h =
    let here : suc n < suc k = All-head (λ n. n < suc k) (suc n) ns h in
    All-cons (λ n. n < k) n (lowered ns) (omega arith) (lowered_below k ns (All-tail (λ n. n < suc k) (suc n) ns h))

part-nil : {X : Type 0} (i : ℕ) (ns : List ℕ) → part {X = X} i ns [] ≡ []
part-nil i [] = refl
part-nil i (n ∷ ns) = refl

part_others : {X : Type 0} (i : ℕ) (ns : List ℕ) (xs : List X) → part (suc i) ns xs ≡ part i (lowered ns) (others ns xs)
part_others i [] xs = refl
part_others i (zero ∷ ns) [] = sym (part-nil i (lowered ns))
part_others i (suc n ∷ ns) [] = refl
part_others i (zero ∷ ns) (x ∷ xs) = rw eqb-zero-suc (part_others i ns xs)
part_others i (suc n ∷ ns) (x ∷ xs) = rw eqb-suc-suc (ap (λ t. cond (eqb n i) (x ∷ t) t) (part_others i ns xs))

map-range_suc : {Y : Type 0} (f : ℕ → Y) (a k : ℕ) → map f (range_with_len (suc a) k) ≡ map (λ i. f (suc i)) (range_with_len a k)
map-range_suc f a zero = refl
map-range_suc f a (suc k) =
    let e : suc a + 1 ≡ suc (a + 1) = omega arith in
    ap (λ t. f (suc a) ∷ t) (rw e (map-range_suc f (a + 1) k))

numbers_of_none : (ns : List ℕ) → All (λ n. n < 0) ns → length ns ≡ 0
numbers_of_none [] h = refl
numbers_of_none (n ∷ ns) h = let never : n < 0 = All-head (λ m. m < 0) n ns h in absurd (omega arith)

pub split_woven : {X : Type 0} (xs : List X) (parts : List (List X)) → IsSplit xs parts → Woven xs parts
split_woven xs [] (ns, len, below, is) = nil_from_length xs (sym len ∙ numbers_of_none ns below)
split_woven {X} xs (p ∷ ps) (ns, len, below, is) =
    let here : p ≡ part 0 ns xs = cc in
    let behind : ps ≡ map (λ i. part i ns xs) (range_with_len 1 (length ps)) = cc in
    let same : map (λ i. part i ns xs) (range_with_len 1 (length ps)) ≡ map (λ i. part i (lowered ns) (others ns xs)) (range_with_len 0 (length ps)) =
    map-range_suc (λ i. part i ns xs) 0 (length ps) ∙ ap (λ (g : ℕ → List X). map g (range_with_len 0 (length ps))) (fun_ext (λ i. part_others i ns xs)) in (
      others ns xs,
      subst (λ (y : List X). Weave X xs y (others ns xs)) (sym here) (weave_others ns xs),
      split_woven (others ns xs) ps (lowered ns, length_others ns xs len, lowered_below (length ps) ns below, behind ∙ same),
    )

-- the numbers of a weaving, by those of what is left
abbrev raised : {X : Type 0} {xs ys zs : List X} → Weave X xs ys zs → List ℕ → List ℕ
raised woven ns = []
raised (first w) ns = 0 ∷ raised w ns
raised (second w) [] = []
raised (second w) (n ∷ ns) = suc n ∷ raised w ns

length-raised : {X : Type 0} {xs ys zs : List X} (w : Weave X xs ys zs) (ns : List ℕ) → length ns ≡ length zs → length (raised w ns) ≡ length xs
length-raised woven ns h = refl
length-raised (first w) ns h = ap suc (length-raised w ns h)
length-raised (second w) [] h = absurd (omega arith)
length-raised (second w) (n ∷ ns) h = ap suc (length-raised w ns (omega arith))

raised_below : {X : Type 0} {xs ys zs : List X} (k : ℕ) (w : Weave X xs ys zs) (ns : List ℕ) → All (λ n. n < k) ns → All (λ n. n < suc k) (raised w ns)
raised_below k woven ns h = All-nil (λ n. n < suc k)
raised_below k (first w) ns h = All-cons (λ n. n < suc k) 0 (raised w ns) (omega arith) (raised_below k w ns h)
raised_below k (second w) [] h = All-nil (λ n. n < suc k)
raised_below k (second w) (n ∷ ns) h =
    let here : n < k = All-head (λ m. m < k) n ns h in
    All-cons (λ m. m < suc k) (suc n) (raised w ns) (omega arith) (raised_below k w ns (All-tail (λ m. m < k) n ns h))

part_first : {X : Type 0} {xs ys zs : List X} (w : Weave X xs ys zs) (ns : List ℕ) → length ns ≡ length zs → part 0 (raised w ns) xs ≡ ys
part_first woven ns h = refl
part_first (first {x = x} w) ns h = ap (λ t. x ∷ t) (part_first w ns h)
part_first (second w) [] h = absurd (omega arith)
part_first (second w) (n ∷ ns) h = rw eqb-suc-zero (part_first w ns (omega arith))

part_rest : {X : Type 0} {xs ys zs : List X} (i : ℕ) (w : Weave X xs ys zs) (ns : List ℕ) → length ns ≡ length zs → part (suc i) (raised w ns) xs ≡ part i ns zs
part_rest i woven ns h = sym (part-nil i ns)
part_rest i (first w) ns h = rw eqb-zero-suc (part_rest i w ns h)
part_rest i (second w) [] h = absurd (omega arith)
part_rest i (second {x = x} w) (n ∷ ns) h = rw eqb-suc-suc (ap (λ t. cond (eqb n i) (x ∷ t) t) (part_rest i w ns (omega arith)))

pub woven_split : {X : Type 0} (xs : List X) (parts : List (List X)) → Woven xs parts → IsSplit xs parts
woven_split xs [] h = ([], ap length (sym h), All-nil (λ n. n < 0), refl)
woven_split {X} xs (p ∷ ps) (rest, w, more) =
    let (ns, len, below, is) = woven_split rest ps more in
    let here : part 0 (raised w ns) xs ≡ p = part_first w ns len in
    let behind : map (λ i. part i (raised w ns) xs) (range_with_len 1 (length ps)) ≡ ps =
    map-range_suc (λ i. part i (raised w ns) xs) 0 (length ps) ∙ ap (λ (g : ℕ → List X). map g (range_with_len 0 (length ps))) (fun_ext (λ i. part_rest i w ns len)) ∙ sym is in
    (raised w ns, length-raised w ns len, raised_below (length ps) w ns below, cc)
