-- Where the first and the last slash of a text are, and what stands before and behind them.
use Rattle.std.proofs.Common.{◌≡◌, ℕ, ◌+◌, ◌-◌, ◌<◌, Bool, not, arith, List, [], length, get_or, take, ap, sym, ◌∙◌}
use Rattle.std.specs.Prelude.{◌≢◌, slice_range}
use Rattle.std.specs.List.{position_or_len, before_first, before_last, suffix_len}
use Rattle.std.proofs.lemmas.Bool.{eq-eqb, ne_eqb}
use Rattle.std.proofs.lemmas.List.{take_all, drop_all}
use Rattle.std.proofs.lemmas.List.Sums.{position_or_len_is, suffix_len_is}
use Rattle.rn_files.specs.Paths.{is_slash}
use Rattle.rn_files.specs.Uris.{from_slash}

-- the first slash is here
pub slash_at : (text : List ℕ) (k : ℕ) → (k < length text) × (get_or text k 0 ≡ 47) × ((i : ℕ) → i < k → get_or text i 0 ≢ 47)
    → position_or_len is_slash text ≡ k
slash_at text k (within, found, before) =
    position_or_len_is is_slash text k 0 (omega (arith, within)) (λ i h. ne_eqb (get_or text i 0) 47 (before i h))
    (λ h. eq-eqb (get_or text k 0) 47 found)

-- no slash is there
pub no_slash : (text : List ℕ) → ((i : ℕ) → i < length text → get_or text i 0 ≢ 47) → position_or_len is_slash text ≡ length text
no_slash text none =
    position_or_len_is is_slash text (length text) 0 (omega arith) (λ i h. ne_eqb (get_or text i 0) 47 (none i h))
    (λ h. let never : ⊥ = omega (arith, h) in absurd never)

pub all_before : (text : List ℕ) → position_or_len is_slash text ≡ length text → text ≡ before_first is_slash text
all_before text none = sym (take_all (position_or_len is_slash text) text (omega (arith, none)))

pub none_behind : (text : List ℕ) → position_or_len is_slash text ≡ length text → [] ≡ from_slash text
none_behind text none = sym (drop_all (position_or_len is_slash text) text (omega (arith, none)))

-- a range from the start
pub from_start : (text r : List ℕ) (k n : ℕ) → r ≡ slice_range text 0 k → n ≡ k → r ≡ take n text
from_start text r k n cut same = let count : k - 0 ≡ n = omega (arith, same) in cut ∙ ap (λ z. take z text) count

abbrev not_slash : ℕ → Bool
not_slash b = not (is_slash b)

-- the last slash is here
pub last_at : (text seen : List ℕ) (k : ℕ) → seen ≡ text
    → (k < length seen) × (get_or seen k 0 ≡ 47) × ((i : ℕ) → k < i → i < length seen → get_or seen i 0 ≢ 47)
    → take k text ≡ before_last is_slash text
last_at text seen k same (within, found, after) =
    let left : suffix_len not_slash seen ≡ length seen - (k + 1) =
    suffix_len_is not_slash seen (k + 1) 0 (omega (arith, within)) (λ i h less. ap not (ne_eqb (get_or seen i 0) 47 (after i (omega (arith, h)) less)))
    (λ _. let back : k + 1 - 1 ≡ k = omega arith in ap (λ n. not_slash (get_or seen n 0)) back ∙ ap not_slash found) in
    let count : k ≡ length seen - suffix_len not_slash seen - 1 = omega (arith, within, left) in
    ap (λ z. take k z) (sym same) ∙ ap (λ n. take n seen) count ∙ ap (λ z. before_last is_slash z) same

-- no slash is there to be the last
pub no_last : (text seen : List ℕ) → seen ≡ text → ((i : ℕ) → i < length seen → get_or seen i 0 ≢ 47) → [] ≡ before_last is_slash text
no_last text seen same none =
    let left : suffix_len not_slash seen ≡ length seen - 0 =
    suffix_len_is not_slash seen 0 0 (omega arith) (λ i h less. ap not (ne_eqb (get_or seen i 0) 47 (none i less)))
    (λ h. let never : ⊥ = omega (arith, h) in absurd never) in
    let count : 0 ≡ length seen - suffix_len not_slash seen - 1 = omega (arith, left) in
    ap (λ n. take n seen) count ∙ ap (λ z. before_last is_slash z) same
