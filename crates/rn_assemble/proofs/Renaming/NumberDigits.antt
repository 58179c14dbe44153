-- Numbers in sixteen hexadecimal digits stand in the order of the numbers.
use Rattle.std.proofs.Common.{◌≡◌, ℕ, ◌+◌, ◌*◌, ◌/◌, ◌%◌, ◌^◌, ◌<◌, inl, inr, List, [], ◌∷◌, ◌++◌, length, refl, sym, ap, ◌∙◌, subst, arith, Less}
use Rattle.std.specs.Prelude.{slice_index}
use Rattle.std.specs.Cmp.{nat_cmp_is}
use Rattle.std.specs.Int.{byte_at, bytes_high_first, from_be_bytes, w64, to_be_bytes}
use Rattle.std.specs.List.{AllByRecursion}
use Rattle.std.specs.List.Sorted.{IsStrictlySortedBy}
use Rattle.std.specs.Ordering.{nat_cmp, ordering_then}
use Rattle.std.proofs.lemmas.Bool.{cases_lt}
use Rattle.std.proofs.lemmas.Cmp.{nat_cmp_total, tied_itself}
use Rattle.std.proofs.lemmas.Map.Keys.{below_from_sorted}
use Rattle.std.proofs.lemmas.Nat.{from_be_bytes-to_be_bytes_8}
use Rattle.hex.specs.Hex.{encode_with, lower_digits}
use Rattle.rn_text.specs.Texts.{Text, text_cmp}
use Rattle.rn_assemble.specs.ShortTexts.{digits_of}

-- ---- texts with the same front

-- the first byte decides where the two differ
first_decides : (x y : ℕ) (s t : Text) → x < y → text_cmp (x ∷ s) (y ∷ t) ≡ Less
first_decides x y s t h = ap (λ o. ordering_then o (text_cmp s t)) (sym (nat_cmp_is x y Less h))

same_front : (p s t : Text) → text_cmp (p ++ s) (p ++ t) ≡ text_cmp s t
same_front [] s t = refl
same_front (x ∷ p) s t = ap (λ o. ordering_then o (text_cmp (p ++ s) (p ++ t))) (tied_itself nat_cmp_total x) ∙ same_front p s t

-- a text is below those that go on behind it
longer : (p : Text) (x : ℕ) (s : Text) → text_cmp p (p ++ x ∷ s) ≡ Less
longer [] x s = refl
longer (y ∷ p) x s = ap (λ o. ordering_then o (text_cmp p (p ++ x ∷ s))) (tied_itself nat_cmp_total y) ∙ longer p x s

-- ---- digits

abbrev digit : ℕ → ℕ
digit n = slice_index lower_digits n

digits_sorted : IsStrictlySortedBy nat_cmp lower_digits
unfolding IsStrictlySortedBy
digits_sorted = search

digit_rises : (m n : ℕ) → m < n → n < 16 → digit m < digit n
digit_rises m n h l = below_from_sorted lower_digits m n 0 digits_sorted h l

-- a digit is below `h`
digit_low : (n : ℕ) → n < 16 → digit n < 104
digit_low n h = elim (cases_lt n 15) [
  | inl l ↦ omega (arith, digit_rises n 15 l (omega arith))
  | inr l ↦ let last : 15 ≡ n = omega arith in subst (λ k. digit k < 104) last (omega arith)
]

low_first : (b : ℕ) (bs s : List ℕ) → b < 256 → text_cmp (encode_with lower_digits (b ∷ bs)) (104 ∷ s) ≡ Less
unfolding encode_with
low_first b bs s l = first_decides (digit (b / 16)) 104 (digit (b % 16) ∷ encode_with lower_digits bs) s (digit_low (b / 16) (omega arith))

-- ---- bytes

abbrev pub AreBytes : List ℕ → Type 0
AreBytes bs = AllByRecursion (λ b. b < 256) bs

-- v with the bytes behind it
abbrev number : ℕ → List ℕ → ℕ
number v [] = v
number v (b ∷ bs) = number (v * 256 + b) bs

-- the greater number stays so, whatever the bytes behind the two are
stays_greater : (v w : ℕ) (xs ys : List ℕ) → length xs ≡ length ys → AreBytes xs → v < w → number v xs < number w ys
stays_greater v w [] [] e a h = h
stays_greater v w [] (y ∷ ys) e a h = absurd (omega arith)
stays_greater v w (x ∷ xs) [] e a h = absurd (omega arith)
stays_greater v w (x ∷ xs) (y ∷ ys) e a h = stays_greater (v * 256 + x) (w * 256 + y) xs ys (omega arith) a.1 (omega arith)

-- a byte that differs decides
byte_rises : (x y : ℕ) (xs ys : List ℕ) → x < y → y < 256 → text_cmp (encode_with lower_digits (x ∷ xs)) (encode_with lower_digits (y ∷ ys)) ≡ Less
unfolding encode_with
byte_rises x y xs ys h l = elim (cases_lt (x / 16) (y / 16)) [
  | inl k ↦ first_decides (digit (x / 16)) (digit (y / 16)) (digit (x % 16) ∷ encode_with lower_digits xs) (digit (y % 16) ∷ encode_with lower_digits ys) (digit_rises _ _ k (omega arith))
  | inr k ↦
      let same : y / 16 ≡ x / 16 = omega arith in
      let low : x % 16 < y % 16 = omega arith in
      ap (λ n. text_cmp (encode_with lower_digits (x ∷ xs)) (digit n ∷ digit (y % 16) ∷ encode_with lower_digits ys)) same
      ∙ same_front (digit (x / 16) ∷ []) (digit (x % 16) ∷ encode_with lower_digits xs) (digit (y % 16) ∷ encode_with lower_digits ys)
      ∙ first_decides (digit (x % 16)) (digit (y % 16)) (encode_with lower_digits xs) (encode_with lower_digits ys) (digit_rises _ _ low (omega arith))
]

bytes_rise : (v : ℕ) (xs ys : List ℕ) → length xs ≡ length ys → AreBytes xs → AreBytes ys → number v xs < number v ys →
    text_cmp (encode_with lower_digits xs) (encode_with lower_digits ys) ≡ Less
unfolding encode_with
bytes_rise v [] [] e a b h = absurd (omega arith)
bytes_rise v [] (y ∷ ys) e a b h = absurd (omega arith)
bytes_rise v (x ∷ xs) [] e a b h = absurd (omega arith)
bytes_rise v (x ∷ xs) (y ∷ ys) e a b h = elim (cases_lt x y) [
  | inl k ↦ byte_rises x y xs ys k b.0
  | inr k ↦ elim (cases_lt y x) [
    | inl l ↦
        let above : number (v * 256 + y) ys < number (v * 256 + x) xs = stays_greater (v * 256 + y) (v * 256 + x) ys xs (omega arith) b.1 (omega arith) in
        absurd (omega (arith, h, above))
    | inr l ↦
        let same : y ≡ x = omega arith in
        ap (λ z. text_cmp (encode_with lower_digits (x ∷ xs)) (encode_with lower_digits (z ∷ ys))) same
        ∙ same_front (digit (x / 16) ∷ digit (x % 16) ∷ []) (encode_with lower_digits xs) (encode_with lower_digits ys)
        ∙ bytes_rise (v * 256 + x) xs ys (omega arith) a.1 b.1 (subst (λ z. number (v * 256 + x) xs < number (v * 256 + z) ys) same h)
  ]
]

-- ---- numbers

joined : (a b c d e f g h n : ℕ) → from_be_bytes w64 (a ∷ b ∷ c ∷ d ∷ e ∷ f ∷ g ∷ h ∷ []) ≡ n → number 0 (a ∷ b ∷ c ∷ d ∷ e ∷ f ∷ g ∷ h ∷ []) ≡ n
joined a b c d e f g h n same = omega arith

number_bytes : (n : ℕ) → n < 2 ^ 64 → number 0 (to_be_bytes w64 n) ≡ n
number_bytes n fits = joined (byte_at 7 n) (byte_at 6 n) (byte_at 5 n) (byte_at 4 n) (byte_at 3 n) (byte_at 2 n) (byte_at 1 n) (byte_at 0 n) n (from_be_bytes-to_be_bytes_8 n fits)

pub are_bytes : (n : ℕ) → AreBytes (to_be_bytes w64 n)
are_bytes n = search arith

pub digits_rise : (n m : ℕ) → n < m → m < 2 ^ 64 → text_cmp (digits_of n) (digits_of m) ≡ Less
digits_rise n m h fits =
    let below : number 0 (to_be_bytes w64 n) < number 0 (to_be_bytes w64 m) = omega (arith, number_bytes n (omega arith), number_bytes m fits) in
    bytes_rise 0 (to_be_bytes w64 n) (to_be_bytes w64 m) refl (are_bytes n) (are_bytes m) below

pub digits_behind : (p : Text) (n m : ℕ) → n < m → m < 2 ^ 64 → text_cmp (p ++ digits_of n) (p ++ digits_of m) ≡ Less
digits_behind p n m h fits = same_front p (digits_of n) (digits_of m) ∙ digits_rise n m h fits

-- the digits are below any text that begins with `h`
pub digits_low : (n : ℕ) → n < 2 ^ 64 → (s : Text) → text_cmp (digits_of n) (104 ∷ s) ≡ Less
digits_low n fits s = low_first (byte_at 7 n) (bytes_high_first 7 n) s (omega arith)

pub digits_some : (p : Text) (n : ℕ) → n < 2 ^ 64 → text_cmp p (p ++ digits_of n) ≡ Less
unfolding encode_with
digits_some p n fits = longer p _ _
