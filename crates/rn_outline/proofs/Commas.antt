-- Digits with a comma before each three.
use Rattle.std.proofs.Common.{◌≡◌, ℕ, ◌+◌, ◌<◌, ◌≤◌, ◌/◌, ◌%◌, ◌^◌, false, List, [], ◌∷◌, ◌++◌, length, ◌==◌, if◌then◌else◌, ⊎_elim, refl, sym, ap, ◌∙◌, arith, append_assoc, length-append}
use Rattle.std.specs.Fmt.{char_count, decimal, padded_integral, format_spec}
use Rattle.std.proofs.lemmas.Fmt.{decimal_digit, decimal_nonempty, decimal_step}
use Rattle.std.proofs.lemmas.Bool.{cases_lt}
use Rattle.rn_outline.specs.GroupedDigits.{comma_before, grouped_digits, with_commas}

-- the three digits of a number below a thousand
abbrev pub three_digits : ℕ → List ℕ
three_digits m = (48 + m / 100) ∷ (48 + m / 10 % 10) ∷ (48 + m % 10) ∷ []

two : (n : ℕ) → 10 ≤ n → n < 100 → decimal n ≡ (48 + n / 10) ∷ (48 + n % 10) ∷ []
two n low high = decimal_step n low (omega arith) ∙ ap (λ ds. ds ++ ((48 + n % 10) ∷ [])) (decimal_digit (n / 10) (omega arith))

three : (n : ℕ) → 100 ≤ n → n < 1000 → decimal n ≡ three_digits n
three n low high =
    let same : n / 10 / 10 ≡ n / 100 = omega arith in
    decimal_step n (omega arith) (omega arith) ∙ ap (λ ds. ds ++ ((48 + n % 10) ∷ [])) (two (n / 10) (omega arith) (omega arith))
    ∙ ap (λ h. (48 + h) ∷ (48 + n / 10 % 10) ∷ (48 + n % 10) ∷ []) same

pub few : (n : ℕ) → n < 1000 → decimal n ≡ grouped_digits n
few n high = ⊎_elim
    (λ one. decimal_digit n one ∙ sym (ap with_commas (decimal_digit n one)))
    (λ ten. ⊎_elim
    (λ less. two n ten less ∙ sym (ap with_commas (two n ten less)))
    (λ more. three n more high ∙ sym (ap with_commas (three n more high)))
    (cases_lt n 100))
    (cases_lt n 10)

-- how a number below a thousand is written with zeros before it, three digits wide
abbrev pub wide : List ℕ → List ℕ
wide ds = padded_integral (format_spec 32 0 4 3 18446744073709551615) false [] ds

filled : (m : ℕ) → m < 1000 → wide (decimal m) ≡ three_digits m
unfolding padded_integral char_count
filled m high = ⊎_elim
    (λ one. ap wide (decimal_digit m one)
    ∙ (let a : 0 ≡ m / 100 = omega arith in let b : 0 ≡ m / 10 % 10 = omega arith in let c : m ≡ m % 10 = omega arith in
    λ i. (48 + a i) ∷ (48 + b i) ∷ (48 + c i) ∷ []))
    (λ ten. ⊎_elim
    (λ less. ap wide (two m ten less)
    ∙ (let a : 0 ≡ m / 100 = omega arith in let b : m / 10 ≡ m / 10 % 10 = omega arith in λ i. (48 + a i) ∷ (48 + b i) ∷ (48 + m % 10) ∷ []))
    (λ more. ap wide (three m more high))
    (cases_lt m 100))
    (cases_lt m 10)

-- a digit before digits that some have behind them
behind : (d : ℕ) (ds : List ℕ) (m : ℕ) → comma_before (ds ++ three_digits m) ≡ comma_before ds → with_commas (ds ++ three_digits m) ≡ with_commas ds ++ (44 ∷ three_digits m)
    → with_commas ((d ∷ ds) ++ three_digits m) ≡ with_commas (d ∷ ds) ++ (44 ∷ three_digits m)
behind d ds m comma more = (λ i. d ∷ (comma i ++ more i)) ∙ ap (λ z. d ∷ z) (sym (append_assoc (comma_before ds) (with_commas ds) (44 ∷ three_digits m)))

-- three digits more, behind some
three_more : (d : ℕ) (ds : List ℕ) (m : ℕ) → with_commas ((d ∷ ds) ++ three_digits m) ≡ with_commas (d ∷ ds) ++ (44 ∷ three_digits m)
three_more d [] m = refl
three_more d (e ∷ es) m = behind d (e ∷ es) m
    (ap (λ k. if k == 0 then 44 ∷ [] else []) (omega (arith, length-append (e ∷ es) (three_digits m)))) (three_more e es m)

-- the digits of a number, thousands first
by_thousands : (n : ℕ) → 1000 ≤ n → n < 2 ^ 64 → decimal n ≡ decimal (n / 1000) ++ three_digits (n % 1000)
by_thousands n low fits =
    let same : n / 10 / 10 / 10 ≡ n / 1000 = omega arith in
    let a : n / 10 / 10 % 10 ≡ n % 1000 / 100 = omega arith in
    let b : n / 10 % 10 ≡ n % 1000 / 10 % 10 = omega arith in
    let c : n % 10 ≡ n % 1000 % 10 = omega arith in
    let A : List ℕ = decimal (n / 10 / 10 / 10) in
    decimal_step n (omega arith) fits
    ∙ ap (λ ds. ds ++ ((48 + n % 10) ∷ [])) (decimal_step (n / 10) (omega arith) (omega (arith, fits))
    ∙ ap (λ ds. ds ++ ((48 + n / 10 % 10) ∷ [])) (decimal_step (n / 10 / 10) (omega arith) (omega (arith, fits))))
    ∙ ap (λ z. z ++ ((48 + n % 10) ∷ [])) (append_assoc A ((48 + n / 10 / 10 % 10) ∷ []) ((48 + n / 10 % 10) ∷ []))
    ∙ append_assoc A ((48 + n / 10 / 10 % 10) ∷ (48 + n / 10 % 10) ∷ []) ((48 + n % 10) ∷ [])
    ∙ (λ i. decimal (same i) ++ ((48 + a i) ∷ (48 + b i) ∷ (48 + c i) ∷ []))

more_digits : (ds : List ℕ) (m : ℕ) → 0 < length ds → with_commas (ds ++ three_digits m) ≡ with_commas ds ++ (44 ∷ three_digits m)
more_digits [] m some = absurd (omega (arith, some))
more_digits (d ∷ ds) m some = three_more d ds m

-- the thousands, a comma, and three digits
pub thousands_more : (n : ℕ) (last : List ℕ) → last ≡ wide (decimal (n % 1000)) → 1000 ≤ n → n < 2 ^ 64
    → grouped_digits (n / 1000) ++ (44 ∷ last) ≡ grouped_digits n
thousands_more n last is low fits =
    ap (λ z. grouped_digits (n / 1000) ++ (44 ∷ z)) (is ∙ filled (n % 1000) (omega arith))
    ∙ sym (more_digits (decimal (n / 1000)) (n % 1000) (decimal_nonempty (n / 1000) (omega (arith, fits))))
    ∙ sym (ap with_commas (by_thousands n low fits))
