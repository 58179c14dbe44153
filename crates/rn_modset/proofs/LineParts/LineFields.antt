-- The fields of a line: what stands before a byte that they lack, and behind it.
use Rattle.std.proofs.Common.{◌≡◌, ◌≢◌, ℕ, zero, suc, ◌/◌, ◌%◌, ◌<◌, ◌^◌, Bool, true, false, not, ◌==◌, List, [], ◌∷◌, ◌++◌, length, decimal, refl, sym, ap, ◌∙◌, arith, get_or, nat_le, eq-eqb}
use Rattle.std.specs.List.{list_all}
use Rattle.std.specs.Str.{all_ascii_digits}
use Rattle.std.specs.Char.{is_ascii_digit}
use Rattle.std.proofs.lemmas.Fmt.{digits_decimal}
use Rattle.hex.specs.Hex.{encode_with, lower_digits}
use Rattle.rn_modset.proofs.Numerals.DecimalNumbers.{own}
use Rattle.rn_modset.proofs.TestAnswers.TruthValues.{first_of_both, second_of_both, not_both}
use Rattle.rn_modset.specs.Contributions.{is_name_byte, is_module_name}

-- no element is c
abbrev pub Lacks : ℕ → List ℕ → Type 0
Lacks c [] = Unit {0}
Lacks c (x ∷ xs) = (x ≢ c) × Lacks c xs

-- what stands before the first c, and behind it
pub one_split : (c : ℕ) (a x b y : List ℕ) → Lacks c a → Lacks c b → a ++ c ∷ x ≡ b ++ c ∷ y → (a ≡ b) × (x ≡ y)
one_split c [] x [] y p q e = (refl, cc)
one_split c [] x (k ∷ b) y p q e = let h : c ≡ k = cc in absurd (q.0 (sym h))
one_split c (k ∷ a) x [] y p q e = let h : k ≡ c = cc in absurd (p.0 h)
one_split c (k ∷ a) x (j ∷ b) y p q e =
    let h : k ≡ j = cc in
    let t : a ++ c ∷ x ≡ b ++ c ∷ y = cc in
    let ih = one_split c a x b y p.1 q.1 t in
    ((λ i. h i ∷ ih.0 i), ih.1)

-- fronts of one length
pub one_front : (a x b y : List ℕ) → length a ≡ length b → a ++ x ≡ b ++ y → (a ≡ b) × (x ≡ y)
one_front [] x [] y l e = (refl, e)
one_front [] x (k ∷ b) y l e = absurd (omega arith)
one_front (k ∷ a) x [] y l e = absurd (omega arith)
one_front (k ∷ a) x (j ∷ b) y l e =
    let h : k ≡ j = cc in
    let t : a ++ x ≡ b ++ y = cc in
    let ih = one_front a x b y (omega arith) t in
    ((λ i. h i ∷ ih.0 i), ih.1)

pub lacks_by : (p : ℕ → Bool) (c : ℕ) → p c ≡ false → (xs : List ℕ) → list_all p xs ≡ true → Lacks c xs
lacks_by p c none [] e = tt
lacks_by p c none (x ∷ xs) e =
    ((λ same. let h : p x ≡ true = first_of_both (p x) _ e in let k : p x ≡ false = ap p same ∙ none in cc), lacks_by p c none xs (second_of_both (p x) _ e))

pub name_lacks : (name : List ℕ) → is_module_name name ≡ true → Lacks 32 name
name_lacks name e = lacks_by is_name_byte 32 refl name (second_of_both _ _ e)

digits_lack : (c : ℕ) → is_ascii_digit c ≡ false → (ds : List ℕ) → all_ascii_digits ds ≡ true → Lacks c ds
digits_lack c none [] e = tt
digits_lack c none (x ∷ xs) e =
    ((λ same. let h : is_ascii_digit x ≡ true = first_of_both (is_ascii_digit x) _ e in let k : is_ascii_digit x ≡ false = ap is_ascii_digit same ∙ none in cc), digits_lack c none xs (second_of_both (is_ascii_digit x) _ e))

pub number_lacks : (c n : ℕ) → is_ascii_digit c ≡ false → n < 2 ^ 64 → Lacks c (decimal n)
number_lacks c n none h = digits_lack c none (decimal n) (digits_decimal own n h)

read_lacks : (t : List ℕ) → Lacks 10 t → (n : ℕ) → get_or t n 0 ≢ 10
read_lacks [] a n e = cc
read_lacks (x ∷ t) a zero e = a.0 e
read_lacks (x ∷ t) a (suc n) e = read_lacks t a.1 n e

table_lacks : Lacks 10 lower_digits
table_lacks = lacks_by (λ c. nat_le 48 c) 10 refl lower_digits refl

pub hex_lacks : (bytes : List ℕ) → Lacks 10 (encode_with lower_digits bytes)
unfolding encode_with
hex_lacks [] = tt
hex_lacks (b ∷ rest) = (read_lacks lower_digits table_lacks (b / 16), (read_lacks lower_digits table_lacks (b % 16), hex_lacks rest))

-- a list that was searched for c lacks it
pub lacks_from_all : (c : ℕ) (xs : List ℕ) → list_all (λ x. not (x == c)) xs ≡ true → Lacks c xs
lacks_from_all c [] e = tt
lacks_from_all c (x ∷ xs) e = ((λ same. not_both (x == c) (first_of_both (not (x == c)) _ e) (eq-eqb x c same)), lacks_from_all c xs (second_of_both (not (x == c)) _ e))

-- a list that lacks c is not cut by it
pub unsplit : (c : ℕ) (xs a b : List ℕ) → Lacks c xs → xs ≢ a ++ c ∷ b
unsplit c [] [] b l e = cc
unsplit c [] (k ∷ a) b l e = cc
unsplit c (x ∷ xs) [] b l e = let h : x ≡ c = cc in l.0 h
unsplit c (x ∷ xs) (k ∷ a) b l e = let t : xs ≡ a ++ c ∷ b = cc in unsplit c xs a b l.1 t

-- a list is cut by its first c in one way
pub one_cut : (c : ℕ) (xs a x b y : List ℕ) → xs ≡ a ++ c ∷ x → list_all (λ z. not (z == c)) a ≡ true → xs ≡ b ++ c ∷ y → Lacks c b → (a ≡ b) × (x ≡ y)
one_cut c xs a x b y e l f m = one_split c a x b y (lacks_from_all c a l) m (sym e ∙ f)
