-- Characters and the references that are written for them.
use Rattle.std.proofs.Common.{◌≡◌, ◌≢◌, ℕ, suc, ◌<◌, ◌≤◌, ⊎_elim, [], ◌∷◌, ◌++◌, length, get_or, Bool, true, false, nat_lt, refl, sym, ap, ◌∙◌, append-nil, ne_eqb, arith}
use Rattle.std.specs.Prelude.{◌&&◌, encode_utf8}
use Rattle.std.specs.List.{list_all}
use Rattle.std.proofs.lemmas.Bool.{cases_Bool}
use Rattle.std.proofs.lemmas.Bool.Decides.{nat_tests}
use Rattle.std.proofs.lemmas.Str.{encode_ascii, inside_one}
use Rattle.rn_text.specs.Texts.{Text}
use Rattle.rn_rng.specs.Layout.{Holder, escaped, reference}
use Rattle.rn_rng.specs.inside.Views.{is_plain_byte}

pub plain_reference : (h : Holder) (b : ℕ) → b ≢ 38 → b ≢ 60 → b ≢ 62 → b ≢ 34 → b ≢ 9 → b ≢ 10 → b ≢ 13 → reference h b ≡ b ∷ []
plain_reference h b p q r s t u v = rw (ne_eqb b 38 p, ne_eqb b 60 q, ne_eqb b 62 r, ne_eqb b 34 s, ne_eqb b 9 t, ne_eqb b 10 u, ne_eqb b 13 v) refl

-- no byte of a character beyond ASCII has a reference
high_reference : (h : Holder) (b : ℕ) → 128 ≤ b → reference h b ≡ b ∷ []
high_reference h b l = plain_reference h b (λ e. omega (arith, l, e)) (λ e. omega (arith, l, e)) (λ e. omega (arith, l, e)) (λ e. omega (arith, l, e)) (λ e. omega (arith, l, e)) (λ e. omega (arith, l, e)) (λ e. omega (arith, l, e))

high_byte : (c k : ℕ) → 128 ≤ c → k < length (encode_utf8 c) → 128 ≤ get_or (encode_utf8 c) k 0
high_byte c k l h = ⊎_elim
    (λ (e : nat_lt (get_or (encode_utf8 c) k 0) 128 ≡ true). let low : get_or (encode_utf8 c) k 0 < 128 = grind (arith, nat_tests) in let same : c ≡ get_or (encode_utf8 c) k 0 = inside_one c [] (encode_utf8 c) k (sym (append-nil (encode_utf8 c))) h low in omega arith)
    (λ (e : nat_lt (get_or (encode_utf8 c) k 0) 128 ≡ false). grind (arith, nat_tests))
    (cases_Bool (nat_lt (get_or (encode_utf8 c) k 0) 128))

pub all_plain : (h : Holder) (bs : Text) → ((k : ℕ) → k < length bs → reference h (get_or bs k 0) ≡ get_or bs k 0 ∷ []) → escaped h bs ≡ bs
all_plain h [] f = refl
all_plain h (b ∷ bs) f = ap (λ t. t ++ escaped h bs) (f 0 (omega arith)) ∙ ap (λ t. b ∷ t) (all_plain h bs (λ k l. f (suc k) (omega arith)))

pub high_escaped : (h : Holder) (c : ℕ) → 128 ≤ c → escaped h (encode_utf8 c) ≡ encode_utf8 c
high_escaped h c l = all_plain h (encode_utf8 c) (λ k i. high_reference h (get_or (encode_utf8 c) k 0) (high_byte c k l i))

low_escaped : (h : Holder) (c : ℕ) → c < 128 → escaped h (encode_utf8 c) ≡ reference h c
low_escaped h c l = ap (escaped h) (encode_ascii c l) ∙ append-nil (reference h c)

-- a reference for a character, or the character itself
pub with_reference : (h : Holder) (c : ℕ) (r : Text) → c < 128 → r ≡ reference h c → r ≡ escaped h (encode_utf8 c)
with_reference h c r l e = e ∙ sym (low_escaped h c l)

pub without_reference : (h : Holder) (c : ℕ) → reference h c ≡ c ∷ [] → encode_utf8 c ≡ escaped h (encode_utf8 c)
without_reference h c e = ⊎_elim
    (λ (t : nat_lt c 128 ≡ true). let l : c < 128 = grind (arith, nat_tests) in encode_ascii c l ∙ sym e ∙ sym (low_escaped h c l))
    (λ (t : nat_lt c 128 ≡ false). let l : 128 ≤ c = grind (arith, nat_tests) in sym (high_escaped h c l))
    (cases_Bool (nat_lt c 128))

pub nothing_escaped : (h : Holder) (bs : Text) → length bs ≡ 0 → escaped h bs ≡ []
nothing_escaped h [] e = refl
nothing_escaped h (b ∷ bs) e = absurd (omega (arith, e))

-- ---- texts without references

plain_byte : (h : Holder) (b : ℕ) → is_plain_byte b ≡ true → reference h b ≡ b ∷ []
plain_byte h b p = plain_reference h b (other 38 refl) (other 60 refl) (other 62 refl) (other 34 refl) (other 9 refl) (other 10 refl) (other 13 refl)
  where
    other : (n : ℕ) → is_plain_byte n ≡ false → b ≢ n
    other n f e = absurd (let x : true ≡ false = sym p ∙ ap is_plain_byte e ∙ f in cc)

first_of : (b c : Bool) → (b && c) ≡ true → b ≡ true
first_of true c e = refl
first_of false c e = e

rest_of : (b c : Bool) → (b && c) ≡ true → c ≡ true
rest_of true c e = e
rest_of false c e = absurd cc

pub plain_text : (h : Holder) (bs : Text) → list_all is_plain_byte bs ≡ true → escaped h bs ≡ bs
plain_text h [] e = refl
plain_text h (b ∷ bs) e =
    ap (λ t. t ++ escaped h bs) (plain_byte h b (first_of (is_plain_byte b) (list_all is_plain_byte bs) e))
    ∙ ap (λ t. b ∷ t) (plain_text h bs (rest_of (is_plain_byte b) (list_all is_plain_byte bs) e))
