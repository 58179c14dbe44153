-- The numbers of names, and of keys.
use Rattle.std.proofs.Common.{◌≡◌, ℕ, zero, suc, ◌-◌, ◌<◌, inl, inr, List, [], length, get_or, refl, sym, ap, ◌∙◌, subst, arith, Contains, Less, Equal}
use Rattle.std.specs.Prelude.{Decides}
use Rattle.std.specs.List.Sorted.{IsStrictlySortedBy}
use Rattle.std.proofs.lemmas.Bool.{cases_eq, cases_lt, false≢true}
use Rattle.std.proofs.lemmas.List.{get_or_default}
use Rattle.std.proofs.lemmas.Cmp.{nat_list_cmp_total, tied_itself}
use Rattle.std.proofs.lemmas.Map.Keys.{Less-from_sorted}
use Rattle.std.proofs.lemmas.Slice.Eq.{bytes_eq-Decides}
use Rattle.rn_text.specs.Texts.{Text, text_cmp}
use Rattle.rn_assemble.specs.Components.{Key, start_key, name_key, same_key}
use Rattle.rn_assemble.specs.inside.Keyed.{IsNameNumber, key_at}

pub keyed_name : (x y : Text) → name_key x ≡ name_key y → x ≡ y
keyed_name x y e = cc

pub same_name : (names : List Text) (x y : Text) (n : ℕ) → IsNameNumber names x n → IsNameNumber names y n → x ≡ y
same_name names x y n a b = keyed_name x y (sym a.is ∙ b.is)

-- the number at a place, and the name there
pred : (n : ℕ) → 0 < n → (i : ℕ) × (n ≡ suc i)
pred n h = (n - 1, omega arith)

pub name_at : (names : List Text) (x : Text) (n i : ℕ) → IsNameNumber names x n → n ≡ suc i → get_or names i [] ≡ x
name_at names x n i a e = keyed_name _ x (sym (ap (key_at names) e) ∙ a.is)

pub names_rise : (names : List Text) → IsStrictlySortedBy text_cmp names → (x y : Text) (n m : ℕ) → IsNameNumber names x n → IsNameNumber names y m → n < m → text_cmp x y ≡ Less
names_rise names s x y n m a b h =
    let i = pred n a.above in
    let j = pred m b.above in
    let less = Less-from_sorted text_cmp names i.0 j.0 [] s (omega (arith, i.1, j.1)) (omega (arith, j.1, b.within)) in
    subst (λ z. text_cmp z y ≡ Less) (name_at names x n i.0 a i.1) (subst (λ z. text_cmp (get_or names i.0 []) z ≡ Less) (name_at names y m j.0 b j.1) less)

pub not_itself : (x : Text) → text_cmp x x ≡ Less → ⊥
not_itself x h = let e : Equal ≡ Less = sym (tied_itself nat_list_cmp_total x) ∙ h in cc

pub same_number : (names : List Text) → IsStrictlySortedBy text_cmp names → (x : Text) (n m : ℕ) → IsNameNumber names x n → IsNameNumber names x m → n ≡ m
same_number names s x n m a b = elim (cases_eq n m) [
  | inl e ↦ e
  | inr ne ↦ elim (cases_lt n m) [
    | inl h ↦ absurd (not_itself x (names_rise names s x x n m a b h))
    | inr h ↦ absurd (not_itself x (names_rise names s x x m n b a (omega (arith, h, ne))))
  ]
]

-- ---- numbers of keys

-- the name of a number
pub number_name : (names : List Text) (n : ℕ) → 0 < n → key_at names n ≡ name_key (get_or names (n - 1) [])
number_name names zero h = absurd (omega (arith, h))
number_name names (suc i) h = ap (λ j. name_key (get_or names j [])) (let e : i ≡ suc i - 1 = omega arith in e)

pub same_key-Decides : (k j : Key) → Decides (same_key k j) (k ≡ j)
same_key-Decides start_key start_key = ((λ _. refl), (λ _. refl))
same_key-Decides start_key (name_key y) = ((λ h. absurd (false≢true h)), (λ e. cc))
same_key-Decides (name_key x) start_key = ((λ h. absurd (false≢true h)), (λ e. cc))
same_key-Decides (name_key x) (name_key y) = ((λ h. ap name_key ((bytes_eq-Decides x y).0 h)), (λ e. (bytes_eq-Decides x y).1 (keyed_name x y e)))

number_of : (names : List Text) (i : ℕ) (x : Text) → i < length names → key_at names (suc i) ≡ name_key x → IsNameNumber names x (suc i)
number_of names i x h e = record { above = omega arith; within = omega arith; is = e }

pub same_at : (names : List Text) → IsStrictlySortedBy text_cmp names → (k j : ℕ) → k < suc (length names) → j < suc (length names) → key_at names k ≡ key_at names j → k ≡ j
same_at names s zero zero h l e = refl
same_at names s zero (suc j) h l e = cc
same_at names s (suc i) zero h l e = cc
same_at names s (suc i) (suc j) h l e = same_number names s (get_or names i []) (suc i) (suc j) (number_of names i _ (omega arith) refl) (number_of names j _ (omega arith) (sym e))

-- a text that has a number is one of the names
pub numbered_name : (names : List Text) (x : Text) (n : ℕ) → IsNameNumber names x n → Contains names x
numbered_name names x zero a = absurd (omega (arith, a.above))
numbered_name names x (suc i) a =
    let l : i < length names = omega (arith, a.within) in
    (i, l, get_or_default names i x [] l ∙ keyed_name (get_or names i []) x a.is)
