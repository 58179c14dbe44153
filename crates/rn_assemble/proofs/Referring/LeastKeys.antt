-- The least key of which something holds, by its number.
use Rattle.std.proofs.Common.{◌≡◌, ℕ, zero, suc, ◌<◌, Bool, true, false, ◌||◌, cond, inl, inr, List, [], ◌∷◌, length, get_or, Some, None, refl, sym, ap, ◌∙◌, subst, arith, Less, Equal}
use Rattle.std.specs.List.Sorted.{IsStrictlySortedBy}
use Rattle.std.proofs.lemmas.Bool.{cases_eq, cases_lt}
use Rattle.std.proofs.lemmas.Cmp.{nat_list_cmp_total, tied_itself}
use Rattle.std.proofs.lemmas.Map.Keys.{Less-from_sorted}
use Rattle.rn_text.specs.Texts.{Text, text_cmp}
use Rattle.rn_pattern.proofs.Ordered.InOrder.{text_no_less}
use Rattle.rn_assemble.specs.Components.{Component, Key, has_key, same_key}
use Rattle.rn_assemble.specs.Combine.{of_key}
use Rattle.rn_assemble.specs.inside.Keyed.{key_at}
use Rattle.rn_assemble.specs.Least.{IsLeast, key_cmp}
use Rattle.rn_assemble.specs.inside.Methods.{IsLeastNumber}

-- the order of keys is that of their numbers
pub less_number : (names : List Text) → IsStrictlySortedBy text_cmp names → (m n : ℕ) → m < suc (length names) → n < suc (length names) → key_cmp (key_at names m) (key_at names n) ≡ Less → m < n
less_number names o zero zero l k e = cc
less_number names o zero (suc n) l k e = omega arith
less_number names o (suc m) zero l k e = cc
less_number names o (suc m) (suc n) l k e = elim (cases_lt m n) [
  | inl h ↦ omega (arith, h)
  | inr h ↦ elim (cases_eq m n) [
    | inl same ↦ let tie : Equal ≡ Less = sym (tied_itself nat_list_cmp_total (get_or names m [])) ∙ ap (λ i. text_cmp (get_or names m []) (get_or names i [])) same ∙ e in cc
    | inr other ↦ absurd (text_no_less (get_or names n []) (get_or names m []) (Less-from_sorted text_cmp names n m [] o (omega (arith, h, other)) (omega (arith, l))) e)
  ]
]

module _ (names : List Text) (o : IsStrictlySortedBy text_cmp names) (P : Key → Type 0) (has : (k : Key) → P k → (m : ℕ) × (m < suc (length names)) × (k ≡ key_at names m)) where
  pub least_key : (n : ℕ) → IsLeastNumber names P (Some (record { 0 = n })) → IsLeast key_cmp P (key_at names n)
  least_key n h = record {
    holds = h.1;
    least = λ y p less. let m = has y p in
        h.2 m.0 (less_number names o m.0 n m.1 h.0 (ap (λ k. key_cmp k (key_at names n)) (sym m.2) ∙ less)) (subst P m.2 p);
  }

  pub no_key : IsLeastNumber names P None → (k : Key) → ¬ P k
  no_key h k p = let m = has k p in h m.0 m.1 (subst P m.2 p)

-- whether there is a component of a key
has_at : (b : Bool) (c : Component) (rest : List Component) (r : Bool) → (0 < length rest → r ≡ true) → 0 < length (cond b (c ∷ rest) rest) → (b || r) ≡ true
has_at true c rest r f l = refl
has_at false c rest r f l = f l

pub has_some : (k : Key) (ds : List Component) → 0 < length (of_key k ds) → has_key k ds ≡ true
has_some k [] l = absurd (omega (arith, l))
has_some k (c ∷ ds) l = has_at (same_key k c.key) c (of_key k ds) (has_key k ds) (has_some k ds) l

lacks_at : (b : Bool) (c : Component) (rest : List Component) (r : Bool) → (length rest ≡ 0 → r ≡ false) → length (cond b (c ∷ rest) rest) ≡ 0 → (b || r) ≡ false
lacks_at true c rest r f l = absurd (omega (arith, l))
lacks_at false c rest r f l = f l

pub has_none : (k : Key) (ds : List Component) → length (of_key k ds) ≡ 0 → has_key k ds ≡ false
has_none k [] l = refl
has_none k (c ∷ ds) l = lacks_at (same_key k c.key) c (of_key k ds) (has_key k ds) (has_none k ds) l
