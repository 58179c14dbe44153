-- The number of a name's key, by the place of the name.
use Rattle.std.proofs.Common.{◌≡◌, ℕ, ◌+◌, ◌<◌, Bool, true, false, ◌||◌, Some, List, [], ◌∷◌, ◌++◌, length, get_or, map, refl, sym, ap, ◌∙◌, subst, arith, add-one, Less}
use Rattle.std.specs.Prelude.{bytes_eq, position, Contains}
use Rattle.std.specs.Borrow.{Bor}
use Rattle.std.specs.List.{AllByRecursion, list_any}
use Rattle.std.specs.List.Sorted.{IsStrictlySortedBy}
use Rattle.std.proofs.lemmas.Bool.{false≢true}
use Rattle.std.proofs.lemmas.Cmp.{nat_list_eq_equiv}
use Rattle.std.proofs.lemmas.List.{get_or-map, length-map}
use Rattle.std.proofs.lemmas.List.Quantifiers.{position-Some}
use Rattle.std.proofs.lemmas.Map.Views.{list_any-from_Contains}
use Rattle.std.proofs.lemmas.Slice.Eq.{bytes_eq-Decides}
use Rattle.rn_text.specs.Texts.{Text, text_cmp}
use Rattle.rn_assemble.specs.Components.{name_key}
use Rattle.rn_assemble.specs.inside.Keyed.{IsNameNumber, texts_of}
use Rattle.rn_assemble.proofs.Referring.KeyNumbers.{not_itself}

module _ {X : Type 0} (f : X → Text) where
  at_text : (xs : List X) (t : Text) (i : ℕ) → i < length xs → ((d : X) → f (get_or xs i d) ≡ t) → get_or (map f xs) i [] ≡ t
  at_text [] t i l h = absurd (omega (arith, l))
  at_text (x ∷ xs) t i l h = get_or-map f (x ∷ xs) i x [] l ∙ h x

  pub number_of_place : (xs : List X) (t : Text) (i : ℕ) → i < length xs → ((d : X) → f (get_or xs i d) ≡ t) → IsNameNumber (map f xs) t (i + 1)
  number_of_place xs t i l h = record {
    above = omega arith;
    within = omega (arith, l, length-map xs f);
    is = rw add-one (ap name_key (at_text xs t i l h));
  }

abbrev has_text : Text → List (Bor (List ℕ)) → Bool
has_text x ks = list_any (λ (k : Bor (List ℕ)). bytes_eq x k.now) ks

-- the number of a text that is found among those that are borrowed
pub found_number : (x : Text) (ks : List (Bor (List ℕ))) (i : ℕ) → position (λ (k : Bor (List ℕ)). bytes_eq x k.now) ks ≡ Some i → IsNameNumber (texts_of ks) x (i + 1)
found_number x [] i e = absurd cc
found_number x (k ∷ ks) i e = number_of_place (λ (y : Bor (List ℕ)). y.now) (k ∷ ks) x i (position-Some (λ (y : Bor (List ℕ)). bytes_eq x y.now) (k ∷ ks) i k e).0
    (λ d. sym ((bytes_eq-Decides x (get_or (k ∷ ks) i d).now).0 (position-Some (λ (y : Bor (List ℕ)). bytes_eq x y.now) (k ∷ ks) i d e).1))

among_texts : (x : Text) (ks : List (Bor (List ℕ))) → list_any (bytes_eq x) (texts_of ks) ≡ has_text x ks
among_texts x [] = refl
among_texts x (k ∷ ks) = ap (λ b. bytes_eq x k.now || b) (among_texts x ks)

pub not_found : (x : Text) (ks : List (Bor (List ℕ))) → has_text x ks ≡ false → ¬ Contains (texts_of ks) x
not_found x ks none c = false≢true (sym none ∙ sym (among_texts x ks) ∙ list_any-from_Contains {eq = bytes_eq} nat_list_eq_equiv x (texts_of ks) c)

-- what holds of all holds of the one behind a front
at_end : (P : Text → Type 0) (ys : List Text) (x : Text) (zs : List Text) → AllByRecursion P (ys ++ x ∷ zs) → P x
at_end P [] x zs a = a.0
at_end P (y ∷ ys) x zs a = at_end P ys x zs a.1

-- a text that comes behind others in their order is none of these
pub new_text : (ks : List (Bor (List ℕ))) (x : Text) (zs : List Text) → IsStrictlySortedBy text_cmp (texts_of ks ++ x ∷ zs) → has_text x ks ≡ false
unfolding IsStrictlySortedBy
new_text [] x zs s = refl
new_text (k ∷ ks) x zs s = λ i. other (bytes_eq x k.now) refl i || new_text ks x zs s.1 i
  where
    other : (b : Bool) → bytes_eq x k.now ≡ b → bytes_eq x k.now ≡ false
    other false e = e
    other true e = absurd (not_itself x (subst (λ y. text_cmp y x ≡ Less) (sym ((bytes_eq-Decides x k.now).0 e)) (at_end (λ y. text_cmp k.now y ≡ Less) (texts_of ks) x zs s.0)))
