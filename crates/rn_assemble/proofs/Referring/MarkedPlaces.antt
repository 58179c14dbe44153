-- The places that have a mark, one after the other.
use Rattle.std.proofs.Common.{◌≡◌, ⊎_elim, ◌+◌, ◌<◌, ℕ, Bool, true, false, ◌||◌, nat_eq, List, [], ◌∷◌, ◌++◌, refl, sym, ap, ◌∙◌, subst, arith, below_more}
use Rattle.std.specs.Prelude.{Contains}
use Rattle.std.specs.List.{IsDistinct, list_any}
use Rattle.std.proofs.lemmas.Bool.{false≢true}
use Rattle.std.proofs.lemmas.Cmp.{nat_eq_equiv}
use Rattle.std.proofs.lemmas.Bool.Decides.{Decides-eqb}
use Rattle.std.proofs.lemmas.List.Elements.{Contains-append_left, Contains-push, Contains-push_cases}
use Rattle.std.proofs.lemmas.Map.Keys.{IsDistinct-push}
use Rattle.rn_pattern.proofs.Ordered.InOrder.{contains_front, contains_behind}
use Rattle.rn_graph.specs.Graph.{is_marked}

pub different : (b : Bool) (x y : ℕ) → nat_eq x y ≡ b → ¬ (x ≡ y) → b ≡ false
different true x y e h = absurd (h ((Decides-eqb x y).0 e))
different false x y e h = refl

pub none_same : (y : ℕ) (xs : List ℕ) → ((k : ℕ) → Contains xs k → k < y) → list_any (nat_eq y) xs ≡ false
none_same y [] h = refl
none_same y (x ∷ xs) h =
    let l = h x (contains_front x xs) in
    ap (λ b. b || list_any (nat_eq y) xs) (different (nat_eq y x) y x refl (λ e. absurd (omega (arith, e, l)))) ∙ none_same y xs (λ k c. h k (contains_behind x k xs c))

-- the places below n that have a mark
pub record AreBelow (marks : List Bool) (n : ℕ) (places : List ℕ) : Type 0 where
  pub listed : (k : ℕ) → k < n → is_marked marks k ≡ true → Contains places k
  pub only : (k : ℕ) → Contains places k → (k < n) × (is_marked marks k ≡ true)
  pub once : IsDistinct nat_eq places

pub no_places : (marks : List Bool) (n : ℕ) (places : List ℕ) → n ≡ 0 → places ≡ [] → AreBelow marks n places
unfolding IsDistinct
no_places marks n places z e = subst (AreBelow marks n) (sym e) (record { listed = λ k h m. absurd (omega (arith, h, z)); only = λ k c. absurd (omega (arith, c.1)); once = tt })

pub more_places : (marks : List Bool) (n : ℕ) (places new : List ℕ) → is_marked marks n ≡ true → new ≡ places ++ n ∷ [] → AreBelow marks n places → AreBelow marks (n + 1) new
more_places marks n places new m e a = subst (AreBelow marks (n + 1)) (sym e) (record {
  listed = below_more (λ k. is_marked marks k ≡ true → Contains (places ++ n ∷ []) k) n (λ k h t. Contains-append_left places (n ∷ []) k (a.listed k h t)) (λ t. Contains-push places n);
  only = λ k c. ⊎_elim (λ d. (let l = (a.only k d).0 in omega (arith, l), (a.only k d).1)) (λ s. (omega (arith, s), subst (λ j. is_marked marks j ≡ true) s m)) (Contains-push_cases places n k c);
  once = IsDistinct-push nat_eq_equiv places n a.once (none_same n places (λ k c. (a.only k c).0));
})

pub same_places : (marks : List Bool) (n : ℕ) (places new : List ℕ) → is_marked marks n ≡ false → new ≡ places → AreBelow marks n places → AreBelow marks (n + 1) new
same_places marks n places new m e a = subst (AreBelow marks (n + 1)) (sym e) (record {
  listed = below_more (λ k. is_marked marks k ≡ true → Contains places k) n a.listed (λ t. absurd (false≢true (sym m ∙ t)));
  only = λ k c. (let l = (a.only k c).0 in omega (arith, l), (a.only k c).1);
  once = a.once;
})
