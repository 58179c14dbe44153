-- Marks that are set one after the other.
use Rattle.std.proofs.Common.{◌≡◌, inl, inr, ⊎_elim, ℕ, ◌+◌, ◌<◌, ◌≤◌, Bool, true, false, List, [], ◌∷◌, ◌++◌, length, get_or, set, take, sym, ap, ◌∙◌, subst, arith, Contains}
use Rattle.std.specs.Prelude.{◌↔◌, ◌⊎◌}
use Rattle.std.proofs.lemmas.Bool.{cases_eq}
use Rattle.std.proofs.lemmas.List.{get_or-set_other, get_or-set_same, length-set, take_more}
use Rattle.std.proofs.lemmas.List.Elements.{Contains-append_left, Contains-push, Contains-push_cases}
use Rattle.rn_assemble.specs.declared.including.pieces.Piece.{Piece}
use Rattle.rn_assemble.specs.inside.Referred.{AreLiveMarks, AreMarksOf}

abbrev IsMarked : List Bool → ℕ → Type 0
IsMarked marks n = get_or marks n false ≡ true

-- what is read where there is no piece
abbrev pub no_piece : Piece
no_piece = record { segment = 0; from = 0; to = 0; is_overridden = false }

-- one piece more
module _ (pieces : List Piece) (i count : ℕ) (old new : List Bool) (l : i < length pieces) where
  abbrev IsAmong : ℕ → List Piece → Type 0
  IsAmong n ps = (q : Piece) × Contains ps q × (q.from ≤ n) × (n < q.to)

  abbrev pub IsHere : ℕ → Type 0
  IsHere n = ((get_or pieces i no_piece).from ≤ n) × (n < (get_or pieces i no_piece).to)

  into : (n : ℕ) → IsAmong n (take i pieces) ⊎ IsHere n → IsAmong n (take (i + 1) pieces)
  into n s =
      let p = get_or pieces i no_piece in
      subst (IsAmong n) (sym (take_more pieces i no_piece l)) (⊎_elim (λ q. (q.0, Contains-append_left (take i pieces) (p ∷ []) q.0 q.1, q.2, q.3)) (λ q. (p, Contains-push (take i pieces) p, q.0, q.1)) s)

  back : (n : ℕ) → IsAmong n (take (i + 1) pieces) → IsAmong n (take i pieces) ⊎ IsHere n
  back n q =
      let r = subst (IsAmong n) (take_more pieces i no_piece l) q in
      ⊎_elim (λ c. inl (r.0, c, r.2, r.3)) (λ e. inr (subst (λ (x : Piece). (x.from ≤ n) × (n < x.to)) (sym e) (r.2, r.3))) (Contains-push_cases (take i pieces) (get_or pieces i no_piece) r.0 r.1)

  pub live_more : AreLiveMarks (take i pieces) count old → length new ≡ length old → ((n : ℕ) → IsMarked new n ↔ (IsMarked old n ⊎ IsHere n)) → AreLiveMarks (take (i + 1) pieces) count new
  live_more a size h = record {
    size = size ∙ a.size;
    marked = λ n m. (
      (λ t. into n (⊎_elim (λ o. inl ((a.marked n m).0 o)) (λ q. inr q) ((h n).0 t))),
      λ q. (h n).1 (⊎_elim (λ o. inl ((a.marked n m).1 o)) (λ r. inr r) (back n q)),
    );
  }

-- one number more
module _ (numbers : List ℕ) (i count : ℕ) (marks : List Bool) (l : i < length numbers) (a : AreMarksOf (take i numbers) count marks) where
  numbers_more : take (i + 1) numbers ≡ take i numbers ++ get_or numbers i 0 ∷ []
  numbers_more = take_more numbers i 0 l

  still : (n : ℕ) → Contains (take i numbers) n → Contains (take (i + 1) numbers) n
  still n c = subst (λ ns. Contains ns n) (sym numbers_more) (Contains-append_left (take i numbers) (get_or numbers i 0 ∷ []) n c)

  cases : (n : ℕ) → Contains (take (i + 1) numbers) n → Contains (take i numbers) n ⊎ (get_or numbers i 0 ≡ n)
  cases n c = ⊎_elim (λ k. inl k) (λ e. inr e) (Contains-push_cases (take i numbers) (get_or numbers i 0) n (subst (λ ns. Contains ns n) numbers_more c))

  here : Contains (take (i + 1) numbers) (get_or numbers i 0)
  here = subst (λ ns. Contains ns (get_or numbers i 0)) (sym numbers_more) (Contains-push (take i numbers) (get_or numbers i 0))

  pub mark_set : get_or numbers i 0 < length marks → AreMarksOf (take (i + 1) numbers) count (set marks (get_or numbers i 0) true)
  mark_set m = record {
    size = length-set marks (get_or numbers i 0) true ∙ a.size;
    marked = λ n k. let x = get_or numbers i 0 in elim (cases_eq n x) [
      | inl e ↦ ((λ t. subst (Contains (take (i + 1) numbers)) (sym e) here), λ c. ap (λ j. get_or (set marks x true) j false) e ∙ get_or-set_same marks x true false m)
      | inr ne ↦
          let same = get_or-set_other marks x n true false ne in (
            (λ t. still n ((a.marked n k).0 (sym same ∙ t))),
            λ c. same ∙ (a.marked n k).1 (⊎_elim (λ h. h) (λ e. absurd (ne (sym e))) (cases n c)),
          )
    ];
  }

  pub mark_past : length marks ≤ get_or numbers i 0 → AreMarksOf (take (i + 1) numbers) count marks
  mark_past m = record {
    size = a.size;
    marked = λ n k. (
      (λ t. still n ((a.marked n k).0 t)),
      λ c. (a.marked n k).1 (⊎_elim (λ h. h) (λ e. absurd (omega (arith, e, m, k, a.size))) (cases n c)),
    );
  }
