-- Each part of the grammar stays, or an edit is for it: the edits are added one by one.
use Rattle.std.proofs.Common.{◌≡◌, ℕ, ◌<◌, ◌+◌, ◌⊎◌, inl, inr, List, [], ◌∷◌, ◌++◌, map, refl, sym, ap, subst, below_more}
use Rattle.std.specs.Prelude.{Contains}
use Rattle.std.proofs.lemmas.List.Elements.{All-push}
use Rattle.rn_lift.specs.inside.Planned.{AddsEdit, IsCovered, IsEditOf, StaysAt}
use Rattle.rn_lift.specs.StandIns.{Stays}
use Rattle.rn_lift.specs.declared.edits.Edit.{Edit}
use Rattle.rn_lift.specs.declared.module_texts.PlaceView.{PlaceView}
use Rattle.rn_lift.proofs.ListsWithOneMore.{last_there, still_there}

abbrev parts_of : List Edit → List ℕ
parts_of es = map (λ e. e.part) es

parts_push : (es : List Edit) (e : Edit) → parts_of (es ++ e ∷ []) ≡ parts_of es ++ e.part ∷ []
parts_push [] e = refl
parts_push (x ∷ es) e = ap (λ (ns : List ℕ). x.part ∷ ns) (parts_push es e)

either : (A B C : Type 0) → (B → C) → A ⊎ B → A ⊎ C
either A B C f (inl a) = inl a
either A B C f (inr b) = inr (f b)

-- nothing is added for a part that stays
pub none_added : (v : PlaceView) (number : ℕ) (es : List Edit) → StaysAt v number → AddsEdit v number es es
none_added v number es h = record { are_edits = λ a. a; kept = λ n k. k; covered = λ p e g. inl (h p e g) }

-- an edit is added
pub one_added : (v : PlaceView) (number : ℕ) (es new : List Edit) (e : Edit) → new ≡ es ++ e ∷ [] → IsEditOf v e → e.part ≡ number → AddsEdit v number es new
one_added v number es new e q i s = subst (λ (l : List Edit). AddsEdit v number es l) (sym q) (record {
  are_edits = λ a. All-push (IsEditOf v) es e a i;
  kept = λ n k p f g. either (Stays v.basis.scope p) (Contains (parts_of es) n) (Contains (parts_of (es ++ e ∷ [])) n) (still_there (parts_of es) (parts_of (es ++ e ∷ [])) e.part n (parts_push es e)) (k p f g);
  covered = λ p f g. inr (subst (λ (m : ℕ). Contains (parts_of (es ++ e ∷ [])) m) s (last_there (parts_of es) (parts_of (es ++ e ∷ [])) e.part (parts_push es e)));
})

-- the parts so far, and one more
pub more : (v : PlaceView) (es new : List Edit) (i : ℕ) → AddsEdit v i es new → ((n : ℕ) → n < i → IsCovered v es n) → (n : ℕ) → n < i + 1 → IsCovered v new n
more v es new i a h = below_more (IsCovered v new) i (λ m k. a.kept m (h m k)) a.covered
