-- The references of the components that have a mark, one after the other, and the names that they give.
use Rattle.std.proofs.Common.{◌≡◌, ℕ, zero, suc, ◌+◌, ◌<◌, Bool, true, false, cond, List, [], ◌∷◌, ◌++◌, length, get_or, Some, drop, refl, sym, ap, ◌∙◌, subst, arith, append_assoc, Contains, ⊎_elim}
use Rattle.std.specs.Prelude.{slice_get}
use Rattle.std.proofs.lemmas.Bool.{false≢true}
use Rattle.std.proofs.lemmas.Grind.{flat_map-append}
use Rattle.std.proofs.lemmas.List.{drop_more}
use Rattle.std.proofs.lemmas.List.Elements.{Contains-append_left, Contains-append_right, Contains-append_cases}
use Rattle.rn_text.specs.Texts.{Text}
use Rattle.rn_pattern.specs.declared.references.Reach.{Reach}
use Rattle.rn_assemble.specs.declared.reading.key_rows.WrittenComponent as code
use Rattle.rn_assemble.specs.inside.Referred.{marked_references, names_within, references_at, within}

module _ (meant : Reach) where
  -- the names of a component's references that the reach takes in
  abbrev pub named_at : code.WrittenComponent → List Text
  named_at w = names_within meant (references_at w)

  abbrev names_of_marked : List Bool → List code.WrittenComponent → List Text
  names_of_marked ms ws = names_within meant (marked_references ms ws)

  abbrev one : Bool → code.WrittenComponent → List (Text × Reach)
  one m w = cond m (references_at w) []

  split : (m : Bool) (w : code.WrittenComponent) (ms : List Bool) (ws : List code.WrittenComponent) → names_of_marked (m ∷ ms) (w ∷ ws) ≡ names_within meant (one m w) ++ names_of_marked ms ws
  split m w ms ws = flat_map-append (λ (r : Text × Reach). within meant r.1 r.0) (one m w) (marked_references ms ws)

  -- each name of a component that has a mark is there
  pub marked_contains : (ms : List Bool) (ws : List code.WrittenComponent) (n : ℕ) (w : code.WrittenComponent) (y : Text) → slice_get ws n ≡ Some w → get_or ms n false ≡ true → Contains (named_at w) y → Contains (names_of_marked ms ws) y
  marked_contains [] ws n w y e m c = absurd (false≢true m)
  marked_contains (m ∷ ms) [] n w y e t c = absurd cc
  marked_contains (m ∷ ms) (v ∷ ws) zero w y e t c =
      let same : v ≡ w = cc in
      let here : Contains (names_within meant (one m v)) y = subst (λ b. Contains (names_within meant (one b v)) y) (sym t) (subst (λ u. Contains (named_at u) y) (sym same) c) in
      subst (λ ns. Contains ns y) (sym (split m v ms ws)) (Contains-append_left (names_within meant (one m v)) (names_of_marked ms ws) y here)
  marked_contains (m ∷ ms) (v ∷ ws) (suc n) w y e t c =
      subst (λ ns. Contains ns y) (sym (split m v ms ws)) (Contains-append_right (names_within meant (one m v)) (names_of_marked ms ws) y (marked_contains ms ws n w y e t c))

  -- the component of a name
  pub record Marked (ms : List Bool) (ws : List code.WrittenComponent) (y : Text) : Type 0 where
    pub index : ℕ
    pub component : code.WrittenComponent
    pub at : slice_get ws index ≡ Some component
    pub marked : get_or ms index false ≡ true
    pub named : Contains (named_at component) y

  here_marked : (m : Bool) (v : code.WrittenComponent) (ms : List Bool) (ws : List code.WrittenComponent) (y : Text) → Contains (names_within meant (one m v)) y → Marked (m ∷ ms) (v ∷ ws) y
  here_marked true v ms ws y c = record { index = 0; component = v; at = refl; marked = refl; named = c }
  here_marked false v ms ws y c = absurd (omega (arith, c.1))

  behind_marked : (m : Bool) (v : code.WrittenComponent) (ms : List Bool) (ws : List code.WrittenComponent) (y : Text) → Marked ms ws y → Marked (m ∷ ms) (v ∷ ws) y
  behind_marked m v ms ws y k = record { index = suc k.index; component = k.component; at = k.at; marked = k.marked; named = k.named }

  pub marked_contained : (ms : List Bool) (ws : List code.WrittenComponent) (y : Text) → Contains (names_of_marked ms ws) y → Marked ms ws y
  marked_contained [] ws y c = absurd (omega (arith, c.1))
  marked_contained (m ∷ ms) [] y c = absurd (omega (arith, c.1))
  marked_contained (m ∷ ms) (v ∷ ws) y c =
      ⊎_elim (here_marked m v ms ws y) (λ k. behind_marked m v ms ws y (marked_contained ms ws y k))
      (Contains-append_cases (names_within meant (one m v)) (names_of_marked ms ws) y (subst (λ ns. Contains ns y) (split m v ms ws) c))

-- one component more
pub marked_next : (ms : List Bool) (ws : List code.WrittenComponent) (i : ℕ) (d : code.WrittenComponent) → i < length ms → i < length ws
    → marked_references (drop i ms) (drop i ws) ≡ cond (get_or ms i false) (references_at (get_or ws i d)) [] ++ marked_references (drop (i + 1) ms) (drop (i + 1) ws)
marked_next ms ws i d l m = (λ j. marked_references (drop_more ms i false l j) (drop_more ws i d m j))

pub marked_step : (ms : List Bool) (ws : List code.WrittenComponent) (i : ℕ) (d : code.WrittenComponent) (b : Bool) (old new all : List (Text × Reach)) → i < length ms → i < length ws → get_or ms i false ≡ b
    → new ≡ old ++ cond b (references_at (get_or ws i d)) [] → old ++ marked_references (drop i ms) (drop i ws) ≡ all → new ++ marked_references (drop (i + 1) ms) (drop (i + 1) ws) ≡ all
marked_step ms ws i d b old new all l m is e h =
    let one = λ (t : Bool). cond t (references_at (get_or ws i d)) [] in
    let rest = marked_references (drop (i + 1) ms) (drop (i + 1) ws) in
    ap (λ xs. xs ++ rest) e ∙ append_assoc old (one b) rest ∙ ap (λ t. old ++ (one t ++ rest)) (sym is) ∙ ap (λ xs. old ++ xs) (sym (marked_next ms ws i d l m)) ∙ h

-- what can be read where a place has none
pub some_component : (ws : List code.WrittenComponent) → 0 < length ws → code.WrittenComponent
some_component [] h = absurd (omega (arith, h))
some_component (w ∷ ws) h = w
