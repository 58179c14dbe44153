-- The names that components define, one component after the other.
use Rattle.std.proofs.Common.{◌≡◌, ◌<◌, ℕ, Bool, true, false, cond, List, [], ◌∷◌, ◌++◌, length, get_or, map, filter, not, refl, sym, ap, ◌∙◌, inl, inr}
use Rattle.std.specs.Prelude.{bytes_eq}
use Rattle.std.specs.List.{list_any}
use Rattle.std.proofs.lemmas.Bool.{false≢true, cases_Bool}
use Rattle.std.proofs.lemmas.List.{get_or_default}
use Rattle.std.proofs.lemmas.List.Elements.{filter-append}
use Rattle.std.proofs.lemmas.Map.Views.{Contains-from_any}
use Rattle.std.proofs.lemmas.Slice.Eq.{bytes_eq-Decides}
use Rattle.rn_text.specs.Texts.{Text}
use Rattle.rn_assemble.specs.Combine.{defined_names, first_of, of_key}
use Rattle.rn_assemble.specs.Components.{Component, Key, has_key, name_key, same_key, start_key}
use Rattle.rn_assemble.proofs.Combined.Combinations.{is_some, named}
use Rattle.rn_assemble.proofs.Referring.LeastKeys.{has_none}

-- a text is the same either way
same_either_at : (b : Bool) (x y : Text) → bytes_eq y x ≡ b → bytes_eq x y ≡ false → b ≡ false
same_either_at true x y e n = absurd (false≢true (sym n ∙ (bytes_eq-Decides x y).1 (sym ((bytes_eq-Decides y x).0 e))))
same_either_at false x y e n = refl

pub differs : (x y : Text) → bytes_eq x y ≡ false → bytes_eq y x ≡ false
differs x y n = same_either_at (bytes_eq y x) x y refl n

-- one more name behind the others
first_behind : (k : Key) (x : Text) (ys : List Text) → same_key (name_key x) k ≡ false → first_of k (ys ++ x ∷ []) ≡ first_of k ys ++ x ∷ []
first_behind start_key x ys n = refl
first_behind (name_key y) x ys n =
    let p : Text → Bool = λ z. not (bytes_eq y z) in
    ap (λ zs. y ∷ zs) (filter-append p ys (x ∷ []) ∙ ap (λ b. filter p ys ++ cond (not b) (x ∷ []) []) (differs x y n))

none_in : (cs : List Component) → is_some (map (λ (c : Component). c.body) cs) ≡ false → length cs ≡ 0
none_in [] e = refl
none_in (c ∷ cs) e = absurd (false≢true (sym e))

-- a name that has a component is one of them
pub has_defined : (x : Text) (cs : List Component) → has_key (name_key x) cs ≡ true → (j : ℕ) × (j < length (defined_names cs)) × (get_or (defined_names cs) j [] ≡ x)
has_defined x cs t = elim (cases_Bool (list_any (bytes_eq x) (defined_names cs))) [
  | inl among ↦
      let c = Contains-from_any {eq = bytes_eq} (λ a b e. (bytes_eq-Decides a b).0 e) x (defined_names cs) among in
      (c.0, c.1, get_or_default (defined_names cs) c.0 [] x c.1 ∙ c.2)
  | inr none ↦ absurd (false≢true (sym (has_none (name_key x) cs (none_in (of_key (name_key x) cs) (sym (named x cs) ∙ none))) ∙ t))
]
