-- What the prefixes mean after one has one declaration more, or one fewer.
use Rattle.std.proofs.Common.{◌≡◌, ℕ, ◌+◌, ◌-◌, ◌<◌, true, List, [], ◌∷◌, ◌++◌, length, get_or, take, sym, ap, ◌∙◌, subst, arith, ⊎_elim, Some, None}
use Rattle.std.specs.Prelude.{Option, Result, Ok, Err, OnErr, if◌then◌else◌, count_by, bytes_eq}
use Rattle.std.specs.Option.{option_map_or}
use Rattle.std.specs.Map.{update}
use Rattle.std.proofs.lemmas.Bool.{cases_Bool, cond-true, cond-false}
use Rattle.std.proofs.lemmas.List.{take-take, length-take-le}
use Rattle.std.proofs.lemmas.List.Sums.{count_by_more_no, count_by_more_yes}
use Rattle.std.proofs.lemmas.Slice.Eq.{bytes_eq-Decides}

pub on_err : {T E P : Type 0} (r : Result T E) → P → OnErr r P
on_err (Ok x) p = tt
on_err (Err e) p = p

pub same_bytes : (xs ys : List ℕ) → bytes_eq xs ys ≡ true → xs ≡ ys
same_bytes xs ys e = grind (arith, bytes_eq-Decides)

module _ {X : Type 0} (items : X → List ℕ) where
  abbrev pub held : Option X → List ℕ
  held o = option_map_or items o []

  -- the prefix has this value, which holds one more
  pub entered : (f g : List ℕ → Option X) (prefix : List ℕ) (w : X) (d : ℕ) → ((q : List ℕ) → g q ≡ update bytes_eq f prefix (Some w) q) → items w ≡ held (f prefix) ++ d ∷ []
      → (q : List ℕ) → held (g q) ≡ (if bytes_eq prefix q then held (f q) ++ d ∷ [] else held (f q))
  entered f g prefix w d updates is q = ⊎_elim
      (λ same. let here : prefix ≡ q = same_bytes prefix q same in
      ap held (updates q ∙ cond-true (bytes_eq prefix q) (Some w) (f q) same) ∙ is ∙ ap (λ r. held (f r) ++ d ∷ []) here ∙ sym (cond-true (bytes_eq prefix q) (held (f q) ++ d ∷ []) (held (f q)) same))
      (λ other. ap held (updates q ∙ cond-false (bytes_eq prefix q) (Some w) (f q) other) ∙ sym (cond-false (bytes_eq prefix q) (held (f q) ++ d ∷ []) (held (f q)) other))
      (cases_Bool (bytes_eq prefix q))

  -- it has a value that holds the same
  pub kept : (f g : List ℕ → Option X) (prefix : List ℕ) (w : X) → ((q : List ℕ) → g q ≡ update bytes_eq f prefix (Some w) q) → items w ≡ held (f prefix) → (q : List ℕ) → held (g q) ≡ held (f q)
  kept f g prefix w updates is q = ⊎_elim
      (λ same. let here : prefix ≡ q = same_bytes prefix q same in
      ap held (updates q ∙ cond-true (bytes_eq prefix q) (Some w) (f q) same) ∙ is ∙ ap (λ r. held (f r)) here)
      (λ other. ap held (updates q ∙ cond-false (bytes_eq prefix q) (Some w) (f q) other))
      (cases_Bool (bytes_eq prefix q))

  -- it has a value that holds one fewer
  pub popped : (f g : List ℕ → Option X) (prefix : List ℕ) (w : X) → ((q : List ℕ) → g q ≡ update bytes_eq f prefix (Some w) q) → items w ≡ take (length (held (f prefix)) - 1) (held (f prefix))
      → (q : List ℕ) → held (g q) ≡ (if bytes_eq prefix q then take (length (held (f q)) - 1) (held (f q)) else held (f q))
  popped f g prefix w updates is q = ⊎_elim
      (λ same. let here : prefix ≡ q = same_bytes prefix q same in
      ap held (updates q ∙ cond-true (bytes_eq prefix q) (Some w) (f q) same) ∙ is ∙ ap (λ r. take (length (held (f r)) - 1) (held (f r))) here
      ∙ sym (cond-true (bytes_eq prefix q) (take (length (held (f q)) - 1) (held (f q))) (held (f q)) same))
      (λ other. ap held (updates q ∙ cond-false (bytes_eq prefix q) (Some w) (f q) other) ∙ sym (cond-false (bytes_eq prefix q) (take (length (held (f q)) - 1) (held (f q))) (held (f q)) other))
      (cases_Bool (bytes_eq prefix q))

  -- it has none, and none fewer
  pub none_left : (f : List ℕ → Option X) (prefix : List ℕ) → f prefix ≡ None → (q : List ℕ) → held (f q) ≡ (if bytes_eq prefix q then take (length (held (f q)) - 1) (held (f q)) else held (f q))
  none_left f prefix none q = ⊎_elim
      (λ same. let here : prefix ≡ q = same_bytes prefix q same in
      let empty : held (f q) ≡ [] = ap (λ r. held (f r)) (sym here) ∙ ap held none in
      subst (λ l. l ≡ (if bytes_eq prefix q then take (length l - 1) l else l)) (sym empty) (sym (cond-true (bytes_eq prefix q) [] [] same)))
      (λ other. sym (cond-false (bytes_eq prefix q) (take (length (held (f q)) - 1) (held (f q))) (held (f q)) other))
      (cases_Bool (bytes_eq prefix q))

-- one fewer behind those that are gone
shorter : (old : List ℕ) (n : ℕ) → take (length (take (length old - n) old) - 1) (take (length old - n) old) ≡ take (length old - (n + 1)) old
shorter old n =
    let here : length (take (length old - n) old) ≡ length old - n = length-take-le (length old - n) old (omega arith) in
    let fewer : length old - n - 1 ≡ length old - (n + 1) = omega arith in
    ap (λ k. take (k - 1) (take (length old - n) old)) here ∙ take-take (length old - n - 1) (length old - n) old (omega arith) ∙ ap (λ k. take k old) fewer

-- a step over the next of some declarations, at each prefix q
pub left_more : {D : Type 0} (prefix_of : D → List ℕ) (ds : List D) (i : ℕ) (d : D) (q old before after : List ℕ) → i < length ds
    → before ≡ take (length old - count_by (λ x. bytes_eq (prefix_of x) q) (take i ds)) old
    → after ≡ (if bytes_eq (prefix_of (get_or ds i d)) q then take (length before - 1) before else before)
    → after ≡ take (length old - count_by (λ x. bytes_eq (prefix_of x) q) (take (i + 1) ds)) old
left_more prefix_of ds i d q old before after within so_far step = ⊎_elim
    (λ same.
    let more : count_by (λ x. bytes_eq (prefix_of x) q) (take (i + 1) ds) ≡ count_by (λ x. bytes_eq (prefix_of x) q) (take i ds) + 1 = count_by_more_yes (λ x. bytes_eq (prefix_of x) q) ds i d within same in
    step ∙ cond-true (bytes_eq (prefix_of (get_or ds i d)) q) (take (length before - 1) before) before same ∙ ap (λ l. take (length l - 1) l) so_far
    ∙ shorter old (count_by (λ x. bytes_eq (prefix_of x) q) (take i ds)) ∙ ap (λ k. take (length old - k) old) (sym more))
    (λ other.
    let none : count_by (λ x. bytes_eq (prefix_of x) q) (take (i + 1) ds) ≡ count_by (λ x. bytes_eq (prefix_of x) q) (take i ds) = count_by_more_no (λ x. bytes_eq (prefix_of x) q) ds i d within other in
    step ∙ cond-false (bytes_eq (prefix_of (get_or ds i d)) q) (take (length before - 1) before) before other ∙ so_far ∙ ap (λ k. take (length old - k) old) (sym none))
    (cases_Bool (bytes_eq (prefix_of (get_or ds i d)) q))
