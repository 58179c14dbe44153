-- Rows of a graph, built one after the other.
use Rattle.std.proofs.Common.{◌≡◌, ℕ, ◌<◌, inl, inr, List, [], ◌∷◌, ◌++◌, length, sym, ap, ◌∙◌, subst, arith, ◌≤◌, Bool, true, false, cond, below_more, refl, ◌+◌}
use Rattle.std.proofs.lemmas.List.{length_push, get_or_push, get_or_append_left, get_or_past}
use Rattle.std.proofs.lemmas.List.Elements.{Contains-push_cases}
use Rattle.std.proofs.lemmas.Bool.{cases_eq, cases_lt}
use Rattle.rn_graph.specs.Graph.{AllBelow, IsGraph, is_marked, row}

-- each row lists numbers below n
abbrev pub AreRows : ℕ → List (List ℕ) → Type 0
AreRows n rows = (x : ℕ) → AllBelow n (row rows x)

pub none_below : (n : ℕ) → AllBelow n []
none_below n y c = absurd (omega (arith, c.1))

pub below_push : (n : ℕ) (xs : List ℕ) (x : ℕ) → AllBelow n xs → x < n → AllBelow n (xs ++ x ∷ [])
below_push n xs x h l y c = elim (Contains-push_cases xs x y c) [ inl k ↦ h y k | inr e ↦ subst (λ (z : ℕ). z < n) e l ]

pub no_rows : (n : ℕ) → AreRows n []
no_rows n x = none_below n

rows_push : (n : ℕ) (rows : List (List ℕ)) (xs : List ℕ) → AreRows n rows → AllBelow n xs → AreRows n (rows ++ xs ∷ [])
rows_push n rows xs h l x = elim (cases_lt x (length rows)) [
  | inl k ↦ subst (λ (r : List ℕ). AllBelow n r) (sym (get_or_append_left rows (xs ∷ []) [] x k)) (h x)
  | inr k ↦ elim (cases_eq x (length rows)) [
    | inl e ↦ subst (λ (r : List ℕ). AllBelow n r) (sym (get_or_push rows xs [] x (sym e))) l
    | inr ne ↦ subst (λ (r : List ℕ). AllBelow n r) (sym (get_or_past (rows ++ xs ∷ []) x [] (omega (arith, k, ne, length_push rows xs)))) (none_below n)
  ]
]

pub is_graph : (n : ℕ) (rows : List (List ℕ)) → AreRows n rows → length rows ≡ n → IsGraph rows
is_graph n rows h e = subst (λ (m : ℕ). AreRows m rows) (sym e) h

-- a list that an equation names is below the number, as the list that it equals
pub below_still : (n : ℕ) (xs ys : List ℕ) → AllBelow n xs → ys ≡ xs → AllBelow n ys
below_still n xs ys h e = subst (λ (l : List ℕ). AllBelow n l) (sym e) h

-- one row more
pub rows_pushed : (n : ℕ) (rows rows' : List (List ℕ)) (xs : List ℕ) → AreRows n rows → AllBelow n xs → rows' ≡ rows ++ xs ∷ [] → AreRows n rows'
rows_pushed n rows rows' xs h l e = subst (λ (rs : List (List ℕ)). AreRows n rs) (sym e) (rows_push n rows xs h l)

-- what a node's edges lead to are nodes
pub row_within : (rows : List (List ℕ)) (x : ℕ) (xs : List ℕ) → IsGraph rows → xs ≡ row rows x → AllBelow (length rows) xs
row_within rows x xs h e = below_still (length rows) (row rows x) xs (h x) e

-- the row behind the others, and those before it
pub row_behind : (rows rows' : List (List ℕ)) (xs : List ℕ) → rows' ≡ rows ++ xs ∷ [] → row rows' (length rows) ≡ xs
row_behind rows rows' xs e = ap (λ (rs : List (List ℕ)). row rs (length rows)) e ∙ get_or_push rows xs [] (length rows) refl

pub row_before : (rows rows' : List (List ℕ)) (xs : List ℕ) (n : ℕ) → rows' ≡ rows ++ xs ∷ [] → n < length rows → row rows' n ≡ row rows n
row_before rows rows' xs n e h = ap (λ (rs : List (List ℕ)). row rs n) e ∙ get_or_append_left rows (xs ∷ []) [] n h

pub no_row : (rows : List (List ℕ)) (n : ℕ) → length rows ≤ n → row rows n ≡ []
no_row rows n h = get_or_past rows n [] h

-- the rows of some nodes alone, up to a node
module _ (all : List (List ℕ)) (marks : List Bool) where
  abbrev pub IsKept : ℕ → List (List ℕ) → Type 0
  IsKept k rows = (n : ℕ) → n < k → row rows n ≡ cond (is_marked marks n) (row all n) []

  pub keep_more : (k : ℕ) (rows rows' : List (List ℕ)) (xs : List ℕ) → length rows ≡ k → IsKept k rows → rows' ≡ rows ++ xs ∷ [] → xs ≡ cond (is_marked marks k) (row all k) [] → IsKept (k + 1) rows'
  keep_more k rows rows' xs l h e here =
      below_more (λ n. row rows' n ≡ cond (is_marked marks n) (row all n) []) k
      (λ n lt. row_before rows rows' xs n e (omega (arith, lt, l)) ∙ h n lt)
      (ap (row rows') (sym l) ∙ row_behind rows rows' xs e ∙ here)

  nothing : (b : Bool) → cond {A = List ℕ} b [] [] ≡ []
  nothing true = refl
  nothing false = refl

  pub kept_all : (k : ℕ) (rows : List (List ℕ)) → length rows ≡ k → length all ≤ k → IsKept k rows → (n : ℕ) → row rows n ≡ cond (is_marked marks n) (row all n) []
  kept_all k rows l e h n = elim (cases_lt n k) [
    | inl lt ↦ h n lt
    | inr ge ↦ no_row rows n (omega (arith, l, ge)) ∙ sym (ap (λ r. cond (is_marked marks n) r []) (no_row all n (omega (arith, e, ge))) ∙ nothing (is_marked marks n))
  ]

pub keep_within : (n : ℕ) (b : Bool) (xs ys : List ℕ) → AllBelow n xs → ys ≡ cond b xs [] → AllBelow n ys
keep_within n true xs ys h e = below_still n xs ys h e
keep_within n false xs ys h e = below_still n [] ys (none_below n) e

-- what is kept of a graph is one
pub kept_graph : (all rows : List (List ℕ)) (marks : List Bool) → IsGraph all → length rows ≡ length all → ((n : ℕ) → row rows n ≡ cond (is_marked marks n) (row all n) []) → IsGraph rows
kept_graph all rows marks h size each x = subst (λ (n : ℕ). AllBelow n (row rows x)) (sym size) (keep_within (length all) (is_marked marks x) (row all x) (row rows x) (h x) (each x))
