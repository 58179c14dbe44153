-- Nodes to which edges lead, marked row after row.
use Rattle.std.proofs.Common.{◌≡◌, ◌≢◌, ℕ, suc, ◌+◌, ◌<◌, Bool, true, false, List, [], ◌∷◌, ◌++◌, length, get_or, set, take, filter, Option, Some, None, refl, sym, ap, ◌∙◌, arith, append-nil, eqb, cond}
use Rattle.std.specs.Prelude.{not, ◌||◌}
use Rattle.std.specs.List.{concat, cons_option, enumerate_from, filter_map, list_any, range_with_len}
use Rattle.std.proofs.lemmas.Bool.{eq-eqb, eqb-true, false≢true}
use Rattle.std.proofs.lemmas.Grind.{get_or-set_at}
use Rattle.std.proofs.lemmas.List.{get_or-set_other, take_more}
use Rattle.std.proofs.lemmas.List.Folds.{concat-append, list_any-append, list_any_more}
use Rattle.rn_graph.specs.Graph.{is_marked, row}
use Rattle.rn_assemble.specs.declared.reading.named_modules.ModuleId.{ModuleId}
use Rattle.rn_assemble.specs.inside.Inclusions.{entries}
use Rattle.rn_assemble.specs.inside.Views.{module_numbers}

or_last : (a b : Bool) → true ≡ (a || (b || true))
or_last true b = refl
or_last false true = refl
or_last false false = refl

or_none : (a b : Bool) → (a || b) ≡ (a || (b || false))
or_none true b = refl
or_none false true = refl
or_none false false = refl

-- one mark more
marked_at : (t b : Bool) (seen : List Bool) (n x : ℕ) (a : Bool) → eqb x n ≡ t → n < length seen → is_marked seen x ≡ (b || a) → is_marked (set seen n true) x ≡ (b || (a || t))
marked_at true b seen n x a e l h = get_or-set_at seen n x true false (eqb-true x n e) l ∙ or_last b a
marked_at false b seen n x a e l h =
    let other : x ≢ n = λ is. false≢true (sym e ∙ eq-eqb x n is) in
    get_or-set_other seen n x true false other ∙ h ∙ or_none b a

pub mark_more : (seen seen' : List Bool) (row : List ℕ) (i x : ℕ) (b : Bool) → i < length row → get_or row i 0 < length seen → seen' ≡ set seen (get_or row i 0) true → is_marked seen x ≡ (b || list_any (λ y. eqb x y) (take i row))
    → is_marked seen' x ≡ (b || list_any (λ y. eqb x y) (take (i + 1) row))
mark_more seen seen' row i x b l below e h =
    ap (λ s. is_marked s x) e
    ∙ marked_at (eqb x (get_or row i 0)) b seen (get_or row i 0) x (list_any (λ y. eqb x y) (take i row)) refl below h
    ∙ sym (ap (λ a. b || a) (list_any_more (λ y. eqb x y) row i 0 l))

pub mark_none : (b : Bool) → b ≡ (b || false)
mark_none true = refl
mark_none false = refl

-- one row more
pub row_marked : (seen seen' : List Bool) (rows : List (List ℕ)) (k x : ℕ) → k < length rows → is_marked seen x ≡ list_any (λ y. eqb x y) (concat (take k rows)) → is_marked seen' x ≡ (is_marked seen x || list_any (λ y. eqb x y) (row rows k))
    → is_marked seen' x ≡ list_any (λ y. eqb x y) (concat (take (k + 1) rows))
row_marked seen seen' rows k x l h e =
    e
    ∙ ap (λ b. b || list_any (λ y. eqb x y) (row rows k)) h
    ∙ sym (ap (λ rs. list_any (λ y. eqb x y) (concat rs)) (take_more rows k [] l)
    ∙ ap (list_any (λ y. eqb x y)) (concat-append (take k rows) (row rows k ∷ []) ∙ ap (λ r. concat (take k rows) ++ r) (append-nil (row rows k)))
    ∙ list_any-append (λ y. eqb x y) (concat (take k rows)) (row rows k))

-- ---- the nodes without a mark, in order

-- the module of a mark that is not set
abbrev pub unmarked : ℕ × Bool → Option ModuleId
unmarked p = cond (not p.1) (Some (record { 0 = p.0 })) None

picked_at : (n : ℕ) (b : Bool) (ms : List ModuleId) → module_numbers (cons_option (unmarked (n, b)) ms) ≡ cond (not b) (n ∷ module_numbers ms) (module_numbers ms)
picked_at n true ms = refl
picked_at n false ms = refl

picked : (test : ℕ → Bool) (seen : List Bool) (n : ℕ) → ((k : ℕ) → is_marked seen k ≡ test (n + k)) → module_numbers (filter_map unmarked (enumerate_from n seen)) ≡ filter (λ x. not (test x)) (range_with_len n (length seen))
picked test [] n h = refl
picked test (b ∷ seen) n h =
    let here : n + 0 ≡ n = omega arith in
    let rest = picked test seen (n + 1) (λ k. let e : n + suc k ≡ n + 1 + k = omega arith in h (suc k) ∙ ap test e) in
    let kept = filter (λ x. not (test x)) (range_with_len (n + 1) (length seen)) in
    picked_at n b (filter_map unmarked (enumerate_from (n + 1) seen)) ∙ ap (λ ns. cond (not b) (n ∷ ns) ns) rest ∙ ap (λ a. cond (not a) (n ∷ kept) kept) (h 0 ∙ ap test here)

pub unmarked_entries : (seen : List Bool) (rows : List (List ℕ)) → length seen ≡ length rows → ((x : ℕ) → is_marked seen x ≡ list_any (λ y. eqb x y) (concat rows)) → module_numbers (filter_map unmarked (enumerate_from 0 seen)) ≡ entries rows
unmarked_entries seen rows size h =
    picked (λ x. list_any (λ y. eqb x y) (concat rows)) seen 0 (λ k. let e : k ≡ 0 + k = omega arith in h k ∙ ap (λ x. list_any (λ y. eqb x y) (concat rows)) e)
    ∙ ap (λ n. filter (λ x. not (list_any (λ y. eqb x y) (concat rows))) (range_with_len 0 n)) size
