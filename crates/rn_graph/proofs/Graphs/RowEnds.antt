-- Where the rows of a graph begin and end among its nodes.
use Rattle.std.proofs.Common.{◌≡◌, ℕ, Bool, true, false, cond, Result, Ok, Err, ◌+◌, ◌-◌, ◌<◌, ◌≤◌, List, [], ◌∷◌, ◌++◌, length, get_or, take, drop, refl, sym, ap, subst, ◌∙◌, zero, suc, arith}
use Rattle.std.specs.List.{slice_range}
use Rattle.std.proofs.lemmas.List.{drop-take, take-take, take_rest, take-append-le, drop-append-le, length-take-le}
use Rattle.std.proofs.Math.Seq.{drop-length}
use Rattle.std.specs.Prelude.{OnErr}
use Rattle.rn_graph.specs.Graph.{rows_from}
use Rattle.rn_graph.specs.inside.RowEnds.{AreEnds}

pub length_rows : (ns : List ℕ) (b : ℕ) (es : List ℕ) → length (rows_from ns b es) ≡ length es
length_rows ns b [] = refl
length_rows ns b (e ∷ es) = omega (arith, length_rows ns e es)

pub row_is : (ns : List ℕ) (b : ℕ) (es : List ℕ) (k : ℕ) → k < length es → get_or (rows_from ns b es) k [] ≡ slice_range ns (get_or (b ∷ es) k 0) (get_or es k 0)
row_is ns b [] k h = absurd (omega arith)
row_is ns b (e ∷ es) zero h = refl
row_is ns b (e ∷ es) (suc k) h = row_is ns e es k (omega arith)

first_le : (n b : ℕ) (es : List ℕ) → AreEnds n b es → b ≤ n
first_le n b [] a = a
first_le n b (e ∷ es) a = omega (arith, a.0, first_le n e es a.1)

pub begin_le : (n b : ℕ) (es : List ℕ) (k : ℕ) → AreEnds n b es → k < length es → get_or (b ∷ es) k 0 ≤ get_or es k 0
begin_le n b [] k a h = absurd (omega arith)
begin_le n b (e ∷ es) zero a h = a.0
begin_le n b (e ∷ es) (suc k) a h = begin_le n e es k a.1 (omega arith)

pub end_le : (n b : ℕ) (es : List ℕ) (k : ℕ) → AreEnds n b es → k < length es → get_or es k 0 ≤ n
end_le n b [] k a h = absurd (omega arith)
end_le n b (e ∷ es) zero a h = first_le n e es a.1
end_le n b (e ∷ es) (suc k) a h = end_le n e es k a.1 (omega arith)

pub last_le : (n b : ℕ) (es : List ℕ) → AreEnds n b es → get_or (b ∷ es) (length es) 0 ≤ n
last_le n b [] a = a
last_le n b (e ∷ es) a = last_le n e es a.1

-- the rows end within as many nodes as the last of them ends at
pub ends_within : (n m b : ℕ) (es : List ℕ) → AreEnds n b es → get_or (b ∷ es) (length es) 0 ≤ m → AreEnds m b es
ends_within n m b [] a h = h
ends_within n m b (e ∷ es) a h = (a.0, ends_within n m e es a.1 h)

pub ends_push : (n b : ℕ) (es : List ℕ) → AreEnds n b es → AreEnds n b (es ++ n ∷ [])
ends_push n b [] a = (a, omega arith)
ends_push n b (e ∷ es) a = (a.0, ends_push n e es a.1)

last_end : (b : ℕ) (es : List ℕ) (n : ℕ) → get_or (b ∷ (es ++ n ∷ [])) (length (es ++ n ∷ [])) 0 ≡ n
last_end b [] n = refl
last_end b (e ∷ es) n = last_end e es n

rows_push : (ns : List ℕ) (b : ℕ) (es : List ℕ) (n : ℕ) → rows_from ns b (es ++ n ∷ []) ≡ rows_from ns b es ++ slice_range ns (get_or (b ∷ es) (length es) 0) n ∷ []
rows_push ns b [] n = refl
rows_push ns b (e ∷ es) n = ap (λ rs. slice_range ns b e ∷ rs) (rows_push ns e es n)

-- the rest of the nodes as one row more
pub rest_ended : (ns : List ℕ) (es : List ℕ) → rows_from ns 0 (es ++ length ns ∷ []) ≡ rows_from ns 0 es ++ drop (get_or (0 ∷ es) (length es) 0) ns ∷ []
rest_ended ns es =
    rows_push ns 0 es (length ns) ∙ ap (λ xs. rows_from ns 0 es ++ xs ∷ []) (take_rest ns (get_or (0 ∷ es) (length es) 0))

pub no_rest : (ns : List ℕ) (es : List ℕ) → drop (get_or (0 ∷ (es ++ length ns ∷ [])) (length (es ++ length ns ∷ [])) 0) ns ≡ []
no_rest ns es = ap (λ n. drop n ns) (last_end 0 es (length ns)) ∙ drop-length ns

part_within : (m b e : ℕ) (ns : List ℕ) → b ≤ e → e ≤ m → slice_range ns b e ≡ drop b (take e (take m ns))
part_within m b e ns h l =
    let end : b + (e - b) ≡ e = omega arith in
    sym (drop-take b (e - b) ns) ∙ ap (λ (n : ℕ). drop b (take n ns)) end ∙ ap (λ (xs : List ℕ). drop b xs) (sym (take-take e m ns l))

-- rows that end within the nodes that two lists have in common
pub rows_same : (m b : ℕ) (ns ns' : List ℕ) (es : List ℕ) → AreEnds m b es → take m ns ≡ take m ns' → rows_from ns b es ≡ rows_from ns' b es
rows_same m b ns ns' [] a q = refl
rows_same m b ns ns' (e ∷ es) a q =
    let l = first_le m e es a.1 in
    let here : slice_range ns b e ≡ slice_range ns' b e = part_within m b e ns a.0 l ∙ ap (λ (xs : List ℕ). drop b (take e xs)) q ∙ sym (part_within m b e ns' a.0 l) in
    let behind = rows_same m e ns ns' es a.1 q in cc

rows_behind : (ns more : List ℕ) (es : List ℕ) → AreEnds (length ns) 0 es → rows_from (ns ++ more) 0 es ≡ rows_from ns 0 es
rows_behind ns more es a =
    let same : take (length ns) (ns ++ more) ≡ take (length ns) ns = take-append-le (length ns) ns more (omega arith) in
    rows_same (length ns) 0 (ns ++ more) ns es a same

-- more nodes behind all rows, or none
module _ (n : ℕ) (ns ns' more : List ℕ) (es : List ℕ) (a : AreEnds n 0 es) (l : length ns ≡ n) where
  pub rows_kept : ns' ≡ ns ++ more → rows_from ns' 0 es ≡ rows_from ns 0 es
  rows_kept q = ap (λ (xs : List ℕ). rows_from xs 0 es) q ∙ rows_behind ns more es (subst (λ (m : ℕ). AreEnds m 0 es) (sym l) a)

  pub rest_grows : ns' ≡ ns ++ more → drop (get_or (0 ∷ es) (length es) 0) ns' ≡ drop (get_or (0 ∷ es) (length es) 0) ns ++ more
  rest_grows q =
      ap (λ (xs : List ℕ). drop (get_or (0 ∷ es) (length es) 0) xs) q
      ∙ drop-append-le (get_or (0 ∷ es) (length es) 0) ns more (omega (arith, last_le n 0 es a, l))

  pub ends_kept : (n' : ℕ) (b : Bool) → n' ≡ cond b (n + length more) n → AreEnds n' 0 es
  ends_kept n' true q = ends_within n n' 0 es a (omega (arith, last_le n 0 es a, q))
  ends_kept n' false q = ends_within n n' 0 es a (omega (arith, last_le n 0 es a, q))

-- the rest of the nodes is ended, or not
pub ended_if : (n : ℕ) (b : Bool) (es es' : List ℕ) → AreEnds n 0 es → es' ≡ cond b (es ++ n ∷ []) es → AreEnds n 0 es'
ended_if n true es es' a q = subst (λ (ds : List ℕ). AreEnds n 0 ds) (sym q) (ends_push n 0 es a)
ended_if n false es es' a q = subst (λ (ds : List ℕ). AreEnds n 0 ds) (sym q) a

-- the nodes behind all rows are dropped
module _ (n : ℕ) (ns cut : List ℕ) (es : List ℕ) (a : AreEnds n 0 es) (l : length ns ≡ n) (is : cut ≡ take (get_or (0 ∷ es) (length es) 0) ns) where
  abbrev last : ℕ
  last = get_or (0 ∷ es) (length es) 0

  size : length cut ≡ last
  size = ap (λ (xs : List ℕ). length xs) is ∙ length-take-le last ns (omega (arith, last_le n 0 es a, l))

  pub cut_ends : (m : ℕ) → length cut ≡ m → AreEnds m 0 es
  cut_ends m h = ends_within n m 0 es a (omega (arith, h, size))

  pub cut_rows : rows_from cut 0 es ≡ rows_from ns 0 es
  cut_rows =
      let same : take last (take last ns) ≡ take last ns = take-take last last ns (omega arith) in
      ap (λ (xs : List ℕ). rows_from xs 0 es) is ∙ rows_same last 0 (take last ns) ns es (ends_within n last 0 es a (omega arith)) same

  pub cut_rest : drop (get_or (0 ∷ es) (length es) 0) cut ≡ []
  cut_rest = ap (λ (m : ℕ). drop m cut) (sym size) ∙ drop-length cut

pub at_err : {T E P : Type 0} (r : Result T E) → P → OnErr r P
at_err (Ok x) p = tt
at_err (Err x) p = p
