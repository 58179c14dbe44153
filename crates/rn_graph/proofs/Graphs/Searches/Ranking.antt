-- Ranks of the groups that a search closed, by one step each.
use Rattle.std.proofs.Common.{◌≡◌, ℕ, ◌+◌, ◌<◌, inl, inr, cond, List, [], ◌∷◌, ◌++◌, length, set, replicate, sym, ap, ◌∙◌, subst, arith}
use Rattle.std.specs.Prelude.{Option, Some, None, count_by}
use Rattle.std.specs.Option.{is_some}
use Rattle.std.proofs.lemmas.List.{length_push, length-replicate, get_or-replicate, get_or_past}
use Rattle.std.proofs.lemmas.List.Sums.{sum_by-set}
use Rattle.std.proofs.lemmas.Bool.{cases_lt}
use Rattle.rn_graph.specs.Ranks.{rank_of}
use Rattle.rn_graph.specs.inside.Searching.{RankingBy, place_of}
use Rattle.rn_graph.proofs.Graphs.Searches.KeptGroups.{closed_before}

pub none_met : (n : ℕ) (places : List (Option ℕ)) → places ≡ replicate n None → (x : ℕ) → place_of places x ≡ None
none_met n places m x = ap (λ (ms : List (Option ℕ)). place_of ms x) m ∙ (elim (cases_lt x n) [
  | inl h ↦ get_or-replicate n x None None h
  | inr h ↦ get_or_past (replicate n None) x None (omega (arith, h, length-replicate {A = Option ℕ} n None))
])

no_rank : (n : ℕ) (ranks : List ℕ) → ranks ≡ replicate n 0 → (x : ℕ) → rank_of ranks x ≡ 0
no_rank n ranks m x = ap (λ (ms : List ℕ). rank_of ms x) m ∙ (elim (cases_lt x n) [
  | inl h ↦ get_or-replicate n x 0 0 h
  | inr h ↦ get_or_past (replicate n 0) x 0 (omega (arith, h, length-replicate {A = ℕ} n 0))
])

module _ (rows : List (List ℕ)) (places : List (Option ℕ)) (stack : List ℕ) where
  pub none_ranked : (ranks : List ℕ) → places ≡ replicate (length rows) None → stack ≡ [] → ranks ≡ replicate (length rows) 0 → RankingBy rows places stack 0 ranks
  none_ranked ranks m s r = record {
    ranks_size = ap (λ (xs : List ℕ). length xs) r ∙ length-replicate {A = ℕ} (length rows) 0;
    counted = omega (arith, ap (λ (xs : List ℕ). length xs) s);
    within = λ x. omega (arith, no_rank (length rows) ranks r x);
    below = λ x c. let n = none_met (length rows) places m x in let e = c.1 in absurd (cc);
    falls = λ x y c. let n = none_met (length rows) places m x in let e = c.1 in absurd (cc);
  }

  pub entered_ranked : (closed : ℕ) (ranks : List ℕ) (x p : ℕ) (stack' : List ℕ) → RankingBy rows places stack closed ranks → x < length places → place_of places x ≡ None → stack' ≡ stack ++ x ∷ [] → RankingBy rows (set places x (Some p)) stack' closed ranks
  entered_ranked closed ranks x p stack' w h new e = subst (λ (s : List ℕ). RankingBy rows (set places x (Some p)) s closed ranks) (sym e) (record {
    ranks_size = w.ranks_size;
    counted = omega (arith, one_more, w.counted, length_push stack x);
    within = w.within;
    below = λ y c. w.below y (closed_before places stack x p y c);
    falls = λ y z c. w.falls y z (closed_before places stack x p y c);
  })
    where
      one_more : count_by is_some (set places x (Some p)) ≡ count_by is_some places + 1
      one_more =
          let s = sum_by-set (λ (o : Option ℕ). cond {A = ℕ} (is_some o) 1 0) places x (Some p) None h in
          let z : ◌≡◌ {A = ℕ} (cond (is_some (place_of places x)) 1 0) 0 = ap (λ (o : Option ℕ). cond {A = ℕ} (is_some o) 1 0) new in
          omega (arith, s, z)
