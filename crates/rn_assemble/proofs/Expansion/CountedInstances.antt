-- A count of instances that stops at a limit.
use Rattle.std.proofs.Common.{◌≡◌, ℕ, zero, suc, ◌+◌, ◌-◌, ◌<◌, ◌≤◌, List, length, get_or, take, min, ap, ◌∙◌, arith}
use Rattle.std.specs.Prelude.{sum_by}
use Rattle.std.proofs.lemmas.List.{take_all}
use Rattle.std.proofs.lemmas.List.Sums.{sum_by_more}
use Rattle.rn_graph.specs.Graph.{row}
use Rattle.rn_assemble.specs.inside.Instances.{instances_of}

-- the count after the first i includes
pub record CountsTo (rows : List (List ℕ)) (most count i : ℕ) (xs : List ℕ) : Type 0 where
  pub some : 0 < count
  pub up_to : count ≤ most
  pub counted : (depth : ℕ) → most ≤ suc depth → count ≡ min most (1 + sum_by (instances_of depth rows) (take i xs))

pub counts_more : (rows : List (List ℕ)) (most count i r : ℕ) (xs : List ℕ) → i < length xs → CountsTo rows most count i xs → r ≤ most - count
    → ((depth : ℕ) → most - count ≤ depth → r ≡ min (most - count) (instances_of depth rows (get_or xs i 0))) → CountsTo rows most (count + r) (i + 1) xs
counts_more rows most count i r xs h c u g = record {
  some = omega (arith, c.some);
  up_to = omega (arith, c.up_to, u);
  counted = λ d l. omega (arith, c.some, c.up_to, c.counted d l, g d (omega (arith, l, c.some)), sum_by_more (instances_of d rows) xs i 0 h);
}

pub counts_all : (rows : List (List ℕ)) (most count i x : ℕ) → length (row rows x) ≤ i → 0 < most → CountsTo rows most count i (row rows x) → (depth : ℕ) → most ≤ depth → count ≡ min most (instances_of depth rows x)
counts_all rows most count i x h p c zero l = absurd (omega (arith, p, l))
counts_all rows most count i x h p c (suc d) l = c.counted d l ∙ ap (λ (xs : List ℕ). min most (1 + sum_by (instances_of d rows) xs)) (take_all i (row rows x) h)
