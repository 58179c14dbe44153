-- How often modules are read, one inside the other, where each row lists the modules that a module includes (RELAX NG 2001, 4.7).
use Rattle.std.specs.Prelude.{ℕ, zero, suc, ◌+◌, List, sum_by}
use Rattle.rn_graph.specs.Graph.{row}

-- a module counts one, and the instances of each of its includes, followed at most depth times one inside the other
abbrev pub instances_of : ℕ → List (List ℕ) → ℕ → ℕ
instances_of zero rows x = 1
instances_of (suc depth) rows x = 1 + sum_by (instances_of depth rows) (row rows x)
