-- A path of edges, or of steps, with one more before it or behind it.
use Rattle.std.proofs.Common.{ℕ, List, Contains}
use Rattle.rn_text.specs.Texts.{Text}
use Rattle.rn_pattern.specs.References.{Reaches, by_one, by_more}
use Rattle.rn_graph.specs.Graph.{row}
use Rattle.rn_graph.specs.Ranks.{Leads, by_edge, and_edge}

pub lead_first : {rows : List (List ℕ)} {k m n : ℕ} → Contains (row rows k) m → Leads rows m n → Leads rows k n
lead_first c (by_edge d) = and_edge (by_edge c) d
lead_first c (and_edge l d) = and_edge (lead_first c l) d

pub reach_last : {Step : Text → Text → Type 0} {a b c : Text} → Reaches Step a b → Step b c → Reaches Step a c
reach_last (by_one s) t = by_more s (by_one t)
reach_last (by_more s r) t = by_more s (reach_last r t)
