-- The keys of a loop have rows.
use Rattle.std.proofs.Common.{ℕ, ◌<◌, List, [], ◌∷◌, ⊎_elim, length, subst, arith}
use Rattle.std.specs.Prelude.{slice_index_or}
use Rattle.rn_graph.specs.Graph.{AllBelow}
use Rattle.rn_graph.specs.Loops.{LeadOnTo}
use Rattle.rn_graph.proofs.Graphs.FirstLoop.{source_within}
use Rattle.rn_pattern.proofs.Ordered.InOrder.{contains_cases}

pub loop_below : (rows : List (List ℕ)) (xs : List ℕ) (y : ℕ) → LeadOnTo rows xs y → AllBelow (length rows) xs
loop_below rows [] y h z c = absurd (omega (arith, c.1))
loop_below rows (x ∷ xs) y h z c = ⊎_elim (λ e. subst (λ k. k < length rows) e (source_within rows x (slice_index_or xs 0 y) h.0)) (λ d. loop_below rows xs y h.1 z d) (contains_cases x z xs c)
