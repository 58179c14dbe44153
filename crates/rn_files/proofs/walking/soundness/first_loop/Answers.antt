use Rattle.std.proofs.Common.{ℕ, Option, subst}
use Rattle.std.specs.Prelude.{MatchOption}
use Rattle.rn_graph.specs.Graph.{rows_of}
use Rattle.rn_graph.specs.Ranks.{HasNoLoop, IsFirstLoop}
use Rattle.rn_files.proofs.FileGraphs.{loop_of_first}
use Rattle.rn_files.proofs.walking.soundness.first_loop.Goals as goal

pub returns-in-Some : goal.returns-in-Some
returns-in-Some c =
    let rows = rows_of c.args.edges.now in
    let P : Option ℕ → Type 0 = λ o. MatchOption o (HasNoLoop rows) (IsFirstLoop rows) in
    loop_of_first rows c.in-Some.first c.shortest_loop.result (subst P c.in-Some.is c.in_ok-first.ensures.least) c.shortest_loop.ensures
