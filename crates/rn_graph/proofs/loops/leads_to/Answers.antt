use Rattle.std.proofs.Common.{ℕ, List, subst}
use Rattle.std.specs.Prelude.{Contains, Decides, nat_eq}
use Rattle.std.proofs.lemmas.Bool.Decides.{Decides-eqb}
use Rattle.std.proofs.lemmas.List.Elements.{Decides-contains, contains_decides}
use Rattle.rn_graph.proofs.loops.leads_to.Goals as goal

pub returns : goal.returns
returns c =
    let row = c.row_at.result.now in
    let node = c.args.node in
    subst (λ (l : List ℕ). Decides c.contains.result (Contains l node)) c.row_at.ensures
    (Decides-contains row node c.contains.result (contains_decides nat_eq Decides-eqb row node c.contains.result c.contains.ensures.cases))
