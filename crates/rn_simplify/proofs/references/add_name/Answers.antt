use Rattle.std.proofs.Common.{◌++◌, append-nil, sym, ap, ◌∙◌}
use Rattle.rn_graph.specs.Graph.{open_row}
use Rattle.rn_simplify.proofs.Simplified.DefinitionNumbers.{not_numbered, one_number}
use Rattle.rn_simplify.proofs.references.add_name.Goals as goal

pub returns-in_default-clause-open : goal.returns-in_default-clause-open
returns-in_default-clause-open c =
    let es = c.args.definitions.now.entries in
    let x = c.args.name.now in
    let none = not_numbered es x (sym c.get_index_of.ensures.index ∙ c.in_default.is) in
    sym (append-nil (open_row c.args.rows.now)) ∙ ap (λ ns. open_row c.args.rows.now ++ ns) (sym none)

pub returns-in_ok-add-clause-open : goal.returns-in_ok-add-clause-open
returns-in_ok-add-clause-open c =
    let es = c.args.definitions.now.entries in
    let x = c.args.name.now in
    c.in_ok-add.ensures.«open» ∙ ap (λ ns. open_row c.args.rows.now ++ ns) (one_number es x c.in-Some.index (sym c.get_index_of.ensures.index ∙ c.in-Some.is))
