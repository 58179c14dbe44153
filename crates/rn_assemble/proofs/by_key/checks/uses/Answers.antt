use Rattle.std.proofs.Common.{◌≡◌, true, sym, ap, ◌∙◌}
use Rattle.std.specs.List.{list_any}
use Rattle.std.proofs.lemmas.List.{take_all}
use Rattle.std.proofs.lemmas.List.Folds.{list_any_at}
use Rattle.rn_assemble.specs.Components.{Component}
use Rattle.rn_assemble.specs.inside.Methods.{is_method}
use Rattle.rn_assemble.proofs.KeyFaults.PieceMethods.{piece_uses, pieces_used}
use Rattle.rn_assemble.proofs.by_key.checks.uses.Goals as goal

pub returns-then-some_uses : goal.returns-then-some_uses
returns-then-some_uses c = λ modules list k cs h.
    let test = is_method c.args.method in
    let row = c.args.row.now in
    let pieces = c.args.pieces.now in
    let found : list_any (piece_uses test row) pieces ≡ true = list_any_at (piece_uses test row) pieces c.loop-piece.piece-index _ c.loop-piece-test.true (sym c.some_uses.ensures ∙ c.if-some_uses.true) in
    sym (ap (list_any (λ (d : Component). test d.method)) (sym h.are) ∙ pieces_used modules list k row test pieces h.each ∙ found)

pub returns : goal.returns
returns c = λ modules list k cs h.
    let test = is_method c.args.method in
    let row = c.args.row.now in
    let pieces = c.args.pieces.now in
    let none = ap (list_any (piece_uses test row)) (sym (take_all c.loop-piece.piece-index pieces c.loop-piece-test.false)) ∙ c.loop-piece.invariant.none in
    sym (ap (list_any (λ (d : Component). test d.method)) (sym h.are) ∙ pieces_used modules list k row test pieces h.each ∙ none)
