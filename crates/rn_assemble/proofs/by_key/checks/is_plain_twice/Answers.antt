use Rattle.std.proofs.Common.{sym, ap, ◌∙◌}
use Rattle.std.specs.Prelude.{count_by, sum_by}
use Rattle.std.proofs.lemmas.List.{take_all}
use Rattle.rn_assemble.specs.Components.{Component}
use Rattle.rn_assemble.specs.Combine.{is_plain}
use Rattle.rn_assemble.proofs.KeyFaults.PieceMethods.{plain_in, pieces_plain, twice_by}
use Rattle.rn_assemble.proofs.by_key.checks.is_plain_twice.Goals as goal

pub returns : goal.returns
returns c = λ modules list k cs h.
    let row = c.args.row.now in
    let pieces = c.args.pieces.now in
    let all = ap (sum_by (plain_in row)) (take_all c.loop-piece.piece-index pieces c.loop-piece-test.false) in
    let are = ap (count_by (λ (d : Component). is_plain d.method)) (sym h.are) ∙ pieces_plain modules list k row pieces h.each ∙ sym all in
    twice_by c.loop-piece.count _ _ are c.loop-piece.invariant.few c.loop-piece.invariant.more
