-- The first two of one piece more.
use Rattle.std.proofs.Common.{[], take, sym, subst}
use Rattle.std.proofs.lemmas.List.{take_all, take_more}
use Rattle.rn_assemble.specs.inside.Diagnosing.{AreFirstTwo, meets}
use Rattle.rn_assemble.proofs.Diagnoses.Occurrences.{of_more, of_none}
use Rattle.rn_assemble.proofs.diagnosing.occurrences.first_two.Goals as goal

pub loop-piece-init : goal.loop-piece-init
loop-piece-init c = subst (AreFirstTwo c.args.row.now [] (meets c.args.method)) (sym c.new-found.ensures.items) (of_none c.args.row.now (meets c.args.method))

pub loop-piece-preserved : goal.loop-piece-preserved
loop-piece-preserved c =
    let row = c.args.row.now in
    let pieces = c.args.pieces.now in
    let test = meets c.args.method in
    let i = c.loop-piece.piece-index in
    subst (λ ps. AreFirstTwo row ps test c.keep_two.new.found.items) (sym (take_more pieces i _ c.loop-piece-test.true))
    (of_more row test (take i pieces) _ c.loop-piece.found.items c.push_occurrences.new.found.items c.keep_two.new.found.items c.loop-piece.invariant c.in_ok-push_occurrences.ensures c.in_ok-keep_two.ensures)

pub returns : goal.returns
returns c =
    let all = take_all c.loop-piece.piece-index c.args.pieces.now c.loop-piece-test.false in
    subst (λ ps. AreFirstTwo c.args.row.now ps (meets c.args.method) c.loop-piece.found.items) all c.loop-piece.invariant
