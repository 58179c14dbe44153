use Rattle.std.proofs.Common.{◌≡◌, ◌+◌, ◌<◌, ◌≤◌, suc, List, Option, length, sym, subst, arith}
use Rattle.rn_assemble.specs.declared.by_key.checks.Lack.{Lack}
use Rattle.rn_assemble.specs.declared.including.pieces.Piece.{Piece}
use Rattle.rn_assemble.specs.inside.Keyed.{key_at}
use Rattle.rn_assemble.specs.inside.Pieces.{AreAllPieces, IsLeastLacking}
use Rattle.rn_assemble.proofs.KeyFaults.KnownRows.{row_of}
use Rattle.rn_assemble.proofs.KeyFaults.LeastLacks.{IsLeastUpTo, lacked_number, least_lack, met, passed, within_size}
use Rattle.rn_assemble.proofs.by_key.checks.least_lack.Goals as goal
use Rattle.rn_assemble.proofs.by_key.checks.least_lack.Goals.{in-Some, in_default}

pub least_lacking-requires-clause-all : goal.least_lacking-requires-clause-all
least_lacking-requires-clause-all c =
    let h = c.requires.1 in
    let names = c.requires.0 in
    let key = c.loop-number.number in
    let row = c.row-row.result.now in
    let below : key < length c.args.rows.now.rows.items = omega (arith, c.loop-number-test.true, c.len-number-end.ensures) in
    let row_is = row_of h.modules names c.args.rows.now h.rows_are key below row c.row-row.ensures in
    let found = c.in_ok-all_pieces.ensures h.modules (key_at names key) h.components row_is h.segments_are in
    subst (λ (ps : List Piece). AreAllPieces c.args.segments.now.list.items row ps) (sym c.deref.ensures.value) found

pub loop-number-preserved : goal.loop-number-preserved
loop-number-preserved c = record {
  least = λ modules names cs rows segments.
      let x = c.args.segments.now in
      let key = c.loop-number.number in
      let row = c.row-row.result.now in
      let below : key < length c.args.rows.now.rows.items = omega (arith, c.loop-number-test.true, c.len-number-end.ensures) in
      let row_is = row_of modules names c.args.rows.now rows key below row c.row-row.ensures in
      let least = c.least_lacking.ensures modules (key_at names key) cs row_is segments in
      let before = c.loop-number.invariant.least modules names cs rows segments in
      elim c.match-least_lacking.branch [
        | in-Some w ↦
            subst (λ (o : Option Lack). IsLeastUpTo modules names x (key + 1) o) (sym w.least-is)
            (met modules names x key w.in-Some.«module» c.loop-number.least w.lesser_lack.result before (subst (λ r. IsLeastLacking modules x (key_at names key) r) w.in-Some.is least) w.lesser_lack.ensures)
        | in_default w ↦
            subst (λ (o : Option Lack). IsLeastUpTo modules names x (key + 1) o) (sym w.least-is)
            (passed modules names x key c.loop-number.least before (subst (λ r. IsLeastLacking modules x (key_at names key) r) w.in_default.is least))
      ];
}

pub returns-clause-within : goal.returns-clause-within
returns-clause-within c =
    let h = c.requires.1 in
    let low : c.loop-number.number ≤ length c.args.rows.now.rows.items = omega (arith, c.loop-number.auto.number-end, c.len-number-end.ensures) in
    within_size h.modules c.requires.0 c.args.segments.now c.loop-number.number (length c.args.rows.now.rows.items) low c.loop-number.least (c.loop-number.invariant.least h.modules c.requires.0 h.components h.rows_are h.segments_are)

pub returns-clause-least : goal.returns-clause-least
returns-clause-least c = λ modules names cs mo no rows segments.
    let all : c.loop-number.number ≡ suc (length names) = omega (arith, c.loop-number.auto.number-end, c.loop-number-test.false, c.len-number-end.ensures, rows.size) in
    least_lack modules names c.args.segments.now mo no segments.brought (λ b k l i. lacked_number modules names c.args.segments.now rows.names_are b k i) c.loop-number.number all c.loop-number.least (c.loop-number.invariant.least modules names cs rows segments)
