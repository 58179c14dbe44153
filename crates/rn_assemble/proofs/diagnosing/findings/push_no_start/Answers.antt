-- The start has components where it has pieces.
use Rattle.std.proofs.Common.{◌≡◌, ◌<◌, List, length, sym, ap, ◌∙◌, subst, arith}
use Rattle.rn_assemble.specs.Components.{set_components, start_key}
use Rattle.rn_assemble.specs.declared.diagnosing.findings.Finding.{Finding}
use Rattle.rn_assemble.specs.inside.Diagnosing.{AddsRank}
use Rattle.rn_assemble.proofs.Diagnoses.KeyFindings.{start_missing, start_there}
use Rattle.rn_assemble.proofs.KeyFaults.KeysOfPieces.{key_missing, key_there}
use Rattle.rn_assemble.proofs.KeyFaults.KnownRows.{row_of}
use Rattle.rn_assemble.proofs.diagnosing.findings.push_no_start.Goals as goal
use Rattle.rn_assemble.proofs.diagnosing.findings.push_no_start.Goals.{then-is_empty+in_ok-push, else-is_empty}

pub returns : goal.returns
returns c = λ modules names expanded.
    let list = c.args.segments.now.list.items in
    let cs = set_components modules in
    let row = c.row.result.now in
    let ps = c.live_pieces.new.pieces.items in
    let old = c.args.found.now.items in
    let row_is = row_of modules names c.args.rows.now expanded.rows_are 0 (omega (arith, expanded.rows_are.size)) row c.row.ensures in
    let are = c.in_ok-live_pieces.ensures.pieces modules start_key cs row_is expanded.segments_are in
    elim c.if-is_empty.branch [
      | then-is_empty+in_ok-push w ↦
          let none : length ps ≡ 0 = grind (arith, w.if-is_empty.true, c.is_empty.ensures, c.live_pieces.new.pieces.ok) in
          start_missing modules names old c.if-is_empty.found.items (key_missing modules list start_key row cs ps are none) (ap (λ v. v.items) w.found-is ∙ w.in_ok-push.ensures.items)
      | else-is_empty w ↦
          let some : 0 < length ps = grind (arith, w.if-is_empty.false, c.is_empty.ensures, c.live_pieces.new.pieces.ok) in
          subst (λ (fs : List Finding). AddsRank modules names 8 old fs) (sym (ap (λ v. v.items) w.found-is)) (start_there modules names old (key_there modules list start_key row cs ps are some))
    ]
