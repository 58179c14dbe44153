use Rattle.std.proofs.Common.{◌<◌, List, length, sym, subst, ◌∙◌, arith}
use Rattle.std.proofs.lemmas.Bool.{false≢true}
use Rattle.rn_assemble.specs.inside.Methods.{HasFault}
use Rattle.rn_assemble.specs.declared.including.pieces.Piece.{Piece}
use Rattle.rn_assemble.specs.inside.Keyed.{key_at}
use Rattle.rn_assemble.specs.inside.Pieces.{ArePieces}
use Rattle.rn_assemble.proofs.KeyFaults.KnownRows.{below_next, row_of}
use Rattle.rn_assemble.proofs.by_key.checks.least_at_fault.Goals as goal

pub has_fault-requires : goal.has_fault-requires
has_fault-requires c =
    let h = c.requires.1 in
    let names = c.requires.0 in
    let list = c.args.segments.now.list.items in
    let key = c.loop-number.number in
    let row = c.row-row.result.now in
    let below : key < length c.args.rows.now.rows.items = omega (arith, c.loop-number-test.true, c.len-number-end.ensures) in
    let row_is = row_of h.modules names c.args.rows.now h.rows_are key below row c.row-row.ensures in
    let found = c.in_ok-live_pieces.ensures.pieces h.modules (key_at names key) h.components row_is h.segments_are in
    (list, (subst (λ (ps : List Piece). ArePieces h.modules list (key_at names key) row h.components ps) (sym c.deref.ensures.value) found).each)

pub returns-then-has_fault : goal.returns-then-has_fault
returns-then-has_fault c = λ modules names cs o rows segments.
    let list = c.args.segments.now.list.items in
    let key = c.loop-number.number in
    let row = c.row-row.result.now in
    let below : key < length c.args.rows.now.rows.items = omega (arith, c.loop-number-test.true, c.len-number-end.ensures) in
    let row_is = row_of modules names c.args.rows.now rows key below row c.row-row.ensures in
    let found = c.in_ok-live_pieces.ensures.pieces modules (key_at names key) cs row_is segments in
    let pieces = subst (λ (ps : List Piece). ArePieces modules list (key_at names key) row cs ps) (sym c.deref.ensures.value) found in
    (omega (arith, below, rows.size), (c.has_fault.ensures modules list (key_at names key) cs pieces).0 c.if-has_fault.true, c.loop-number.invariant.none modules names cs rows segments)

pub loop-number-preserved : goal.loop-number-preserved
loop-number-preserved c = record {
  none = λ modules names cs rows segments.
      let list = c.args.segments.now.list.items in
      let key = c.loop-number.number in
      let row = c.row-row.result.now in
      let below : key < length c.args.rows.now.rows.items = omega (arith, c.loop-number-test.true, c.len-number-end.ensures) in
      let row_is = row_of modules names c.args.rows.now rows key below row c.row-row.ensures in
      let found = c.in_ok-live_pieces.ensures.pieces modules (key_at names key) cs row_is segments in
      let pieces = subst (λ (ps : List Piece). ArePieces modules list (key_at names key) row cs ps) (sym c.deref.ensures.value) found in
      below_next (λ n. ¬ HasFault c.args.fault cs (key_at names n)) key (c.loop-number.invariant.none modules names cs rows segments)
      (λ m. false≢true (sym c.if-has_fault.false ∙ (c.has_fault.ensures modules list (key_at names key) cs pieces).1 m));
}
