use Rattle.std.proofs.Common.{get_or}
use Rattle.std.proofs.lemmas.List.Elements.{Contains-get_or}
use Rattle.rn_assemble.specs.inside.Views.{names_of}
use Rattle.rn_assemble.proofs.Diagnoses.KnownSegments.{known_row}
use Rattle.rn_assemble.proofs.diagnosing.loops.places_along.Goals as goal

pub first_referring-requires : goal.first_referring-requires
first_referring-requires c =
    let passed = c.args.passed.now in
    let at = c.loop-at.at in
    let key = get_or passed at 0 in
    known_row c.args.rows.now c.args.segments.now (names_of c.args.keys.now, c.requires.known) key (c.requires.within key (Contains-get_or passed at 0 c.loop-at-test.true)) c.row-row.result.now c.row-row.ensures
