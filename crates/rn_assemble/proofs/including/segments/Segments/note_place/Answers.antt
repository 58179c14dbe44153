use Rattle.std.proofs.Common.{arith}
use Rattle.std.proofs.lemmas.Option.{slice_get_read}
use Rattle.rn_assemble.proofs.Expansion.SegmentPlaces.{noted_none, noted_set}
use Rattle.rn_assemble.proofs.including.segments.Segments.note_place.Goals as goal

pub returns-in_ok-push_at-clause-noted : goal.returns-in_ok-push_at-clause-noted
returns-in_ok-push_at-clause-noted c =
    let rows = c.args.self.now.places.items in
    noted_set rows c.args.«module».0 c.args.number c.args.place c.index_mut.result.now c.push_at.new.lists (slice_get_read rows c.len.result c.args.«module».0 c.index_mut.result.now (omega (arith, c.len.ensures)) c.if-module-len.true c.index_mut.ensures.value) c.in_ok-push_at.ensures

pub returns-else-module-len-clause-noted : goal.returns-else-module-len-clause-noted
returns-else-module-len-clause-noted c = noted_none c.args.self.now.places.items c.args.«module».0 c.args.number c.args.place (omega (arith, c.if-module-len.false, c.len.ensures))
