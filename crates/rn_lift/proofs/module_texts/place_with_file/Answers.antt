use Rattle.rn_lift.proofs.StandIns.OfPlaces.{read}
use Rattle.rn_lift.proofs.module_texts.place_with_file.Goals as goal

pub returns : goal.returns
returns c =
    let place = c.in_ok-place.place.now in
    let unit = c.in_ok-unit.unit.now in
    let given = c.in_ok-given.given.now in
    record {
      is_place = read c.deref.result.now c.args.plan.now.places.items c.args.number place c.deref.ensures.value c.in_ok-place.ensures.lookup.3.0 (c.in_ok-place.ensures.lookup.3.1 place);
      is_unit = read c.deref-2.result.now c.args.units.now.units.items place.unit unit c.deref-2.ensures.value c.in_ok-unit.ensures.lookup.3.0 (c.in_ok-unit.ensures.lookup.3.1 unit);
      is_given = read c.deref-3.result.now c.args.units.now.files.items unit.file given c.deref-3.ensures.value c.in_ok-given.ensures.lookup.3.0 (c.in_ok-given.ensures.lookup.3.1 given);
    }
