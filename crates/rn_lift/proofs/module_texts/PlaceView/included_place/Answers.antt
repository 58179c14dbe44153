use Rattle.std.proofs.Common.{ℕ, Some, ap, sym, ◌∙◌}
use Rattle.rn_lift.proofs.StandIns.OfPlaces.{read}
use Rattle.rn_lift.proofs.module_texts.PlaceView.included_place.Goals as goal

pub returns-then-place-self : goal.returns-then-place-self
returns-then-place-self c =
    let v = c.args.self.now in
    let place = c.in_ok-place.place.now in
    let unit = c.in_ok-unit.unit.now in
    record {
      number = c.in_ok-number.number;
      unit = unit;
      is_place = read c.deref.result.now v.plan.now.places.items c.in_ok-number.number place c.deref.ensures.value c.in_ok-place.ensures.lookup.3.0 (c.in_ok-place.ensures.lookup.3.1 place);
      is_unit = read c.deref-2.result.now v.units.now.units.items place.unit unit c.deref-2.ensures.value c.in_ok-unit.ensures.lookup.3.0 (c.in_ok-unit.ensures.lookup.3.1 unit);
      is_named = sym c.in_ok-file.ensures ∙ ap (λ (n : ℕ). Some n) (sym c.if-unit-file.true);
      is_grammar = c.if-unit-eq0.true;
      in_scope = c.if-place-self.true;
    }
