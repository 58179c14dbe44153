use Rattle.std.proofs.Common.{ℕ, Some, ap, sym, ◌∙◌, arith}
use Rattle.rn_lift.proofs.StandIns.OfPlaces.{read}
use Rattle.rn_lift.proofs.module_texts.PlaceView.brought_scope.Goals as goal

pub returns-then-place-number : goal.returns-then-place-number
returns-then-place-number c =
    let v = c.args.self.now in
    let scope = c.in_ok-scope.scope.now in
    let place = c.in_ok-place.place.now in
    let unit = c.in_ok-unit.unit.now in
    let is_entry = read c.deref-2.result.now v.plan.now.places.items scope.entry place c.deref-2.ensures.value c.in_ok-place.ensures.lookup.3.0 (c.in_ok-place.ensures.lookup.3.1 place) in
    record {
      number = c.in_ok-number.number;
      place = place;
      is_scope = read c.deref.result.now v.plan.now.scopes.items c.in_ok-number.number scope c.deref.ensures.value c.in_ok-scope.ensures.lookup.3.0 (c.in_ok-scope.ensures.lookup.3.1 scope);
      is_no_root = omega arith;
      is_entry = is_entry;
      is_place = record {
        number = scope.entry;
        unit = unit;
        is_place = is_entry;
        is_unit = read c.deref-3.result.now v.units.now.units.items place.unit unit c.deref-3.ensures.value c.in_ok-unit.ensures.lookup.3.0 (c.in_ok-unit.ensures.lookup.3.1 unit);
        is_named = c.in-Some.is ∙ ap (λ (n : ℕ). Some n) (sym c.if-unit-file.true);
        is_grammar = c.if-unit-grammar.true;
        in_scope = c.if-place-number.true;
      };
    }
