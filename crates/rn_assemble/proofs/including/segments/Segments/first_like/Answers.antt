use Rattle.std.proofs.Common.{◌≡◌, ℕ, List, Some, get_or, length, refl, sym, ◌∙◌, subst, Contains}
use Rattle.std.specs.Prelude.{slice_get}
use Rattle.std.proofs.lemmas.List.Elements.{Contains-get_or}
use Rattle.std.proofs.lemmas.Option.{slice_get_read}
use Rattle.std.proofs.lemmas.Slice.Eq.{bytes_eq-Decides}
use Rattle.rn_assemble.specs.declared.including.segments.Segment.{Segment}
use Rattle.rn_assemble.proofs.including.segments.Segments.first_like.Goals as goal

pub returns-then-eq : goal.returns-then-eq
returns-then-eq c =
    let places = c.places_of-place-items.result.now in
    let place = get_or places c.loop-place.place-index 0 in
    let segment = c.in-Some.segment.now in
    let at = c.in-Some.ensures.lookup.3 in
    record {
      place = place;
      segment = segment;
      among = subst (λ (l : List ℕ). Contains l place) c.places_of-place-items.ensures (Contains-get_or places c.loop-place.place-index 0 c.loop-place-test.true);
      is = subst (λ (l : List Segment). slice_get l place ≡ Some segment) c.deref.ensures.value (slice_get_read c.deref.result.now (length c.deref.result.now) place segment refl at.0 (at.1 segment));
      under = sym c.as_str.ensures.value ∙ (bytes_eq-Decides c.as_str.result.now c.as_str-in-loop-place.result.now).0 (sym c.if-eq.ensures) ∙ c.as_str-in-loop-place.ensures.value;
      first_is = refl;
    }
