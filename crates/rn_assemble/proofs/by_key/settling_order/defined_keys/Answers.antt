use Rattle.std.proofs.Common.{◌≡◌, map, sym, ap, ◌∙◌, subst, rules, arith, IsSortedByKey}
use Rattle.std.proofs.lemmas.Fn.{always_returns_same}
use Rattle.std.proofs.lemmas.List.{take_all}
use Rattle.std.proofs.lemmas.Simd.{map-map}
use Rattle.rn_assemble.specs.declared.by_key.settling_order.FirstPlace.{FirstPlace}
use Rattle.rn_assemble.specs.declared.reading.keys.KeyId.{KeyId}
use Rattle.rn_assemble.specs.inside.Views.{key_numbers}
use Rattle.rn_assemble.specs.inside.ReferenceOrder.{AreDefinedKeys}
use Rattle.rn_assemble.proofs.Naming.FirstPlaces.{defined_in_order}
use Rattle.rn_assemble.proofs.Naming.SortedPlaces.{place_cmp, place_of, sorted_in_order}
use Rattle.rn_assemble.proofs.by_key.settling_order.defined_keys.Goals as goal

pub returns : goal.returns
returns c = λ modules names cs s rows segments.
    let x = c.args.segments.now in
    let places = c.in_ok-places.places.items in
    let ps = c.sort_by_key.new.self.items in
    let up : IsSortedByKey place_of place_cmp ps = c.in_ok-sort_by_key.ensures.sorted place_of (always_returns_same _ (λ a r. r ≡ place_of a.0.now) _ (λ a r f' k. search rules)) in
    let found = defined_in_order modules names s x cs rows.names_are segments places ps (c.in_ok-places.ensures modules names cs s rows segments) c.in_ok-sort_by_key.ensures.permutation (sorted_in_order ps up) in
    let whole = take_all c.loop-place.place-index c.deref-place-items.result.now (omega (arith, c.loop-place-test.false)) ∙ c.deref-place-items.ensures.value in
    subst (AreDefinedKeys names cs) (sym (ap key_numbers (c.loop-place.invariant ∙ ap (map (λ (p : FirstPlace). p.key)) whole) ∙ map-map (λ (k : KeyId). k.0) (λ (p : FirstPlace). p.key) ps)) found
