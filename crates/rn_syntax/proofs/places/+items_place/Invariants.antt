-- The first place in the items is the first in those that are left.
use Rattle.std.proofs.Common.{◌≡◌, drop, map}
use Rattle.rn_syntax.specs.Places.{first}
use Rattle.rn_syntax.specs.inside.Rules.{items_places}
use Rattle.rn_syntax.specs.View.{declaration_view, items_view}
use Rattle.rn_syntax.proofs.places.+items_place.Given as goal

abbrev pub invariant-items_place-items : goal.invariant-items_place-items
invariant-items_place-items l = record {
  left : first (items_places (map declaration_view l.bindings.declarations.now) l.rule (items_view l.items))
      ≡ first (items_places (map declaration_view l.bindings.declarations.now) l.rule (items_view (drop l.item-index l.items)));
}
