-- The first place in the name classes is the first in those that are left.
use Rattle.std.proofs.Common.{◌≡◌, drop, map}
use Rattle.rn_syntax.specs.Places.{first, classes_places}
use Rattle.rn_syntax.specs.View.{classes_view, declaration_view}
use Rattle.rn_syntax.proofs.rules.+class_place.Given as goal

abbrev pub invariant-classes_place-classes : goal.invariant-classes_place-classes
invariant-classes_place-classes l = record {
  left : first (classes_places (map declaration_view l.bindings.declarations.now) (classes_view l.classes))
      ≡ first (classes_places (map declaration_view l.bindings.declarations.now) (classes_view (drop l.class-index l.classes)));
}
