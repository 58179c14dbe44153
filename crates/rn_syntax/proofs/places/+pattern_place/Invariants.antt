-- The first place in the patterns is the first in those that are left.
use Rattle.std.proofs.Common.{◌≡◌, drop, map}
use Rattle.rn_syntax.specs.Places.{first}
use Rattle.rn_syntax.specs.inside.Rules.{patterns_places}
use Rattle.rn_syntax.specs.View.{declaration_view, patterns_view}
use Rattle.rn_syntax.proofs.places.+pattern_place.Given as goal

abbrev pub invariant-patterns_place-patterns : goal.invariant-patterns_place-patterns
invariant-patterns_place-patterns l = record {
  left : first (patterns_places (map declaration_view l.bindings.declarations.now) l.rule (patterns_view l.patterns))
      ≡ first (patterns_places (map declaration_view l.bindings.declarations.now) l.rule (patterns_view (drop l.pattern-index l.patterns)));
}
