-- All are allowed if those that are left are.
use Rattle.std.proofs.Common.{◌≡◌, drop}
use Rattle.rn_syntax.specs.Places.{are_allowed}
use Rattle.rn_syntax.specs.View.{patterns_view}
use Rattle.rn_syntax.proofs.rules.+is_allowed.Given as goal

abbrev pub invariant-are_allowed-patterns : goal.invariant-are_allowed-patterns
invariant-are_allowed-patterns l = record {
  left : are_allowed (patterns_view l.patterns) ≡ are_allowed (patterns_view (drop l.pattern-index l.patterns));
}
