-- Each call stands further on, or reads a smaller part of the production at the same token.
use Rattle.std.proofs.Common.{◌≡◌, ◌∷◌, ℕ, ◌<◌, ◌-◌, ◌+◌, ◌*◌, length, map}
use Rattle.rn_syntax.specs.Terminal.{◌#◌, operator}
use Rattle.rn_syntax.specs.inside.Readers.{rest}
use Rattle.rn_syntax.specs.Spelled.{AreSpelled}
use Rattle.rn_syntax.specs.View.{pattern_view}
use Rattle.rn_syntax.proofs.ProductionsRead.Chaining.{So_far}
use Rattle.rn_syntax.proofs.ProductionsRead.Chains.{operands_chain}
use Rattle.rn_syntax.proofs.productions.patterns.+pattern.Given as goal

abbrev pub invariant-pattern-chain : goal.invariant-pattern-chain
invariant-pattern-chain l = record {
  further : l.fn.at < l.end;
  inside : l.end < length l.tokens;
  here : (i : ℕ) × (rest l.tokens l.end ≡ operator l.operator # i ∷ rest l.tokens (l.end + 1));
  so_far : AreSpelled l.tokens → So_far (operands_chain l.operator) (map pattern_view l.members.items) (rest l.tokens l.fn.at) (rest l.tokens l.end);
}

abbrev pub decreases-pattern-chain : goal.decreases-pattern-chain
decreases-pattern-chain l = length l.tokens - l.end

abbrev pub decreases-pattern : goal.decreases-pattern
decreases-pattern l = 6 * (length l.tokens.now - l.at) + 5

abbrev pub decreases-operand : goal.decreases-operand
decreases-operand l = 6 * (length l.tokens.now - l.at) + 4

abbrev pub decreases-any_operand : goal.decreases-any_operand
decreases-any_operand l = 6 * (length l.tokens.now - l.at) + 3

abbrev pub decreases-primary : goal.decreases-primary
decreases-primary l = 6 * (length l.tokens.now - l.at) + 4

abbrev pub decreases-behind_datatype : goal.decreases-behind_datatype
decreases-behind_datatype l = 6 * (length l.tokens.now - l.at) + 5

abbrev pub decreases-behind_params : goal.decreases-behind_params
decreases-behind_params l = 6 * (length l.tokens.now - l.at) + 4

abbrev pub decreases-core : goal.decreases-core
decreases-core l = 6 * (length l.tokens.now - l.at) + 3

abbrev pub decreases-untyped_core : goal.decreases-untyped_core
decreases-untyped_core l = 6 * (length l.tokens.now - l.at) + 2

abbrev pub decreases-keyword_core : goal.decreases-keyword_core
decreases-keyword_core l = 6 * (length l.tokens.now - l.at) + 1

abbrev pub decreases-named : goal.decreases-named
decreases-named l = 6 * (length l.tokens.now - l.at) + 5

abbrev pub decreases-braced : goal.decreases-braced
decreases-braced l = 6 * (length l.tokens.now - l.at) + 5
