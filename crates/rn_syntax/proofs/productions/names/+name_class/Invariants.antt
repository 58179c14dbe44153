-- Each call stands further on, or reads a smaller part of the production at the same token.
use Rattle.std.proofs.Common.{◌<◌, ◌≤◌, ◌-◌, ◌+◌, ◌*◌, length, map}
use Rattle.rn_syntax.specs.inside.Readers.{rest}
use Rattle.rn_syntax.specs.Spelled.{AreSpelled}
use Rattle.rn_syntax.specs.View.{class_view}
use Rattle.rn_syntax.proofs.ProductionsRead.Chaining.{So_far}
use Rattle.rn_syntax.proofs.ProductionsRead.Classes.{classes_chain}
use Rattle.rn_syntax.proofs.productions.names.+name_class.Given as goal

abbrev pub invariant-name_class-choice : goal.invariant-name_class-choice
invariant-name_class-choice l = record {
  further : l.fn.at < l.end;
  inside : l.end ≤ length l.tokens;
  so_far : AreSpelled l.tokens → So_far classes_chain (map class_view l.members.items) (rest l.tokens l.fn.at) (rest l.tokens l.end);
}

abbrev pub decreases-name_class-choice : goal.decreases-name_class-choice
decreases-name_class-choice l = length l.tokens - l.end

abbrev pub decreases-name_class : goal.decreases-name_class
decreases-name_class l = 6 * (length l.tokens.now - l.at) + 5

abbrev pub decreases-class_operand : goal.decreases-class_operand
decreases-class_operand l = 6 * (length l.tokens.now - l.at) + 4

abbrev pub decreases-any_class_operand : goal.decreases-any_class_operand
decreases-any_class_operand l = 6 * (length l.tokens.now - l.at) + 3

abbrev pub decreases-class_primary : goal.decreases-class_primary
decreases-class_primary l = 6 * (length l.tokens.now - l.at) + 3

abbrev pub decreases-class_end : goal.decreases-class_end
decreases-class_end l = 6 * (length l.tokens.now - l.at) + 2

abbrev pub decreases-class_core : goal.decreases-class_core
decreases-class_core l = 6 * (length l.tokens.now - l.at) + 1
