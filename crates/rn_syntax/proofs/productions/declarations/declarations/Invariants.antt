-- The declarations so far, and what is left.
use Rattle.std.proofs.Common.{◌≤◌, ◌-◌, length, map}
use Rattle.rn_syntax.specs.inside.Readers.{rest}
use Rattle.rn_syntax.specs.Spelled.{AreSpelled}
use Rattle.rn_syntax.specs.View.{declaration_view}
use Rattle.rn_syntax.proofs.ProductionsRead.Declared.{So_far}
use Rattle.rn_syntax.proofs.productions.declarations.declarations.Given as goal

abbrev pub invariant-declarations : goal.invariant-declarations
invariant-declarations l = record {
  inside : l.end ≤ length l.tokens;
  so_far : AreSpelled l.tokens → So_far (map declaration_view l.declarations.items) (rest l.tokens 0) (rest l.tokens l.end);
}

abbrev pub decreases-declarations : goal.decreases-declarations
decreases-declarations l = length l.tokens - l.end
