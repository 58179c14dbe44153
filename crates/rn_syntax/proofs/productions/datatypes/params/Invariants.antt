-- The parameters so far, and what is left.
use Rattle.std.proofs.Common.{◌<◌, ◌≤◌, ◌-◌, length}
use Rattle.rn_syntax.specs.inside.Readers.{rest}
use Rattle.rn_syntax.specs.Spelled.{AreSpelled}
use Rattle.rn_syntax.specs.View.{params_view}
use Rattle.rn_syntax.proofs.ProductionsRead.Parameters.{So_far}
use Rattle.rn_syntax.proofs.productions.datatypes.params.Given as goal

abbrev pub invariant-params : goal.invariant-params
invariant-params l = record {
  further : l.fn.at < l.end;
  inside : l.end ≤ length l.tokens;
  so_far : AreSpelled l.tokens → So_far (params_view l.params.items) (rest l.tokens l.fn.at) (rest l.tokens l.end);
}

abbrev pub decreases-params : goal.decreases-params
decreases-params l = length l.tokens - l.end
