-- Of what is behind the first bracket, what is left closes one bracket more than `depth` says.
use Rattle.std.proofs.Common.{◌≤◌, ◌-◌, length, suc}
use Rattle.rn_syntax.specs.Grammar.{Closed}
use Rattle.rn_syntax.specs.inside.Follow.{Anything}
use Rattle.rn_syntax.specs.inside.Readers.{Bare, rest}
use Rattle.rn_syntax.proofs.ProductionsRead.Compose.{Upto}
use Rattle.rn_syntax.proofs.ProductionsRead.Skipping.{Closings}
use Rattle.rn_syntax.proofs.productions.annotations.skip_closed.Given as goal

abbrev pub invariant-closed : goal.invariant-closed
invariant-closed l = record {
  further : l.fn.at ≤ l.at;
  inside : l.at ≤ length l.tokens;
  small : l.depth ≤ l.at;
  so_far : Upto (Bare Closed) (Closings (suc l.depth)) Anything (rest l.tokens l.fn.at) (rest l.tokens l.at);
}

abbrev pub decreases-closed : goal.decreases-closed
decreases-closed l = length l.tokens - l.at
