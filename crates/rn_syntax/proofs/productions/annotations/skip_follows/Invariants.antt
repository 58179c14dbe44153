-- The following annotations so far were read, and what is left are following annotations.
use Rattle.std.proofs.Common.{◌≤◌, ◌-◌, length}
use Rattle.rn_syntax.specs.Grammar.{AreFollows}
use Rattle.rn_syntax.specs.inside.Follow.{Starts, no_follow}
use Rattle.rn_syntax.specs.inside.Readers.{Bare, rest}
use Rattle.rn_syntax.specs.Spelled.{AreSpelled}
use Rattle.rn_syntax.proofs.ProductionsRead.Compose.{Upto}
use Rattle.rn_syntax.proofs.productions.annotations.skip_follows.Given as goal

abbrev pub invariant-follows : goal.invariant-follows
invariant-follows l = record {
  further : l.fn.at ≤ l.at;
  inside : l.at ≤ length l.tokens;
  so_far : AreSpelled l.tokens → Upto (Bare AreFollows) (Bare AreFollows) (Starts no_follow) (rest l.tokens l.fn.at) (rest l.tokens l.at);
}

abbrev pub decreases-follows : goal.decreases-follows
decreases-follows l = length l.tokens - l.at
