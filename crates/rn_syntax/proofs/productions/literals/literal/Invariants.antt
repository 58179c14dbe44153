-- What is left joins the text of the segments so far.
use Rattle.std.proofs.Common.{◌<◌, ◌≤◌, ◌-◌, length, string_bytes}
use Rattle.rn_syntax.specs.Grammar.{IsLiteral}
use Rattle.rn_syntax.specs.inside.Follow.{Starts, no_tilde}
use Rattle.rn_syntax.specs.inside.Readers.{rest}
use Rattle.rn_syntax.specs.Spelled.{AreSpelled}
use Rattle.rn_syntax.proofs.ProductionsRead.Compose.{Upto}
use Rattle.rn_syntax.proofs.ProductionsRead.Segmented.{Joins}
use Rattle.rn_syntax.proofs.productions.literals.literal.Given as goal

abbrev pub invariant-segments : goal.invariant-segments
invariant-segments l = record {
  further : l.fn.at < l.end;
  inside : l.end ≤ length l.tokens;
  so_far : AreSpelled l.tokens → Upto IsLiteral (Joins (string_bytes l.text)) (Starts no_tilde) (rest l.tokens l.fn.at) (rest l.tokens l.end);
}

abbrev pub decreases-segments : goal.decreases-segments
decreases-segments l = length l.tokens - l.end
