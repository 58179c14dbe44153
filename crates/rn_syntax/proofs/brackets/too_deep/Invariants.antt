-- The place that is sought is that in the tokens that are left.
use Rattle.std.proofs.Common.{◌≡◌, ◌≤◌, map, drop}
use Rattle.rn_text.specs.Tokens.{lexeme_of}
use Rattle.rn_syntax.specs.Places.{deep}
use Rattle.rn_syntax.specs.TokenTerminals.{terminals}
use Rattle.rn_syntax.proofs.brackets.too_deep.Given as goal

abbrev pub invariant-tokens : goal.invariant-tokens
invariant-tokens l = record {
  bound : l.depth ≤ 256;
  left : deep 0 (terminals (map lexeme_of l.tokens)) ≡ deep l.depth (terminals (map lexeme_of (drop l.token-index l.tokens)));
}
