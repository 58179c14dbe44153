-- A symbol is what its characters spell; another token is no bracket.
use Rattle.std.proofs.Common.{◌≡◌, ap, sym, ◌∙◌, Some}
use Rattle.std.specs.Str.{chars}
use Rattle.rn_syntax.specs.inside.Readers.{seen}
use Rattle.rn_syntax.specs.TokenTerminals.{terminal_of, symbol_rows}
use Rattle.rn_syntax.proofs.TokenKinds.KeywordsAndSymbols.{spelled_chars}
use Rattle.rn_syntax.proofs.FaultPlaces.OpenBrackets.{other_deep, symbols_plain}
use Rattle.rn_syntax.proofs.brackets.open_behind_token.Goals as goal

pub returns-in-Symbol-clause-step : goal.returns-in-Symbol-clause-step
returns-in-Symbol-clause-step c = λ ts.
    let text = c.args.token.text.now in
    let e : seen c.symbol.result ≡ Some (terminal_of c.args.token.kind (chars text))
    = c.symbol.ensures.is ∙ ap Some (sym (spelled_chars symbol_rows text c.symbol.ensures.utf8 symbols_plain)) ∙ ap (λ k. Some (terminal_of k (chars text))) (sym c.in-Symbol.is) in
    c.open_behind.ensures.step _ c.args.token.start ts e

pub returns-in_default : goal.returns-in_default
returns-in_default c = record {
  bound = c.requires;
  step = λ ts. other_deep c.args.token.kind (chars c.args.token.text.now) c.args.depth c.args.token.start ts c.in_default.not-Symbol;
}
