-- A keyword or a symbol is what its characters spell, a plain name its own text.
use Rattle.std.proofs.Common.{◌≡◌, ap, sym, ◌∙◌, refl, subst, Some, true}
use Rattle.std.specs.Str.{chars}
use Rattle.std.proofs.lemmas.Str.{encodes-chars}
use Rattle.rn_text.specs.declared.parts.Part.TheVariants as part
use Rattle.rn_text.specs.Parts.{spells}
use Rattle.rn_syntax.specs.Terminal as t
use Rattle.rn_syntax.specs.TokenTerminals.{terminal_of, symbol_rows}
use Rattle.rn_syntax.proofs.TokenKinds.KeywordsAndSymbols.{spelled_chars}
use Rattle.rn_syntax.proofs.FaultPlaces.OpenBrackets.{symbols_plain}
use Rattle.rn_syntax.proofs.productions.terminals.terminal_of.Goals as goal

pub returns-in-Name-clause-is : goal.returns-in-Name-clause-is
returns-in-Name-clause-is c =
    let text = c.args.token.text.now in
    c.plain_name.ensures.is ∙ ap (λ s. Some (t.ident s)) (sym (encodes-chars text c.plain_name.ensures.utf8)) ∙ ap (λ k. Some (terminal_of k (chars text))) (sym c.in-Name.is)

pub returns-in-Keyword-clause-is : goal.returns-in-Keyword-clause-is
returns-in-Keyword-clause-is c =
    let text = c.args.token.text.now in
    c.keyword.ensures.is ∙ ap (λ k. Some (terminal_of k (chars text))) (sym c.in-Keyword.is)

pub returns-in-Symbol-clause-is : goal.returns-in-Symbol-clause-is
returns-in-Symbol-clause-is c =
    let text = c.args.token.text.now in
    c.symbol.ensures.is ∙ ap Some (sym (spelled_chars symbol_rows text c.symbol.ensures.utf8 symbols_plain)) ∙ ap (λ k. Some (terminal_of k (chars text))) (sym c.in-Symbol.is)

pub returns-in-Segment : goal.returns-in-Segment
returns-in-Segment c = record {
  is = ap (λ k. Some (terminal_of k (chars c.args.token.text.now))) (sym c.in-Segment.is);
  whole = λ h. subst (λ k. spells (part.Token k) (chars c.args.token.text.now) ≡ true) c.in-Segment.is h;
  same = refl;
}
