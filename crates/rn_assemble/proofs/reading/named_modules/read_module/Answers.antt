use Rattle.std.proofs.Common.{List, map, subst, sym}
use Rattle.std.specs.Str.{IsUtf8, chars}
use Rattle.rn_text.specs.Tokens.{HasTokens, lexeme_of}
use Rattle.rn_text.specs.declared.source.Token.{Token}
use Rattle.rn_syntax.specs.View.{module_view}
use Rattle.rn_syntax.proofs.TokenKinds.SourceTokens.{tokens_are_spelled}
use Rattle.rn_assemble.proofs.Refusals.TextFaults.{faultless}
use Rattle.rn_assemble.proofs.reading.named_modules.read_module.Goals as goal

pub returns-in-Ok : goal.returns-in-Ok
returns-in-Ok c =
    let text = c.args.text.now in
    let tokens = c.as_slice.result.now in
    let has = subst (λ (xs : List Token). IsUtf8 text × HasTokens (chars text) (map lexeme_of xs)) (sym c.as_slice.ensures.value) c.in_default.ensures in
    faultless text has.0 (map lexeme_of tokens) has.1 c.in-Ok.ensures.shallow (module_view c.in-Ok.tree) (c.in-Ok.ensures.tree (tokens_are_spelled (chars text) tokens has.1)) c.in-Ok.ensures.sound
