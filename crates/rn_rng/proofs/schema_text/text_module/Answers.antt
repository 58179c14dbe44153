use Rattle.std.proofs.Common.{map}
use Rattle.std.specs.Str.{chars}
use Rattle.rn_text.specs.Tokens.{lexeme_of}
use Rattle.rn_syntax.specs.View.{module_view}
use Rattle.rn_syntax.proofs.TokenKinds.SourceTokens.{tokens_are_spelled}
use Rattle.rn_assemble.proofs.Refusals.TextFaults.{faultless}
use Rattle.rn_rng.proofs.schema_text.text_module.Goals as goal

pub returns-in-Ok : goal.returns-in-Ok
returns-in-Ok c =
    let text = c.args.text.now in
    let tokens = c.args.tokens.now in
    let has = c.requires.tokens in
    let is = c.in-Ok.ensures in
    faultless text c.requires.utf8 (map lexeme_of tokens) has is.shallow (module_view c.in-Ok.«module») (is.tree (tokens_are_spelled (chars text) tokens has)) is.sound

pub returns-in-Err : goal.returns-in-Err
returns-in-Err c = c.syntax_fault.ensures c.args.text.now c.args.tokens.now c.requires.utf8 c.requires.tokens c.in-Err.ensures.fault
