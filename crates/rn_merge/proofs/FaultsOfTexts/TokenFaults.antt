-- What the fault of a text's tokens is to the text.
use Rattle.std.proofs.Common.{◌≡◌, ℕ, List, map, refl, sym, subst}
use Rattle.std.specs.Str.{IsUtf8, chars}
use Rattle.rn_text.specs.Tokens.{HasTokens, lexeme_of}
use Rattle.rn_text.specs.declared.source.Token.{Token}
use Rattle.rn_syntax.specs.declared.fault.SyntaxFault.{SyntaxFault}
use Rattle.rn_syntax.specs.declared.fault.SyntaxFault.TheVariants as parsing
use Rattle.rn_syntax.specs.Faults.{IsFault}
use Rattle.rn_syntax.proofs.TokenKinds.SourceTokens.{tokens_are_spelled}
use Rattle.rn_merge.specs.declared.text_faults.Place.{Place}
use Rattle.rn_merge.specs.TextFaults.{AreTokensOf, HasPlace, syntax_place}

pub tokens_of : (text : List ℕ) (tokens : List Token) → IsUtf8 text × HasTokens (chars text) (map lexeme_of tokens) → AreTokensOf text tokens
tokens_of text tokens h = record { utf8 = h.0; are = h.1; are_spelled = tokens_are_spelled (chars text) tokens h.1 }

pub placed : (text : List ℕ) (tokens : List Token) (fault : SyntaxFault) → AreTokensOf text tokens → IsFault tokens fault → HasPlace text (syntax_place fault)
placed text tokens parsing.Memory t h = tt
placed text tokens fault t h = (tokens, t, fault, refl, h)

pub has_place : (text : List ℕ) (tokens : List Token) (fault : SyntaxFault) (place : Place) → place ≡ syntax_place fault → AreTokensOf text tokens → IsFault tokens fault → HasPlace text place
has_place text tokens fault place e t h = subst (HasPlace text) (sym e) (placed text tokens fault t h)
