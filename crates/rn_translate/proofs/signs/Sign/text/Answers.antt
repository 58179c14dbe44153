-- Each sign is cut, whatever follows.
use Rattle.rn_translate.proofs.CutSigns as cut
use Rattle.std.proofs.Common.{◌≡◌, sym, subst}
use Rattle.rn_text.specs.Texts.{Text}
use Rattle.rn_translate.specs.Cuts.{IsSign}
use Rattle.rn_translate.specs.declared.signs.Sign.{Sign}
use Rattle.rn_translate.specs.inside.SignTokens.{sign_tokens}
use Rattle.rn_translate.proofs.signs.Sign.text.Goals as goal

same : {x : Text} {s r : Sign} → s ≡ r → IsSign x (sign_tokens r) → IsSign x (sign_tokens s)
same {x = x} e h = subst (λ t. IsSign x (sign_tokens t)) (sym e) h

pub returns-in-Nothing-clause-sign : goal.returns-in-Nothing-clause-sign
returns-in-Nothing-clause-sign c = same c.in-Nothing.is cut.nothing_sign

pub returns-in-Space-clause-sign : goal.returns-in-Space-clause-sign
returns-in-Space-clause-sign c = same c.in-Space.is cut.space_sign

pub returns-in-LineEnd-clause-sign : goal.returns-in-LineEnd-clause-sign
returns-in-LineEnd-clause-sign c = same c.in-LineEnd.is cut.line_end_sign

pub returns-in-Comma-clause-sign : goal.returns-in-Comma-clause-sign
returns-in-Comma-clause-sign c = same c.in-Comma.is cut.comma_sign

pub returns-in-Ampersand-clause-sign : goal.returns-in-Ampersand-clause-sign
returns-in-Ampersand-clause-sign c = same c.in-Ampersand.is cut.ampersand_sign

pub returns-in-Bar-clause-sign : goal.returns-in-Bar-clause-sign
returns-in-Bar-clause-sign c = same c.in-Bar.is cut.bar_sign

pub returns-in-Minus-clause-sign : goal.returns-in-Minus-clause-sign
returns-in-Minus-clause-sign c = same c.in-Minus.is cut.minus_sign

pub returns-in-Equals-clause-sign : goal.returns-in-Equals-clause-sign
returns-in-Equals-clause-sign c = same c.in-Equals.is cut.equals_sign

pub returns-in-ChoiceEquals-clause-sign : goal.returns-in-ChoiceEquals-clause-sign
returns-in-ChoiceEquals-clause-sign c = same c.in-ChoiceEquals.is cut.choice_sign

pub returns-in-InterleaveEquals-clause-sign : goal.returns-in-InterleaveEquals-clause-sign
returns-in-InterleaveEquals-clause-sign c = same c.in-InterleaveEquals.is cut.interleave_sign

pub returns-in-CloseParenthesis-clause-sign : goal.returns-in-CloseParenthesis-clause-sign
returns-in-CloseParenthesis-clause-sign c = same c.in-CloseParenthesis.is cut.closing_sign

pub returns-in-OpenBrace-clause-sign : goal.returns-in-OpenBrace-clause-sign
returns-in-OpenBrace-clause-sign c = same c.in-OpenBrace.is cut.open_brace_sign

pub returns-in-OpenBraceLine-clause-sign : goal.returns-in-OpenBraceLine-clause-sign
returns-in-OpenBraceLine-clause-sign c = same c.in-OpenBraceLine.is cut.open_brace_line_sign

pub returns-in-CloseBrace-clause-sign : goal.returns-in-CloseBrace-clause-sign
returns-in-CloseBrace-clause-sign c = same c.in-CloseBrace.is cut.close_brace_sign

pub returns-in-CloseBraceAlone-clause-sign : goal.returns-in-CloseBraceAlone-clause-sign
returns-in-CloseBraceAlone-clause-sign c = same c.in-CloseBraceAlone.is cut.lone_brace_sign

pub returns-in-CloseBraceLine-clause-sign : goal.returns-in-CloseBraceLine-clause-sign
returns-in-CloseBraceLine-clause-sign c = same c.in-CloseBraceLine.is cut.brace_line_sign

pub returns-in-BracedText-clause-sign : goal.returns-in-BracedText-clause-sign
returns-in-BracedText-clause-sign c = same c.in-BracedText.is cut.braced_text_sign

pub returns-in-Question-clause-sign : goal.returns-in-Question-clause-sign
returns-in-Question-clause-sign c = same c.in-Question.is cut.question_sign

pub returns-in-Star-clause-sign : goal.returns-in-Star-clause-sign
returns-in-Star-clause-sign c = same c.in-Star.is cut.star_sign

pub returns-in-Plus-clause-sign : goal.returns-in-Plus-clause-sign
returns-in-Plus-clause-sign c = same c.in-Plus.is cut.plus_sign
