-- Tokens by their kinds and their texts (RELAX NG Compact Syntax, appendix A).
use Rattle.rn_text.specs.declared.parts.Kind.{Kind}
use Rattle.rn_text.specs.Texts.{Text}

-- a token, wherever it stands
pub record Spelled : Type 0 where
  pub kind : Kind
  pub text : Text
