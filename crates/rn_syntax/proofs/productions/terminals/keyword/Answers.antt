use Rattle.std.proofs.Common.{ap, sym, ◌∙◌, Some}
use Rattle.std.specs.Str.{chars}
use Rattle.rn_syntax.specs.TokenTerminals.{spelled_in, keyword_rows}
use Rattle.rn_syntax.proofs.TokenKinds.KeywordsAndSymbols.{keyword_seen, none_seen}
use Rattle.rn_syntax.proofs.productions.terminals.keyword.Goals as goal

pub returns-in-Some-clause-is : goal.returns-in-Some-clause-is
returns-in-Some-clause-is c = ap Some (sym (ap (spelled_in keyword_rows) c.in-Some.ensures ∙ keyword_seen c.in-Some.keyword))

pub returns-in-None-clause-is : goal.returns-in-None-clause-is
returns-in-None-clause-is c = ap Some (sym (none_seen (chars c.args.text.now) c.in-None.ensures))
