use Rattle.std.proofs.Common.{◌∙◌}
use Rattle.std.specs.Str.{chars}
use Rattle.rn_text.proofs.Words.KeywordSpellings.{found_keyword}
use Rattle.rn_text.proofs.keywords.is_keyword.Goals as goal

pub returns : goal.returns
returns c = c.is_some.ensures ∙ found_keyword c.keyword_of.result (chars c.args.text.now) c.keyword_of.ensures
