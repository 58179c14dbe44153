use Rattle.std.proofs.Common.{◌≢◌, ◌≡◌, subst}
use Rattle.std.specs.Prelude.{MatchOption}
use Rattle.rn_text.specs.declared.keywords.Keyword.{Keyword}
use Rattle.rn_text.specs.Keywords.{spelling}
use Rattle.rn_text.proofs.Words.KeywordSpellings.{found_chars}
use Rattle.rn_text.proofs.keywords.keyword_of.Goals as goal

pub returns : goal.returns
returns c =
    found_chars c.keyword_of_bytes.result c.args.text.now c.utf8.text
    (subst (λ bs. MatchOption c.keyword_of_bytes.result ((w : Keyword) → bs ≢ spelling w) (λ w. bs ≡ spelling w)) c.as_bytes.ensures.value c.keyword_of_bytes.ensures)
