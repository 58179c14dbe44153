use Rattle.rn_pattern.proofs.Matches.OpenedKeeps.{opened_matches, opened_valid}
use Rattle.rn_pattern.proofs.laws.opened_patterns_keep_matching.Goals as goal

pub returns-clause-patterns : goal.returns-clause-patterns
returns-clause-patterns c = opened_matches

pub returns-clause-grammars : goal.returns-clause-grammars
returns-clause-grammars c = opened_valid
