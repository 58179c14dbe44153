use Rattle.rn_pattern.proofs.Matches.Pruned.{canonical_grammar_valid}
use Rattle.rn_pattern.proofs.Matches.Validity.{canonical_valid}
use Rattle.rn_pattern.proofs.laws.canonical_patterns_keep_validity.Goals as goal

pub returns-clause-patterns : goal.returns-clause-patterns
returns-clause-patterns c = λ k G start all T doc. canonical_valid T G all k start doc

pub returns-clause-grammars : goal.returns-clause-grammars
returns-clause-grammars c = λ G N k start all T doc. canonical_grammar_valid G N k T start all doc
