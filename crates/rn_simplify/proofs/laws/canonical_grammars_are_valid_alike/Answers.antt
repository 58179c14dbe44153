use Rattle.rn_pattern.proofs.Matches.Pruned.{pruned_valid, canonical_grammar_valid}
use Rattle.rn_simplify.proofs.laws.canonical_grammars_are_valid_alike.Goals as goal

pub returns-clause-pruned : goal.returns-clause-pruned
returns-clause-pruned c = pruned_valid

pub returns-clause-canonical : goal.returns-clause-canonical
returns-clause-canonical c = λ G N k start all T doc. canonical_grammar_valid G N k T start all doc
