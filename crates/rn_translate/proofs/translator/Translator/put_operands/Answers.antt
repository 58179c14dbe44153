-- A parenthesis, where operands need it.
use Rattle.rn_translate.specs.Terms.{open_parenthesis}
use Rattle.rn_translate.proofs.AddedTerms.{adds_if}
use Rattle.rn_translate.proofs.translator.Translator.put_operands.Goals as goal

pub returns-clause-added : goal.returns-clause-added
returns-clause-added c = adds_if _ _ _ _ open_parenthesis c.parts.ensures c.in_ok-put_parenthesis.ensures.added
