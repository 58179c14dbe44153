-- A parenthesis, where one is needed.
use Rattle.std.proofs.Common.{true, refl, sym}
use Rattle.rn_translate.specs.Terms.{open_parenthesis}
use Rattle.rn_translate.proofs.AddedTerms.{adds_if}
use Rattle.rn_translate.proofs.translator.Translator.put_parenthesis.Goals as goal

pub returns-then-is_needed-clause-added : goal.returns-then-is_needed-clause-added
returns-then-is_needed-clause-added c = adds_if _ _ true c.args.is_needed open_parenthesis (sym c.if-is_needed.true) (c.in_ok-put.ensures open_parenthesis refl)
