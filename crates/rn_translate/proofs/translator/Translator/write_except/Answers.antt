-- The sign, and a parenthesis where several children need it.
use Rattle.std.proofs.Common.{◌∷◌, []}
use Rattle.std.specs.Prelude.{codes}
use Rattle.std.proofs.lemmas.Result.{on_ok_weaker}
use Rattle.rn_translate.specs.Terms.{symbol}
use Rattle.rn_translate.specs.Layouts.{begins_operands}
use Rattle.rn_translate.specs.declared.standing.Operator.TheVariants as o
use Rattle.rn_translate.specs.declared.standing.Standing.TheVariants as s
use Rattle.rn_translate.proofs.AddedTerms.{adds_more}
use Rattle.rn_translate.proofs.translator.Translator.write_except.Goals as goal

pub returns-clause-added : goal.returns-clause-added
returns-clause-added c = on_ok_weaker c.put_operands.result
    (λ more. adds_more _ _ _ (symbol (codes "-") ∷ []) (begins_operands s.Tight o.Bar c.args.«open».children.count) c.in_ok-put_sign.ensures more) c.put_operands.ensures.added
