-- A parenthesis where the whole needs it, and one where several children do.
use Rattle.rn_translate.specs.Terms.{open_parenthesis}
use Rattle.rn_translate.specs.Layouts.{begins_operands, if_so, is_tight}
use Rattle.rn_translate.specs.declared.standing.Operator.TheVariants as o
use Rattle.rn_translate.specs.declared.standing.Standing.TheVariants as s
use Rattle.rn_translate.proofs.AddedTerms.{adds_if, adds_more}
use Rattle.rn_translate.proofs.translator.Translator.write_repetition.Goals as goal

pub returns-clause-added : goal.returns-clause-added
returns-clause-added c = adds_more _ _ _ (if_so (is_tight c.args.«open».place.standing) open_parenthesis) (begins_operands s.Tight o.Comma c.args.«open».children.count)
    (adds_if _ _ _ _ open_parenthesis c.is_tight.ensures c.in_ok-outer.ensures.added) c.in_ok-operands.ensures.added
