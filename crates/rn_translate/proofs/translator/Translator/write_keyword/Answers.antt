-- A keyword is one term.
use Rattle.std.proofs.Common.{◌∷◌, [], refl}
use Rattle.rn_translate.specs.Terms.{keyword}
use Rattle.rn_translate.proofs.translator.Translator.write_keyword.Goals as goal

pub returns-clause-added : goal.returns-clause-added
returns-clause-added c = c.in_ok-put.ensures (keyword c.args.keyword ∷ []) refl
