-- A name is one term.
use Rattle.std.proofs.Common.{◌∷◌, [], refl}
use Rattle.rn_translate.specs.Terms.{identifier}
use Rattle.rn_translate.proofs.translator.Translator.put_identifier.Goals as goal

pub returns : goal.returns
returns c = c.put.ensures (identifier c.args.name.now ∷ []) refl
