-- A name is one term.
use Rattle.std.proofs.Common.{◌∷◌, [], refl}
use Rattle.rn_translate.specs.Terms.{local}
use Rattle.rn_translate.proofs.translator.Translator.put_local_name.Goals as goal

pub returns : goal.returns
returns c = c.put.ensures (local c.args.name.now ∷ []) refl
