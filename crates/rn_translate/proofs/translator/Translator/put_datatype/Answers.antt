-- A datatype is one term.
use Rattle.std.proofs.Common.{◌∷◌, [], ap}
use Rattle.std.specs.Prelude.{Option}
use Rattle.std.specs.Option.{option_map}
use Rattle.rn_translate.specs.Terms.{Namespace, datatype}
use Rattle.rn_translate.proofs.translator.Translator.put_datatype.Goals as goal

pub returns : goal.returns
returns c = λ n is. c.put.ensures (datatype n c.args.name.now ∷ []) (ap (λ (u : Option Namespace). option_map (λ m. datatype m c.args.name.now) u ∷ []) is)
