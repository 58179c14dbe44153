use Rattle.rn_pattern.proofs.Matches.OpenedKeeps.{opened_valid}
use Rattle.rn_simplify.proofs.laws.opened_grammars_are_valid_alike.Goals as goal

pub returns : goal.returns
returns c = opened_valid
