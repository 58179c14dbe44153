use Rattle.rn_files.proofs.NamesReadBack.{name_is_named}
use Rattle.rn_files.proofs.laws.names_are_those_of_modules.Goals as goal

pub returns : goal.returns
returns c = name_is_named
