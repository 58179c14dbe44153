use Rattle.rn_files.proofs.NamesReadBack.{names_differ}
use Rattle.rn_files.proofs.laws.paths_have_names_of_their_own.Goals as goal

pub returns : goal.returns
returns c = names_differ
