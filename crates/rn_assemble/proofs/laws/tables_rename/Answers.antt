use Rattle.rn_assemble.proofs.Renaming.ShortTables.{table_renames}
use Rattle.rn_assemble.proofs.laws.tables_rename.Goals as goal

pub returns : goal.returns
returns c = table_renames
