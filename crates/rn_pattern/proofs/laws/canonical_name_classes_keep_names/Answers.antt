use Rattle.rn_pattern.proofs.Matches.NamesKept.{names_kept}
use Rattle.rn_pattern.proofs.laws.canonical_name_classes_keep_names.Goals as goal

pub returns : goal.returns
returns c = λ n u l. names_kept u l n
