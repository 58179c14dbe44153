use Rattle.rn_pattern.proofs.Matches.Pairings.{choice_paired, group_paired, interleave_paired}
use Rattle.rn_pattern.proofs.laws.pairs_match_lists.Goals as goal

pub returns-clause-of_choice : goal.returns-clause-of_choice
returns-clause-of_choice c = choice_paired

pub returns-clause-of_interleave : goal.returns-clause-of_interleave
returns-clause-of_interleave c = interleave_paired

pub returns-clause-of_group : goal.returns-clause-of_group
returns-clause-of_group c = group_paired
