use Rattle.rn_pattern.proofs.Matches.Constructors.{choice_means, group_means, interleave_means, attribute_means, element_means, one_or_more_means}
use Rattle.rn_pattern.proofs.laws.canonical_steps_keep_matching.Goals as goal

pub returns-clause-of_choice : goal.returns-clause-of_choice
returns-clause-of_choice c = choice_means

pub returns-clause-of_group : goal.returns-clause-of_group
returns-clause-of_group c = group_means

pub returns-clause-of_interleave : goal.returns-clause-of_interleave
returns-clause-of_interleave c = interleave_means

pub returns-clause-of_one_or_more : goal.returns-clause-of_one_or_more
returns-clause-of_one_or_more c = one_or_more_means

pub returns-clause-of_attribute : goal.returns-clause-of_attribute
returns-clause-of_attribute c = attribute_means

pub returns-clause-of_element : goal.returns-clause-of_element
returns-clause-of_element c = element_means
