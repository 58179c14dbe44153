use Rattle.rn_pattern.specs.Canonical.{canonical_name}
use Rattle.rn_pattern.specs.CanonicalShape.{AnyName}
use Rattle.rn_pattern.proofs.CanonicalForms.CanonicalForm.{canonical_name_is, one_or_more_canonical, list_canonical, attribute_canonical, datum_but_canonical}
use Rattle.rn_pattern.proofs.CanonicalForms.BuiltCanonical.{choice_of_canonical, group_of_canonical, interleave_of_canonical}
use Rattle.rn_pattern.proofs.laws.canonical_steps_are_canonical.Goals as goal

pub returns-clause-of_choice : goal.returns-clause-of_choice
returns-clause-of_choice c = choice_of_canonical

pub returns-clause-of_group : goal.returns-clause-of_group
returns-clause-of_group c = group_of_canonical

pub returns-clause-of_interleave : goal.returns-clause-of_interleave
returns-clause-of_interleave c = interleave_of_canonical

pub returns-clause-of_one_or_more : goal.returns-clause-of_one_or_more
returns-clause-of_one_or_more c = one_or_more_canonical AnyName

pub returns-clause-of_list : goal.returns-clause-of_list
returns-clause-of_list c = list_canonical AnyName

pub returns-clause-of_data : goal.returns-clause-of_data
returns-clause-of_data c = datum_but_canonical AnyName

pub returns-clause-of_attribute : goal.returns-clause-of_attribute
returns-clause-of_attribute c = λ n p h. attribute_canonical AnyName (canonical_name n) p (canonical_name_is n) h

pub returns-clause-of_element : goal.returns-clause-of_element
returns-clause-of_element c = λ n p h. (canonical_name_is n, h)
