use Rattle.rn_merge.proofs.FaultsOfTexts.TextPlaces.{never_neither, not_both, one_place}
use Rattle.rn_merge.proofs.laws.texts_are_good_or_have_one_place.Goals as goal

pub returns : goal.returns
returns c = record { never_neither = λ text h. never_neither text h.0 h.1; not_both = not_both; one_place = one_place }
