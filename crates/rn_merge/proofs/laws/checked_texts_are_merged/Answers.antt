use Rattle.rn_merge.proofs.FaultsOfTexts.TextPlaces.{good, faultless_good, first, first_placed}
use Rattle.rn_merge.proofs.laws.checked_texts_are_merged.Goals as goal

pub returns : goal.returns
returns c = record { good = good; faultless = faultless_good; first = first; placed = first_placed }
