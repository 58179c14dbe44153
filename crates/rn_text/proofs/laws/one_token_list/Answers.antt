use Rattle.rn_text.proofs.TokenLists.OneFaultPlace.{list_or_place, one_place}
use Rattle.rn_text.proofs.TokenLists.TokensOrFault.{tokens_or_place, utf8_or_front, same_valid_front}
use Rattle.rn_text.proofs.TokenLists.OneTokenList.{one_token_list}
use Rattle.rn_text.proofs.laws.one_token_list.Goals as goal

pub returns : goal.returns
returns c = record { some = tokens_or_place; some_front = utf8_or_front; one = one_token_list; or_place = list_or_place; one_place = one_place; one_front = same_valid_front }
