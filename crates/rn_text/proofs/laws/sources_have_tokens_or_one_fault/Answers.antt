use Rattle.rn_text.proofs.TokenLists.TokensOrFault.{source_told, no_fault, one_fault}
use Rattle.rn_text.proofs.laws.sources_have_tokens_or_one_fault.Goals as goal

pub returns : goal.returns
returns c = record { some = source_told; not_both = no_fault; one = one_fault }
