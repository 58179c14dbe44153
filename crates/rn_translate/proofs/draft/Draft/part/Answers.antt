-- A space parts tokens.
use Rattle.std.proofs.Common.{◌≡◌, [], true, false, arith, sym, ◌∙◌}
use Rattle.rn_translate.proofs.CutSigns.{space_sign}
use Rattle.rn_translate.proofs.CutTokens.{one_part}
use Rattle.rn_translate.proofs.draft.Draft.part.Goals as goal

pub put-requires-clause-parts : goal.put-requires-clause-parts
put-requires-clause-parts c = one_part space_sign.spelled_as

pub put-requires-clause-apart : goal.put-requires-clause-apart
put-requires-clause-apart c e = space_sign.apart

pub put-requires-clause-unmarked : goal.put-requires-clause-unmarked
put-requires-clause-unmarked c m = absurd (let marked : true ≡ false = sym m ∙ space_sign.unmarked in cc)

pub returns-clause-tokens : goal.returns-clause-tokens
returns-clause-tokens c = c.put.ensures.tokens [] space_sign.spelled_as (omega arith)
