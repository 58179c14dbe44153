-- A text of nothing.
use Rattle.std.proofs.Common.{[], false, refl, subst, sym, ap, ◌∙◌}
use Rattle.std.specs.Str.{chars}
use Rattle.rn_text.specs.Tokens.{has_mark}
use Rattle.rn_translate.specs.Cuts.{HasParts, IsSpelledAs}
use Rattle.rn_translate.proofs.CutTexts.{nothing_cut}
use Rattle.rn_translate.proofs.draft.Draft.new.Goals as goal

pub invariant_of-result-clause-parts : goal.invariant_of-result-clause-parts
invariant_of-result-clause-parts c = subst (HasParts false) (sym c.new.ensures.bytes) ∣ record { tokens = []; cut = nothing_cut } ∣₁

pub invariant_of-result-clause-unmarked : goal.invariant_of-result-clause-unmarked
unfolding chars
invariant_of-result-clause-unmarked c = ap (λ x. has_mark (chars x)) c.new.ensures.bytes ∙ refl

pub returns-clause-tokens : goal.returns-clause-tokens
returns-clause-tokens c = subst (λ x. IsSpelledAs false x []) (sym c.new.ensures.bytes) ∣ nothing_cut ∣₁
