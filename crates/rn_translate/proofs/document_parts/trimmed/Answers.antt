-- White space is cut off the front, and then off the end.
use Rattle.std.proofs.Common.{ap, ◌∙◌, rules}
use Rattle.rn_translate.specs.SchemaElements.{without_end}
use Rattle.rn_translate.proofs.TrimmedTexts.{end_trimmed_by, front_trimmed_by}
use Rattle.rn_translate.proofs.document_parts.trimmed.Goals as goal

pub returns : goal.returns
returns c =
    end_trimmed_by _ _ (λ f a r h called. search rules) _ _ c.trim_end_matches.ensures.matches
    ∙ ap without_end (front_trimmed_by _ _ (λ f a r h called. search rules) _ _ c.trim_start_matches.ensures.matches)
