-- The name of the definition.
use Rattle.std.proofs.Common.{◌∷◌, [], ap, ◌∙◌}
use Rattle.rn_translate.specs.Terms.{identifier}
use Rattle.rn_translate.specs.SchemaElements.{trimmed}
use Rattle.rn_translate.proofs.AddedTerms.{adds_equal}
use Rattle.rn_translate.proofs.translator.Translator.write_reference.Goals as goal

pub returns-clause-added : goal.returns-clause-added
returns-clause-added c = adds_equal _ _ _ _ (ap (λ x. identifier x ∷ []) (c.trimmed.ensures ∙ ap trimmed c.value-at.ensures)) c.in_ok-put_identifier.ensures
