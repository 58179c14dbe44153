-- A parenthesis, where the except needs it, and the datatype.
use Rattle.std.proofs.Common.{◌∷◌, [], sym, ap, ◌∙◌}
use Rattle.std.specs.Prelude.{codes, unwrap_or}
use Rattle.rn_translate.specs.Terms.{datatype, open_parenthesis}
use Rattle.rn_translate.specs.SchemaElements.{trimmed, value_of}
use Rattle.rn_translate.proofs.AddedTerms.{adds_if, adds_equal, adds_more}
use Rattle.rn_translate.proofs.MeantElements.{closed_meant, meant_after}
use Rattle.rn_translate.proofs.translator.Translator.write_data.Goals as goal

pub returns-clause-added : goal.returns-clause-added
returns-clause-added c = λ e m.
    let first = adds_if _ _ _ _ open_parenthesis (closed_meant m) c.in_ok-layout.ensures.added in
    let now = meant_after _ _ _ _ e _ first m in
    let name = c.trimmed.ensures ∙ ap trimmed (c.value-at.ensures ∙ ap (λ attributes. unwrap_or (value_of (codes "type") attributes) []) (sym now.attributes)) in
    adds_more _ _ _ _ _ first (adds_equal _ _ _ _ (ap (λ x. datatype e.context.library x ∷ []) name) (c.in_ok-put_datatype.ensures e.context.library now.library))
