-- The datatype, and the text.
use Rattle.std.proofs.Common.{◌∷◌, [], sym, ap, ◌∙◌, Some}
use Rattle.rn_translate.specs.Terms.{literal}
use Rattle.rn_translate.proofs.AddedTerms.{adds_more}
use Rattle.rn_translate.proofs.MeantElements.{meant_after}
use Rattle.rn_translate.proofs.translator.Translator.write_value.Goals as goal

pub returns-clause-added : goal.returns-clause-added
returns-clause-added c = λ e m holds.
    let first = c.in_ok-put_given_type.ensures e m in
    let text = c.content-at.ensures.at ∙ sym ((meant_after _ _ _ _ e _ first m).text holds) in
    adds_more _ _ _ _ _ first (c.in_ok-put.ensures (literal e.text ∷ []) (ap (λ x. Some (literal x) ∷ []) text))
