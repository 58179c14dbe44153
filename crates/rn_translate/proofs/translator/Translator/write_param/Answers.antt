-- The brace of the first, the name, the text, and the brace of the last.
use Rattle.std.proofs.Common.{◌∷◌, [], sym, ap, ◌∙◌, Some, append_assoc}
use Rattle.std.specs.Prelude.{codes, unwrap_or}
use Rattle.rn_translate.specs.Terms.{literal, local, open_brace, close_brace}
use Rattle.rn_translate.specs.SchemaElements.{trimmed, value_of}
use Rattle.rn_translate.specs.Layouts.{if_so}
use Rattle.rn_translate.proofs.AddedTerms.{adds_equal, adds_more}
use Rattle.rn_translate.proofs.MeantElements.{meant_after}
use Rattle.rn_translate.proofs.translator.Translator.write_param.Goals as goal

pub returns-clause-added : goal.returns-clause-added
returns-clause-added c = λ e m holds.
    let brace = adds_equal _ _ _ _ (c.params_front.ensures ∙ ap (λ b. if_so b open_brace) m.is_first) c.in_ok-put_sign.ensures in
    let in_brace = meant_after _ _ _ _ e _ brace m in
    let name = c.trimmed.ensures ∙ ap trimmed (c.value-name_at.ensures ∙ ap (λ attributes. unwrap_or (value_of (codes "name") attributes) []) (sym in_brace.attributes)) in
    let named = adds_equal _ _ _ _ (ap (λ x. local x ∷ []) name) c.in_ok-put_local_name.ensures in
    let front = adds_more _ _ _ _ _ (adds_more _ _ _ _ _ brace named) c.in_ok-put_sign-2.ensures in
    let text = c.content-at.ensures.at ∙ sym ((meant_after _ _ _ _ e _ front m).text holds) in
    let written = adds_more _ _ _ _ _ front (c.in_ok-put.ensures (literal e.text ∷ []) (ap (λ x. Some (literal x) ∷ []) text)) in
    let end = adds_equal _ _ _ _ (c.params_end.ensures ∙ ap (λ b. if_so b close_brace) m.is_last) c.in_ok-put_sign-3.ensures in
    adds_equal _ _ _ _ (simp append_assoc) (adds_more _ _ _ _ _ written end)
