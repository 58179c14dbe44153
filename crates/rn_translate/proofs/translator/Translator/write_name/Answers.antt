-- The name that the text is.
use Rattle.std.proofs.Common.{sym, ap, ◌∙◌}
use Rattle.rn_translate.specs.Layouts.{name_terms}
use Rattle.rn_translate.proofs.AddedTerms.{adds_equal}
use Rattle.rn_translate.proofs.translator.Translator.write_name.Goals as goal

pub returns-clause-added : goal.returns-clause-added
returns-clause-added c = λ e m holds.
    adds_equal _ _ _ _ (ap (name_terms e e.context.namespace) (c.content-at.ensures.at ∙ sym (m.text holds)))
    (c.in_ok-put_name.ensures e.context.scope e.context.namespace e.context.bare m.scope m.namespace m.bare)
