-- The keyword, the file, and the namespace that it inherits.
use Rattle.std.proofs.Common.{◌∷◌, [], refl, sym, ap, ◌∙◌, Some}
use Rattle.std.specs.Prelude.{codes, unwrap_or}
use Rattle.rn_translate.specs.Terms.{keyword, literal}
use Rattle.rn_translate.specs.SchemaElements.{value_of}
use Rattle.rn_translate.proofs.AddedTerms.{adds_more, ok_more}
use Rattle.rn_translate.proofs.MeantElements.{meant_after}
use Rattle.rn_translate.proofs.translator.Translator.put_link.Goals as goal

pub returns : goal.returns
returns c = λ e m.
    let href = unwrap_or (value_of (codes "href") e.attributes) [] in
    let file = c.value-at.ensures ∙ ap (λ attributes. unwrap_or (value_of (codes "href") attributes) []) (sym m.attributes) in
    let first = adds_more _ _ _ _ _ (c.in_ok-put.ensures (keyword c.args.keyword ∷ []) refl) (c.in_ok-put-2.ensures (literal href ∷ []) (ap (λ x. Some (literal x) ∷ []) file)) in
    let now = meant_after _ _ _ _ e _ first m in
    ok_more _ _ _ _ _ _ first (c.put_inherited.ensures e.default e.context.namespace now.scope.knows.table now.default now.namespace)
