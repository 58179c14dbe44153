-- A keyword, and the name of the definition.
use Rattle.std.proofs.Common.{◌∷◌, [], refl, ap}
use Rattle.std.specs.Prelude.{codes}
use Rattle.rn_text.specs.declared.keywords.Keyword.TheVariants as w
use Rattle.rn_translate.specs.Terms.{keyword, identifier}
use Rattle.rn_translate.specs.SchemaElements.{name_in}
use Rattle.rn_translate.specs.inside.ElementsMeant.{attributes_at}
use Rattle.rn_translate.specs.declared.translator.Translator.{Translator}
use Rattle.rn_translate.proofs.AddedTerms.{ok_equal, ok_more}
use Rattle.rn_translate.proofs.translator.Translator.write_parent_reference.Goals as goal

pub returns-clause-added : goal.returns-clause-added
returns-clause-added c =
    let first = c.in_ok-put.ensures (keyword w.Parent ∷ []) refl in
    let named = λ (t : Translator). keyword w.Parent ∷ identifier (name_in (codes "name") (attributes_at t.document.now c.args.element.now)) ∷ [] in
    ok_equal _ _ _ _ _ (ap named first.same) (ok_more _ _ _ _ _ _ first c.write_reference.ensures.added)
