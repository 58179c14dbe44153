-- A keyword and a brace.
use Rattle.std.proofs.Common.{◌∷◌, [], refl}
use Rattle.rn_translate.specs.Terms.{keyword, open_brace}
use Rattle.rn_translate.proofs.AddedTerms.{adds_more}
use Rattle.rn_translate.proofs.translator.Translator.write_items.Goals as goal

pub returns-clause-added : goal.returns-clause-added
returns-clause-added c = adds_more _ _ _ (keyword c.args.keyword ∷ []) open_brace (c.in_ok-put.ensures (keyword c.args.keyword ∷ []) refl) c.in_ok-put_sign.ensures
