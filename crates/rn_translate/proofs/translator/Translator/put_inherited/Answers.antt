-- The namespace, where it isn't the default one.
use Rattle.std.proofs.Common.{◌∷◌, List, [], refl, sym, ap, ◌∙◌}
use Rattle.std.specs.Prelude.{codes, not, Option, option_map}
use Rattle.rn_text.specs.declared.keywords.Keyword.TheVariants as w
use Rattle.rn_translate.specs.Terms.{Namespace, Term, keyword, prefix, symbol}
use Rattle.rn_translate.specs.Layouts.{if_so}
use Rattle.rn_translate.specs.inside.Meanings.{uri_meant}
use Rattle.rn_translate.specs.declared.translator.Translator.{Translator}
use Rattle.rn_translate.proofs.AddedTerms.{adds_none, adds_equal, adds_more, ok_equal, ok_more}
use Rattle.rn_translate.proofs.UriMeanings.{same_meant}
use Rattle.rn_translate.proofs.translator.Translator.put_inherited.Goals as goal

abbrev told : Namespace → List Term
told n = keyword w.Inherit ∷ symbol (codes "=") ∷ prefix n ∷ []

pub returns-then-is : goal.returns-then-is
returns-then-is c = λ default n table d is.
    let same = same_meant _ table c.args.namespace c.args.self.now.default n default is d ∙ sym c.is.ensures ∙ c.if-is.true in
    adds_equal _ _ _ _ (sym (ap (λ b. if_so (not b) (told n)) same)) (adds_none _)

pub returns : goal.returns
returns c = λ default n table d is.
    let same = same_meant _ table c.args.namespace c.args.self.now.default n default is d ∙ sym c.is.ensures ∙ c.if-is.false in
    let word = adds_more _ _ _ _ _ c.in_ok-put_sign.ensures (c.in_ok-put.ensures (keyword w.Inherit ∷ []) refl) in
    let front = adds_more _ _ _ _ _ word c.in_ok-put_sign-2.ensures in
    ok_equal _ _ _ _ _ (sym (ap (λ b. if_so (not b) (told n)) same))
    (ok_more _ _ _ _ _ _ front (c.put-2.ensures (prefix n ∷ []) (ap (λ (u : Option Namespace). option_map prefix u ∷ []) (ap (λ (t : Translator). uri_meant t.uris c.args.namespace) front.same ∙ is))))
