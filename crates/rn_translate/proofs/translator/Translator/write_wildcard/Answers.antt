-- A parenthesis, where the except needs it, and the class.
use Rattle.std.proofs.Common.{ap, ◌∙◌}
use Rattle.rn_translate.specs.inside.Meanings.{term_meant}
use Rattle.rn_translate.specs.declared.translator.Translator.{Translator}
use Rattle.rn_translate.proofs.AddedTerms.{adds_more}
use Rattle.rn_translate.proofs.translator.Translator.write_wildcard.Goals as goal

pub returns-clause-added : goal.returns-clause-added
returns-clause-added c = λ ts is.
    let first = c.in_ok-layout.ensures.added in
    adds_more _ _ _ _ _ first (c.in_ok-put.ensures ts (ap (λ (t : Translator). term_meant t.uris c.args.class) first.same ∙ is))
