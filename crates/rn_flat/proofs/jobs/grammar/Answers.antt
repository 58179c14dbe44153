use Rattle.std.proofs.Common.{subst}
use Rattle.rn_assemble.specs.GrammarView.{grammar_view}
use Rattle.rn_assemble.specs.ShortTexts.{IsShortened, short_texts}
use Rattle.rn_flat.proofs.jobs.grammar.Goals as goal

pub returns-in-Ok : goal.returns-in-Ok
returns-in-Ok c =
    let g = c.in-Ok.grammar in
    λ is. subst (λ s. IsShortened s (short_texts g.uris) (grammar_view g.grammar)) is c.in-Ok.ensures
