use Rattle.std.proofs.Common.{◌+◌}
use Rattle.rn_syntax.proofs.ProductionsRead.Compose.{skips_upto}
use Rattle.rn_syntax.proofs.ProductionsRead.Skipping.{annotation_at, no_annotation}
use Rattle.rn_syntax.proofs.productions.annotations.annotation.Goals as goal

pub returns-in-LeftBracket-clause-skips : goal.returns-in-LeftBracket-clause-skips
returns-in-LeftBracket-clause-skips c = skips_upto c.args.tokens.now (c.args.at + 1) c.args.at _ (λ r g. g) (λ s. annotation_at c.in-LeftBracket.ensures.next.1) c.skip_closed.ensures.skips

pub returns-in_default-clause-skips : goal.returns-in_default-clause-skips
returns-in_default-clause-skips c = λ s. no_annotation _ _ c.next.result c.next.ensures.next c.in_default.not-LeftBracket
