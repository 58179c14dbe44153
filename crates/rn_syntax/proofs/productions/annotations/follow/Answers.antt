use Rattle.std.proofs.Common.{◌+◌}
use Rattle.rn_syntax.proofs.ProductionsRead.Compose.{skips_upto}
use Rattle.rn_syntax.proofs.ProductionsRead.Skipping.{follow_name, named_at, no_name}
use Rattle.rn_syntax.proofs.productions.annotations.follow.Goals as goal

pub returns-in-Ident-clause-skips : goal.returns-in-Ident-clause-skips
returns-in-Ident-clause-skips c =
    let n = follow_name c.next.result _ _ c.in-Ident.is c.next.ensures.next in
    skips_upto c.args.tokens.now (c.args.at + 1) c.args.at _ (λ r g. g) (λ s. named_at n.3 n.2) c.annotation.ensures.skips

pub returns-in_default-clause-skips : goal.returns-in_default-clause-skips
returns-in_default-clause-skips c = λ s. no_name _ _ c.next.result c.next.ensures.next c.in_default.not-Ident c.in_default.not-Keyword c.in_default.not-Prefixed
