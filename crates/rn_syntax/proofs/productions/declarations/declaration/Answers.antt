use Rattle.std.proofs.Common.{◌+◌}
use Rattle.rn_syntax.specs.View.{declaration_view}
use Rattle.rn_syntax.proofs.ProductionsRead.Compose.{reads_upto}
use Rattle.rn_syntax.proofs.ProductionsRead.Declared.{namespace_at, default_at, datatypes_at, no_keyword, no_such_keyword}
use Rattle.rn_syntax.proofs.ProductionsRead.Next.{place_is}
use Rattle.rn_syntax.proofs.productions.declarations.declaration.Goals as goal

pub returns-in-Namespace-clause-reads : goal.returns-in-Namespace-clause-reads
returns-in-Namespace-clause-reads c =
    reads_upto declaration_view c.args.tokens.now (c.args.at + 1) c.args.at _ (λ r g. g) (λ s. namespace_at (rw c.in-Namespace.is at c.in-Keyword.ensures.next.1)) c.namespace.ensures.reads

pub returns-in-Default-clause-reads : goal.returns-in-Default-clause-reads
returns-in-Default-clause-reads c =
    let n = c.in-Keyword.ensures.next in
    reads_upto declaration_view c.args.tokens.now (c.args.at + 1) c.args.at _ (λ r g. g) (λ s. default_at (place_is c.args.tokens.now n.1 c.place.ensures) (rw c.in-Default.is at n.1)) c.default.ensures.reads

pub returns-in-Datatypes-clause-reads : goal.returns-in-Datatypes-clause-reads
returns-in-Datatypes-clause-reads c =
    reads_upto declaration_view c.args.tokens.now (c.args.at + 1) c.args.at _ (λ r g. g) (λ s. datatypes_at (rw c.in-Datatypes.is at c.in-Keyword.ensures.next.1)) c.datatypes.ensures.reads

pub returns-in_default-keyword-clause-reads : goal.returns-in_default-keyword-clause-reads
returns-in_default-keyword-clause-reads c = λ s. let d = c.in_default-keyword in no_such_keyword c.in-Keyword.ensures.next.1 d.not-Namespace d.not-Default d.not-Datatypes

pub returns-in_default-clause-reads : goal.returns-in_default-clause-reads
returns-in_default-clause-reads c = λ s. no_keyword _ _ c.next.result c.next.ensures.next c.in_default.not-Keyword
