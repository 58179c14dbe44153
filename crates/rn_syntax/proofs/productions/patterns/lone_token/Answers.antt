-- A reference, `empty`, `notAllowed` or `text` before `}` is a pattern.
use Rattle.std.proofs.Common.{refl, sym}
use Rattle.rn_syntax.proofs.ProductionsRead.Compose.{took_same}
use Rattle.rn_syntax.proofs.ProductionsRead.PatternViews.{view-Empty, view-NotAllowed, view-Ref, view-Text}
use Rattle.rn_syntax.proofs.ProductionsRead.Cores.{empty_took, not_allowed_took, text_took, ref_took}
use Rattle.rn_syntax.proofs.ProductionsRead.Chains.{lone_pattern}
use Rattle.rn_syntax.proofs.productions.patterns.lone_token.Goals as goal

pub returns-in-Ident-clause-reads : goal.returns-in-Ident-clause-reads
returns-in-Ident-clause-reads c =
    let here = c.in-Ident.ensures.next.1 in
    took_same (sym (view-Ref c.in-Ident.name)) (lone_pattern here refl refl (ref_took here) c.in-RightBrace.ensures.next.1)

pub returns-in-Empty-clause-reads : goal.returns-in-Empty-clause-reads
returns-in-Empty-clause-reads c =
    let here = rw c.in-Empty.is at c.in-Keyword.ensures.next.1 in
    took_same (sym view-Empty) (lone_pattern here refl refl (empty_took here) c.in-RightBrace.ensures.next.1)

pub returns-in-NotAllowed-clause-reads : goal.returns-in-NotAllowed-clause-reads
returns-in-NotAllowed-clause-reads c =
    let here = rw c.in-NotAllowed.is at c.in-Keyword.ensures.next.1 in
    took_same (sym view-NotAllowed) (lone_pattern here refl refl (not_allowed_took here) c.in-RightBrace.ensures.next.1)

pub returns-in-Text-clause-reads : goal.returns-in-Text-clause-reads
returns-in-Text-clause-reads c =
    let here = rw c.in-Text.is at c.in-Keyword.ensures.next.1 in
    took_same (sym view-Text) (lone_pattern here refl refl (text_took here) c.in-RightBrace.ensures.next.1)
