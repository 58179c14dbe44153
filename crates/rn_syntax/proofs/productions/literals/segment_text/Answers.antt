-- What is written as its text stands for itself.
use Rattle.std.proofs.Common.{ap, sym, ◌∙◌}
use Rattle.std.specs.Str.{chars, encode_utf8_all}
use Rattle.std.proofs.lemmas.Str.{encodes-chars}
use Rattle.rn_text.specs.Segments.{is_verbatim, text_after}
use Rattle.rn_text.proofs.Quoting.VerbatimTexts.{verbatim_text}
use Rattle.rn_syntax.proofs.ProductionsRead.Segmented.{written_is}
use Rattle.rn_syntax.proofs.productions.literals.segment_text.Goals as goal

pub returns-then-is_verbatim-clause-text : goal.returns-then-is_verbatim-clause-text
returns-then-is_verbatim-clause-text c = λ h.
    let written = c.in-Some.written.now in
    let cut = c.in-Some.ensures.cases in
    let is = written_is (chars c.args.segment.text.now) (chars written) (chars c.behind_plain.result.now) _ cut c.behind_plain.ensures c.is_verbatim.ensures ∙ c.if-is_verbatim.true in
    sym (encodes-chars written c.in-Some.ensures.utf8) ∙ ap encode_utf8_all (sym (verbatim_text (chars written) (ap is_verbatim cut ∙ is)) ∙ ap (text_after 0) cut)

pub returns-then-is_verbatim-clause-borrows : goal.returns-then-is_verbatim-clause-borrows
returns-then-is_verbatim-clause-borrows c = λ h.
    sym (written_is (chars c.args.segment.text.now) (chars c.in-Some.written.now) (chars c.behind_plain.result.now) _ c.in-Some.ensures.cases c.behind_plain.ensures c.is_verbatim.ensures ∙ c.if-is_verbatim.true)

pub returns-clause-borrows : goal.returns-clause-borrows
returns-clause-borrows c = λ h.
    sym (written_is (chars c.args.segment.text.now) (chars c.in-Some.written.now) (chars c.behind_plain.result.now) _ c.in-Some.ensures.cases c.behind_plain.ensures c.is_verbatim.ensures ∙ c.if-is_verbatim.false)
