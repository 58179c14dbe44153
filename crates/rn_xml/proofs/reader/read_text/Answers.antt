use Rattle.std.proofs.Common.{sym, ◌∙◌}
use Rattle.std.specs.Prelude.{string_bytes, string_len}
use Rattle.std.specs.Str.{chars}
use Rattle.rn_xml.proofs.Openings.OpenReaders.{silent_at_tag, text_at_tag, no_characters, is_zero, is_some_more}
use Rattle.std.proofs.lemmas.Result.{err_from_is_err_and}
use Rattle.rn_xml.proofs.Refusals.RefusedDocuments.{text_refused}
use Rattle.rn_xml.proofs.reader.read_text.Goals as goal

pub returns-then-is_empty-clause-document : goal.returns-then-is_empty-clause-document
returns-then-is_empty-clause-document c = λ cs last reading.
    silent_at_tag cs c.args.reader.now c.args.parent c.args.text.now c.in_ok-content.tag.now (chars (string_bytes c.in_ok-content.content)) (no_characters c.in_ok-content.content (is_zero (string_len c.in_ok-content.content) (sym c.is_empty.ensures ∙ c.if-is_empty.true)))
    c.in_ok-content.ensures.characters c.in_ok-content.ensures.all c.in_ok-content.ensures.left.0 last reading

pub returns-clause-document : goal.returns-clause-document
returns-clause-document c = λ cs last reading.
    text_at_tag cs c.args.reader.now c.add_text.new.self c.args.parent c.in_ok-content.left c.args.text.now c.in_ok-content.tag.now (chars (string_bytes c.in_ok-content.content)) c.in_ok-content.ensures.characters c.in_ok-content.ensures.all
    (c.in_ok-content.ensures.start (is_some_more (string_len c.in_ok-content.content) (sym c.is_empty.ensures ∙ c.if-is_empty.false))) c.in_ok-content.ensures.left.1 c.requires.room c.add_text.ensures.same last c.in_ok-add_text.ensures.added reading

pub returns-in_err-content-clause-refused : goal.returns-in_err-content-clause-refused
returns-in_err-content-clause-refused c =
    let p = err_from_is_err_and c.from_residual.result c.from_residual.ensures.1 in
    rw (p.1, p.2) (λ own cs last reading. text_refused cs c.args.reader.now c.args.parent c.args.text.now last reading (c.in_err-content.ensures.refused own))

pub returns-in_err-add_text-clause-refused : goal.returns-in_err-add_text-clause-refused
returns-in_err-add_text-clause-refused c =
    let p = err_from_is_err_and c.from_residual-in_err-add_text.result c.from_residual-in_err-add_text.ensures.1 in
    rw (p.1, p.2) (λ own. absurd (own.not_memory c.in_err-add_text.ensures.memory))
