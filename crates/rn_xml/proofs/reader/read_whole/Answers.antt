use Rattle.std.proofs.Common.{◌∙◌, length, sym}
use Rattle.std.specs.Str.{chars}
use Rattle.rn_xml.specs.inside.Rests.{source}
use Rattle.rn_xml.proofs.Openings.OpenReaders.{is_zero}
use Rattle.rn_xml.proofs.WholeDocuments.{document_read}
use Rattle.std.proofs.lemmas.Result.{err_from_is_err_and}
use Rattle.rn_xml.proofs.Refusals.RefusedDocuments.{no_root_there, no_root_behind, no_tag_there, no_element_there, no_misc_behind, more_behind, some_source}
use Rattle.rn_xml.proofs.reader.read_whole.Goals as goal

pub returns-clause-document : goal.returns-clause-document
returns-clause-document c = document_read _ (chars c.args.text.now) (source c.in_ok-prolog.prolog.now) (source c.in_ok-root.root.now) (source c.in_ok-behind.behind.now) c.in_ok-rest.rest.now
    c.in_ok-prolog.ensures.declared c.in_ok-root.ensures.misc (c.in_ok-behind.ensures.document (c.in_ok-reader.ensures.opened _)) c.in_ok-rest.ensures.misc
    (is_zero (length c.in_ok-rest.rest.now) (sym c.is_empty.ensures ∙ c.if-not-is_empty.false))

pub returns-in_err-prolog-clause-refused : goal.returns-in_err-prolog-clause-refused
returns-in_err-prolog-clause-refused c =
    let p = err_from_is_err_and c.from_residual.result c.from_residual.ensures.1 in
    rw (p.1, p.2) (λ own. no_root_there (source c.args.text.now) c.in_err-prolog.ensures.refused)

pub returns-in_err-root-clause-refused : goal.returns-in_err-root-clause-refused
returns-in_err-root-clause-refused c =
    let p = err_from_is_err_and c.from_residual-in_err-root.result c.from_residual-in_err-root.ensures.1 in
    rw (p.1, p.2) (λ own. no_root_behind (source c.args.text.now) (source c.in_ok-prolog.prolog.now) c.in_ok-prolog.ensures.only c.in_err-root.ensures.refused)

pub returns-in-Some-clause-refused : goal.returns-in-Some-clause-refused
returns-in-Some-clause-refused c = λ own.
    let none = rw c.in-Some.is at c.no_root.ensures.no_tag in
    no_tag_there (source c.args.text.now) (source c.in_ok-prolog.prolog.now) c.in_ok-prolog.ensures.only (source c.in_ok-root.root.now) c.in_ok-root.ensures.misc c.in_ok-root.ensures.all none

pub returns-in_err-behind-clause-refused : goal.returns-in_err-behind-clause-refused
returns-in_err-behind-clause-refused c =
    let p = err_from_is_err_and c.from_residual-in_err-behind.result c.from_residual-in_err-behind.ensures.1 in
    rw (p.1, p.2) (λ own. no_element_there (source c.args.text.now) (source c.in_ok-prolog.prolog.now) c.in_ok-prolog.ensures.only (source c.in_ok-root.root.now) c.in_ok-root.ensures.misc c.in_ok-root.ensures.all
    (c.in_err-behind.ensures.refused own (c.in_ok-reader.ensures.opened _)))

pub returns-in_err-rest-clause-refused : goal.returns-in_err-rest-clause-refused
returns-in_err-rest-clause-refused c =
    let p = err_from_is_err_and c.from_residual-in_err-rest.result c.from_residual-in_err-rest.ensures.1 in
    rw (p.1, p.2) (λ own. no_misc_behind (source c.args.text.now) (source c.in_ok-prolog.prolog.now) c.in_ok-prolog.ensures.only (source c.in_ok-root.root.now) c.in_ok-root.ensures.misc c.in_ok-root.ensures.all (source c.in_ok-behind.behind.now) (c.in_ok-behind.ensures.only (c.in_ok-reader.ensures.opened _))
    c.in_err-rest.ensures.refused)

pub returns-then-not-is_empty-clause-refused : goal.returns-then-not-is_empty-clause-refused
returns-then-not-is_empty-clause-refused c = λ own. more_behind (source c.args.text.now) (source c.in_ok-prolog.prolog.now) c.in_ok-prolog.ensures.only (source c.in_ok-root.root.now) c.in_ok-root.ensures.misc c.in_ok-root.ensures.all (source c.in_ok-behind.behind.now) (c.in_ok-behind.ensures.only (c.in_ok-reader.ensures.opened _))
    (source c.in_ok-rest.rest.now) c.in_ok-rest.ensures.misc c.in_ok-rest.ensures.all (some_source c.in_ok-rest.rest.now c.in_ok-rest.ensures.utf8 (sym c.is_empty.ensures ∙ c.if-not-is_empty.true))
