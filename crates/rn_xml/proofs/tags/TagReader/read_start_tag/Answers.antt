use Rattle.std.proofs.Common.{sym, subst}
use Rattle.rn_xml.specs.inside.ReadDocuments.{IsReading, OpensTag}
use Rattle.rn_xml.proofs.Openings.OpenReaders.{tag_reading, empty_tag_reading}
use Rattle.std.proofs.lemmas.Result.{err_from_is_err_and}
use Rattle.rn_xml.proofs.tags.TagReader.read_start_tag.Goals as goal
use Rattle.rn_xml.proofs.tags.TagReader.read_start_tag.Goals.{then-is_empty, else-is_empty}

pub returns-clause-document : goal.returns-clause-document
returns-clause-document c = λ cs opened open_is parent takes needs.
    let mid = c.open_tag.new.self in
    let after = c.in_ok-is_empty.after.now in
    let opens = c.in_ok-is_empty.ensures.opens opened open_is parent in
    let reading : IsReading cs c.if-is_empty.self after = elim c.if-is_empty.branch [
      | then-is_empty w ↦ subst (λ s. IsReading cs s after) (sym w.self-is)
          (empty_tag_reading cs c.args.self.now mid w.close.new.self opened c.args.tag.now after (subst (OpensTag c.args.self.now mid opened c.args.tag.now after) w.if-is_empty.true opens) takes needs w.close.ensures.same w.close.ensures.closed)
      | else-is_empty w ↦ subst (λ s. IsReading cs s after) (sym w.self-is)
          (tag_reading cs c.args.self.now mid opened c.args.tag.now after (subst (OpensTag c.args.self.now mid opened c.args.tag.now after) w.if-is_empty.false opens) takes needs)
    ] in
    reading

pub returns-in_err-is_empty-clause-refused : goal.returns-in_err-is_empty-clause-refused
returns-in_err-is_empty-clause-refused c =
    let p = err_from_is_err_and c.from_residual.result c.from_residual.ensures.1 in
    rw (p.1, p.2) (λ own opened open_is. c.in_err-is_empty.ensures.refused own opened open_is)
