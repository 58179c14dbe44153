use Rattle.std.proofs.Common.{◌∙◌, [], refl, sym, arith}
use Rattle.rn_xml.specs.inside.Rests.{source}
use Rattle.rn_xml.proofs.Openings.OpenReaders.{root_read}
use Rattle.std.proofs.lemmas.Result.{err_from_is_err_and}
use Rattle.rn_xml.proofs.Openings.OpenReaders.{root_needs}
use Rattle.rn_xml.proofs.Openings.OpenNeeds.{no_element}
use Rattle.rn_xml.proofs.Refusals.RefusedDocuments.{root_element}
use Rattle.rn_xml.proofs.reader.read_root.Goals as goal

pub loop-parent-init : goal.loop-parent-init
loop-parent-init c = record {
  rest_utf8 = c.in_ok-rest.ensures.utf8;
  shorter = c.in_ok-rest.ensures.reads;
  len = c.read_start_tag.ensures.same;
  some = omega (arith, c.in_ok-rest.ensures.one);
  so_far = λ open_is. c.in_ok-rest.ensures.document (source c.args.text.now) [] open_is refl (λ x behind is. is) (root_element (source c.args.text.now));
}

pub loop-parent-preserved : goal.loop-parent-preserved
loop-parent-preserved c =
    let before = c.loop-parent.invariant in
    record {
      rest_utf8 = c.in_ok-rest-2.ensures.utf8;
      shorter = omega (arith, c.in_ok-rest-2.ensures.reads);
      len = c.read_piece.ensures.same ∙ before.len;
      some = omega (arith, c.read_piece.ensures.more);
      so_far = λ open_is. c.in_ok-rest-2.ensures.document (source c.args.text.now) (before.so_far open_is);
    }

pub returns-clause-document : goal.returns-clause-document
returns-clause-document c = λ open_is. root_read (source c.args.text.now) c.loop-parent.reader c.loop-parent.rest.now (sym c.in_default.ensures.is) (c.loop-parent.invariant.so_far open_is)

pub returns-clause-only : goal.returns-clause-only
returns-clause-only c = λ open_is. root_needs (source c.args.text.now) c.loop-parent.reader c.loop-parent.rest.now (sym c.in_default.ensures.is) (c.loop-parent.invariant.so_far open_is)

pub returns-in_err-rest-clause-refused : goal.returns-in_err-rest-clause-refused
returns-in_err-rest-clause-refused c =
    let p = err_from_is_err_and c.from_residual.result c.from_residual.ensures.1 in
    rw (p.1, p.2) (λ own open_is. no_element [] (source c.args.text.now) (c.in_err-rest.ensures.refused own [] open_is))

pub returns-in_err-rest-2-clause-refused : goal.returns-in_err-rest-2-clause-refused
returns-in_err-rest-2-clause-refused c =
    let p = err_from_is_err_and c.from_residual-in_err-rest-2.result c.from_residual-in_err-rest-2.ensures.1 in
    rw (p.1, p.2) (λ own open_is. c.in_err-rest-2.ensures.refused own (source c.args.text.now) (c.loop-parent.invariant.so_far open_is))
