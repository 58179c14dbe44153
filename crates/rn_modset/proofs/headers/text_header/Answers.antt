-- The fields behind a text's name, cut at their spaces.
use Rattle.std.proofs.Common.{rules, arith}
use Rattle.rn_modset.proofs.TestAnswers.TruthValues.{differs}
use Rattle.rn_modset.proofs.LineParts.HeaderLines.{AreCut, no_length, bad_revision, bad_length, bad_limits}
use Rattle.rn_modset.proofs.headers.text_header.Goals as goal
use Rattle.rn_modset.proofs.headers.text_header.Goals.{then-len-via-then-len, then-len-via-else-len+then-not-is_digest}

pub returns-in_err-len : goal.returns-in_err-len
returns-in_err-len c =
    let outer = c.in_ok-revision.ensures in
    rw c.from_residual-in_err-len.ensures (no_length c.args.fields.now c.in_ok-revision.revision.now c.in_ok-revision.fields.now outer.0 outer.1 c.in_err-len.ensures)

pub returns-in_err-revision-2 : goal.returns-in_err-revision-2
returns-in_err-revision-2 c =
    let cut : AreCut c.args.fields.now c.in_ok-revision.revision.now c.in_ok-len.len.now c.in_ok-len.digest.now = record {
      rest = c.in_ok-revision.fields.now;
      first = c.in_ok-revision.ensures.0;
      revision_lacks = c.in_ok-revision.ensures.1;
      second = c.in_ok-len.ensures.0;
      len_lacks = c.in_ok-len.ensures.1;
    } in
    rw c.from_residual-in_err-revision-2.ensures (bad_revision c.args.fields.now c.in_ok-revision.revision.now c.in_ok-len.len.now c.in_ok-len.digest.now cut c.in_err-revision-2.ensures)

pub returns-in_err-len-2 : goal.returns-in_err-len-2
returns-in_err-len-2 c =
    let cut : AreCut c.args.fields.now c.in_ok-revision.revision.now c.in_ok-len.len.now c.in_ok-len.digest.now = record {
      rest = c.in_ok-revision.fields.now;
      first = c.in_ok-revision.ensures.0;
      revision_lacks = c.in_ok-revision.ensures.1;
      second = c.in_ok-len.ensures.0;
      len_lacks = c.in_ok-len.ensures.1;
    } in
    rw c.from_residual-in_err-len-2.ensures (bad_length c.args.fields.now c.in_ok-revision.revision.now c.in_ok-len.len.now c.in_ok-len.digest.now cut c.in_err-len-2.ensures)

pub returns-then-len : goal.returns-then-len
returns-then-len c =
    let cut : AreCut c.args.fields.now c.in_ok-revision.revision.now c.in_ok-len.len.now c.in_ok-len.digest.now = record {
      rest = c.in_ok-revision.fields.now;
      first = c.in_ok-revision.ensures.0;
      revision_lacks = c.in_ok-revision.ensures.1;
      second = c.in_ok-len.ensures.0;
      len_lacks = c.in_ok-len.ensures.1;
    } in
    bad_limits c.args.fields.now c.in_ok-revision.revision.now c.in_ok-len.len.now c.in_ok-len.digest.now c.in_ok-len-2.len cut (search rules) c.in_ok-len-2.ensures
    (λ short good. elim c.then-len.branch [
      | then-len-via-then-len w ↦ absurd (omega (arith, w.if-len.true))
      | then-len-via-else-len+then-not-is_digest w ↦ differs w.if-not-is_digest.true (w.is_digest.ensures.1 good)
    ])
