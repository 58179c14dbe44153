-- The line cut at its first two spaces, and each kind of header.
use Rattle.std.proofs.Common.{◌≡◌, ◌≢◌, sym, ◌∙◌, codes}
use Rattle.std.specs.Cmp.Lexicographic.{same_text}
use Rattle.rn_modset.proofs.LineParts.HeaderLines.{IsCut, no_name, bad_name, no_such_kind, text_by, withdrawal_by}
use Rattle.rn_modset.proofs.TestAnswers.ComparedBytes.{other_text}
use Rattle.rn_modset.proofs.TestAnswers.TruthValues.{differs}
use Rattle.rn_modset.proofs.headers.header.Goals as goal
use Rattle.rn_modset.proofs.headers.header.Goals.{else-eq-2-via-then-eq-2+else-withdrawals, else-eq-2-via-else-eq-2}

pub returns-in_err-name : goal.returns-in_err-name
returns-in_err-name c =
    rw c.from_residual-in_err-name.ensures (no_name c.args.withdrawals c.args.line.now c.in_ok-kind.kind.now c.in_ok-kind.fields.now c.in_ok-kind.ensures.0 c.in_ok-kind.ensures.1 c.in_err-name.ensures)

pub returns-in_err-name-2 : goal.returns-in_err-name-2
returns-in_err-name-2 c =
    let cut : IsCut c.args.line.now c.in_ok-kind.kind.now c.in_ok-name.name.now c.in_ok-name.fields.now = record {
      rest = c.in_ok-kind.fields.now;
      first = c.in_ok-kind.ensures.0;
      kind_lacks = c.in_ok-kind.ensures.1;
      second = c.in_ok-name.ensures.0;
      name_lacks = c.in_ok-name.ensures.1;
    } in
    rw c.from_residual-in_err-name-2.ensures (bad_name c.args.withdrawals c.args.line.now c.in_ok-kind.kind.now c.in_ok-name.name.now c.in_ok-name.fields.now cut c.in_err-name-2.ensures)

pub returns-then-eq : goal.returns-then-eq
returns-then-eq c =
    let name : c.in_ok-name-2.name.now ≡ c.in_ok-name.name.now = c.in_ok-name-2.ensures.0 in
    let cut : IsCut c.args.line.now c.in_ok-kind.kind.now c.in_ok-name-2.name.now c.in_ok-name.fields.now = record {
      rest = c.in_ok-kind.fields.now;
      first = c.in_ok-kind.ensures.0;
      kind_lacks = c.in_ok-kind.ensures.1;
      second = rw name c.in_ok-name.ensures.0;
      name_lacks = rw name c.in_ok-name.ensures.1;
    } in
    let kind : c.in_ok-kind.kind.now ≡ codes "module" = same_text c.in_ok-kind.kind.now c.as_slice.result.now c.if-eq.ensures ∙ c.as_slice.ensures in
    text_by c.args.withdrawals c.args.line.now c.in_ok-kind.kind.now c.in_ok-name-2.name.now c.in_ok-name.fields.now c.text_header.result cut kind c.text_header.ensures

pub returns-then-withdrawals : goal.returns-then-withdrawals
returns-then-withdrawals c =
    let name : c.in_ok-name-2.name.now ≡ c.in_ok-name.name.now = c.in_ok-name-2.ensures.0 in
    let cut : IsCut c.args.line.now c.in_ok-kind.kind.now c.in_ok-name-2.name.now c.in_ok-name.fields.now = record {
      rest = c.in_ok-kind.fields.now;
      first = c.in_ok-kind.ensures.0;
      kind_lacks = c.in_ok-kind.ensures.1;
      second = rw name c.in_ok-name.ensures.0;
      name_lacks = rw name c.in_ok-name.ensures.1;
    } in
    let kind : c.in_ok-kind.kind.now ≡ codes "withdrawn" = same_text c.in_ok-kind.kind.now c.as_slice-2.result.now c.if-eq-2.ensures ∙ c.as_slice-2.ensures in
    rw c.if-withdrawals.true (withdrawal_by c.args.line.now c.in_ok-kind.kind.now c.in_ok-name-2.name.now c.in_ok-name.fields.now c.withdrawal_header.result cut kind c.withdrawal_header.ensures)

pub returns : goal.returns
returns c =
    let cut : IsCut c.args.line.now c.in_ok-kind.kind.now c.in_ok-name.name.now c.in_ok-name.fields.now = record {
      rest = c.in_ok-kind.fields.now;
      first = c.in_ok-kind.ensures.0;
      kind_lacks = c.in_ok-kind.ensures.1;
      second = c.in_ok-name.ensures.0;
      name_lacks = c.in_ok-name.ensures.1;
    } in
    let no_module : c.in_ok-kind.kind.now ≢ codes "module" = λ e. other_text c.in_ok-kind.kind.now c.as_slice.result.now c.if-eq.ensures (e ∙ sym c.as_slice.ensures) in
    no_such_kind c.args.withdrawals c.args.line.now c.in_ok-kind.kind.now c.in_ok-name.name.now c.in_ok-name.fields.now cut no_module
    (λ e. elim c.else-eq-2.branch [
      | else-eq-2-via-then-eq-2+else-withdrawals w ↦ differs w.if-withdrawals.false
      | else-eq-2-via-else-eq-2 w ↦ λ _. other_text c.in_ok-kind.kind.now c.as_slice-2.result.now w.if-eq-2.ensures (e ∙ sym c.as_slice-2.ensures)
    ])
