use Rattle.std.proofs.Common.{◌+◌, map, string_bytes, subst, sym, take}
use Rattle.std.specs.List.{AllZip}
use Rattle.rn_merge.specs.Runs.{bundles_view}
use Rattle.rnc_merge.specs.Inputs.{IsInputFault}
use Rattle.rnc_merge.proofs.ReadInputs.{first_unread, one_more, refused_at}
use Rattle.rnc_merge.proofs.inputs.read_files.Goals as goal

pub returns-in_err-bytes-clause-refused : goal.returns-in_err-bytes-clause-refused
returns-in_err-bytes-clause-refused g c =
    let gives = g.I.Inputs.gives c.args.inputs.now in
    let refuses = g.I.Inputs.refuses c.args.inputs.now in
    let (why, refused, is) = c.in_err-bytes.ensures.refused in
    refused_at (IsInputFault gives refuses (map string_bytes c.args.files.now)) c.from_residual-in_err-bytes.result c.in_err-bytes.field-0.0 c.from_residual-in_err-bytes.ensures.1
    (first_unread gives c.args.files.now c.loop-index.read.items _ _ c.loop-index-test.true c.index-files-index.is c.loop-index.invariant refuses c.in_err-bytes.field-0.0 (why, subst (λ p. refuses p why) c.as_str.ensures.value refused, is))

pub loop-index-preserved : goal.loop-index-preserved
loop-index-preserved g c =
    let gives = g.I.Inputs.gives c.args.inputs.now in
    let bytes = c.in_ok-bytes.bytes in
    subst (λ l. AllZip gives (take (c.loop-index.index + 1) (map string_bytes c.args.files.now)) (bundles_view l)) (sym c.in_ok-push.ensures.items)
    (one_more gives c.args.files.now c.loop-index.read.items _ _ c.loop-index-test.true c.index-files-index.is c.loop-index.invariant bytes (subst (λ p. gives p bytes.items) c.as_str.ensures.value c.in_ok-bytes.ensures.given))
