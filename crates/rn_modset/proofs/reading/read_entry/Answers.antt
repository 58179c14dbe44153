-- The entry's fault.
use Rattle.std.proofs.Common.{◌≡◌, arith}
use Rattle.rn_modset.specs.declared.faults.BundleFault.TheVariants.{Memory}
use Rattle.rn_modset.specs.declared.headers.HeaderLine.TheVariants.{Text}
use Rattle.rn_modset.specs.Bundles.{header_line}
use Rattle.rn_modset.specs.BundleFaults.{IsEntryFault, no_header, bad_text, entry_memory}
use Rattle.rn_modset.specs.inside.Headers.{header_view, MayStand}
use Rattle.rn_modset.proofs.BundleFaults.RefusedCalls.{refused_by}
use Rattle.rn_modset.proofs.BundlesWritten.SpelledBundles.{header_at, no_header_at}
use Rattle.rn_modset.proofs.reading.read_entry.Goals as goal

pub returns-then-at-ge-MAX_CONTRIBUTIONS-clause-fault : goal.returns-then-at-ge-MAX_CONTRIBUTIONS-clause-fault
returns-then-at-ge-MAX_CONTRIBUTIONS-clause-fault c = no_header (λ h g. absurd (omega (arith, g.0)))

pub returns-in_default-clause-fault : goal.returns-in_default-clause-fault
returns-in_default-clause-fault c = no_header (λ h g. no_header_at c.args.withdrawals c.args.line.now c.in_default.ensures h g.1)

pub returns-in_err-contribution-in-Withdrawal-clause-fault : goal.returns-in_err-contribution-in-Withdrawal-clause-fault
returns-in_err-contribution-in-Withdrawal-clause-fault c =
    refused_by (IsEntryFault c.args.withdrawals c.args.at c.args.line.now c.args.after.now) c.from_residual.result Memory c.from_residual.ensures.1 entry_memory

pub returns-in_err-text-in-Text-clause-fault : goal.returns-in_err-text-in-Text-clause-fault
returns-in_err-text-in-Text-clause-fault c =
    let header : (c.args.line.now ≡ header_line (header_view (Text c.in-Text.name c.in-Text.revision c.in-Text.len c.in-Text.digest))) × MayStand c.args.withdrawals (header_view (Text c.in-Text.name c.in-Text.revision c.in-Text.len c.in-Text.digest)) =
    rw c.in-Text.is at c.in-Some.ensures in
    let bad = bad_text c.in-Text.name.now c.in-Text.digest.now c.in-Text.revision c.in-Text.len c.in_err-text-in-Text.field-0.0 (omega arith, header_at c.args.withdrawals c.args.line.now (header_view (Text c.in-Text.name c.in-Text.revision c.in-Text.len c.in-Text.digest)) header.0 header.1) c.in_err-text-in-Text.ensures.fault in
    refused_by (IsEntryFault c.args.withdrawals c.args.at c.args.line.now c.args.after.now) c.from_residual-in_err-text-in-Text.result c.in_err-text-in-Text.field-0.0 c.from_residual-in_err-text-in-Text.ensures.1 bad

pub returns-in_err-contribution-in-Text-clause-fault : goal.returns-in_err-contribution-in-Text-clause-fault
returns-in_err-contribution-in-Text-clause-fault c =
    refused_by (IsEntryFault c.args.withdrawals c.args.at c.args.line.now c.args.after.now) c.from_residual-in_err-contribution-in-Text.result Memory c.from_residual-in_err-contribution-in-Text.ensures.1 entry_memory
