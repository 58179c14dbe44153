use Rattle.std.proofs.Common.{◌≡◌, refl, string_bytes, subst, sym}
use Rattle.std.specs.Io.KnownBytes.{Appends}
use Rattle.rn_merge.specs.Runs.{bundles_view, IsPrinting, LeavesSink}
use Rattle.rn_merge.specs.Streams.{AppendsFront}
use Rattle.rn_merge.proofs.Runs.RefusedRuns.{printed_run, refused_printing, refused_leaves}
use Rattle.rn_merge.proofs.Verdicts.Schemas.{schema}
use Rattle.rn_merge.proofs.run.run_print.Goals as goal

pub returns-clause-run : goal.returns-clause-run
returns-clause-run g c =
    let union = c.in_ok-union.union in
    let text = string_bytes c.in-Ok.text in (
      union,
      c.in_ok-union.ensures.ok,
      (text, schema union text c.in-Ok.ensures.verdict, subst (AppendsFront (g.W.Sink.contents c.args.out.now) (g.W.Sink.contents c.write_output.new.out)) c.as_bytes.ensures.value c.write_output.ensures.front, c.in-Err-write_output.ensures.err),
    )

pub returns-in-Err-clause-run : goal.returns-in-Err-clause-run
returns-in-Err-clause-run g c =
    let union = c.in_ok-union.union in
    printed_run (bundles_view c.args.bundles.now) _ _ _ union _ c.in_ok-union.ensures.ok
    (subst (IsPrinting union _ _ _) (sym c.refusal_outcome.ensures) (refused_printing _ _ _ union c.in-Err.refusal c.in-Err.ensures.verdict))

pub returns-in-Err-clause-kept : goal.returns-in-Err-clause-kept
returns-in-Err-clause-kept g c =
    let Kept = c.args.out.now ≡ c.args.out.now in
    subst (λ r. LeavesSink r Kept) (sym c.refusal_outcome.ensures) (refused_leaves c.in-Err.refusal Kept refl)

pub returns-in-Ok-write_output-clause-run : goal.returns-in-Ok-write_output-clause-run
returns-in-Ok-write_output-clause-run g c =
    let union = c.in_ok-union.union in
    let text = string_bytes c.in-Ok.text in (
      union,
      c.in_ok-union.ensures.ok,
      (text, schema union text c.in-Ok.ensures.verdict, subst (Appends (g.W.Sink.contents c.args.out.now) (g.W.Sink.contents c.write_output.new.out)) c.as_bytes.ensures.value c.in-Ok-write_output.ensures.ok, c.in-Ok-write_output.ensures.sound),
    )
