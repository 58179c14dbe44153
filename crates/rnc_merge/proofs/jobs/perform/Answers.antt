use Rattle.std.proofs.Common.{[], ◌∷◌, inl, string_bytes, subst, sym}
use Rattle.rn_merge.specs.Runs.{bundles_view}
use Rattle.rnc_merge.specs.Jobs.{IsPerformed}
use Rattle.rnc_merge.proofs.ReadInputs.{given_as}
use Rattle.rnc_merge.proofs.jobs.perform.Goals as goal

pub returns-in_ok-text-in-Pack-clause-performed : goal.returns-in_ok-text-in-Pack-clause-performed
returns-in_ok-text-in-Pack-clause-performed g c =
    let gives = g.I.Inputs.gives c.args.inputs.now in
    let text = c.in_ok-text-in-Pack.text.items in
    subst (λ j. IsPerformed j gives (g.I.Inputs.refuses c.args.inputs.now) (g.W.Sink.contents c.args.out.now) (g.W.Sink.contents c.write_contribution.new.out) (g.W.Sink.has_failed c.write_contribution.new.out) c.write_contribution.result) (sym c.in-Pack.is)
    (inl (text ∷ [], (subst (λ p. gives p text) c.as_str.ensures.value c.in_ok-text-in-Pack.ensures.given, tt), c.write_contribution.ensures.written))

pub returns-in-Withdraw-clause-performed : goal.returns-in-Withdraw-clause-performed
returns-in-Withdraw-clause-performed g c =
    let gives = g.I.Inputs.gives c.args.inputs.now in
    subst (λ j. IsPerformed j gives (g.I.Inputs.refuses c.args.inputs.now) (g.W.Sink.contents c.args.out.now) (g.W.Sink.contents c.write_contribution-in-Withdraw.new.out) (g.W.Sink.has_failed c.write_contribution-in-Withdraw.new.out) c.write_contribution-in-Withdraw.result) (sym c.in-Withdraw.is)
    (inl ([], tt, c.write_contribution-in-Withdraw.ensures.written))

pub returns-in_ok-bundles-in-Join-clause-performed : goal.returns-in_ok-bundles-in-Join-clause-performed
returns-in_ok-bundles-in-Join-clause-performed g c =
    let gives = g.I.Inputs.gives c.args.inputs.now in
    subst (λ j. IsPerformed j gives (g.I.Inputs.refuses c.args.inputs.now) (g.W.Sink.contents c.args.out.now) (g.W.Sink.contents c.write_union.new.out) (g.W.Sink.has_failed c.write_union.new.out) c.write_union.result) (sym c.in-Join.is)
    (inl (bundles_view c.as_slice-in-Join.result.now, given_as gives _ _ _ _ c.as_slice.ensures.value c.as_slice-in-Join.ensures.value c.in_ok-bundles-in-Join.ensures.given, c.write_union.ensures.written))

pub returns-in_ok-bundles-in-List-clause-performed : goal.returns-in_ok-bundles-in-List-clause-performed
returns-in_ok-bundles-in-List-clause-performed g c =
    let gives = g.I.Inputs.gives c.args.inputs.now in
    subst (λ j. IsPerformed j gives (g.I.Inputs.refuses c.args.inputs.now) (g.W.Sink.contents c.args.out.now) (g.W.Sink.contents c.write_list.new.out) (g.W.Sink.has_failed c.write_list.new.out) c.write_list.result) (sym c.in-List.is)
    (inl (bundles_view c.as_slice-in-List-2.result.now, given_as gives _ _ _ _ c.as_slice-in-List.ensures.value c.as_slice-in-List-2.ensures.value c.in_ok-bundles-in-List.ensures.given, c.write_list.ensures.written))

pub returns-in_ok-bundles-in-Print-clause-performed : goal.returns-in_ok-bundles-in-Print-clause-performed
returns-in_ok-bundles-in-Print-clause-performed g c =
    let gives = g.I.Inputs.gives c.args.inputs.now in
    subst (λ j. IsPerformed j gives (g.I.Inputs.refuses c.args.inputs.now) (g.W.Sink.contents c.args.out.now) (g.W.Sink.contents c.write_schema.new.out) (g.W.Sink.has_failed c.write_schema.new.out) c.write_schema.result) (sym c.in-Print.is)
    (inl (bundles_view c.as_slice-in-Print-2.result.now, given_as gives _ _ _ _ c.as_slice-in-Print.ensures.value c.as_slice-in-Print-2.ensures.value c.in_ok-bundles-in-Print.ensures.given, c.write_schema.ensures.printed))

pub returns-in_ok-text-in-Check-clause-performed : goal.returns-in_ok-text-in-Check-clause-performed
returns-in_ok-text-in-Check-clause-performed g c =
    let gives = g.I.Inputs.gives c.args.inputs.now in
    let text = c.as_slice-in-Check.result.now in
    let given = subst (λ p. gives p c.in_ok-text-in-Check.text.items) c.as_str-in-Check.ensures.value c.in_ok-text-in-Check.ensures.given in
    subst (λ j. IsPerformed j gives (g.I.Inputs.refuses c.args.inputs.now) (g.W.Sink.contents c.args.out.now) (g.W.Sink.contents c.args.out.now) (g.W.Sink.has_failed c.args.out.now) c.check_text.result) (sym c.in-Check.is)
    (inl (text ∷ [], (subst (λ t. gives (string_bytes c.in-Check.file) t) (sym c.as_slice-in-Check.ensures.value) given, tt), c.check_text.ensures))
