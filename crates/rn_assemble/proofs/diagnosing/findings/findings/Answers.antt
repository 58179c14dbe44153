-- What was found of each kind in turn.
use Rattle.std.proofs.Common.{List, length, ap, ◌∙◌, subst}
use Rattle.rn_assemble.specs.declared.diagnosing.findings.Finding.{Finding}
use Rattle.rn_assemble.specs.inside.Diagnosing.{AddsRank}
use Rattle.rn_assemble.specs.inside.Views.{names_of}
use Rattle.rn_assemble.proofs.Diagnoses.KeyFindings.{are_findings, are_placed}
use Rattle.rn_assemble.proofs.Diagnoses.KnownSegments.{has_brought}
use Rattle.rn_assemble.proofs.diagnosing.findings.findings.Goals as goal

pub push_overrides-requires : goal.push_overrides-requires
push_overrides-requires c = (names_of c.args.keys.now, c.requires)

pub depths_of-requires : goal.depths_of-requires
depths_of-requires c = has_brought c.requires.modules c.args.segments.now c.requires.components c.requires.segments_are

pub push_plain_twice-requires-clause-known : goal.push_plain_twice-requires-clause-known
push_plain_twice-requires-clause-known c = (names_of c.args.keys.now, c.requires)

pub push_plain_twice-requires-clause-depths : goal.push_plain_twice-requires-clause-depths
push_plain_twice-requires-clause-depths c = ap length c.deref.ensures.value ∙ c.in_ok-depths.ensures

pub push_mixed-requires-clause-known : goal.push_mixed-requires-clause-known
push_mixed-requires-clause-known c = (names_of c.args.keys.now, c.requires)

pub push_mixed-requires-clause-depths : goal.push_mixed-requires-clause-depths
push_mixed-requires-clause-depths c = ap length c.deref-2.ensures.value ∙ c.in_ok-depths.ensures

pub push_no_start-requires : goal.push_no_start-requires
push_no_start-requires c = (names_of c.args.keys.now, c.requires)

pub returns-clause-findings : goal.returns-clause-findings
returns-clause-findings c = λ modules expanded.
    let names = names_of c.args.keys.now in
    let a = c.push_overrides.new.found.items in
    are_findings modules names a c.push_plain_twice.new.found.items c.push_mixed.new.found.items c.push_no_start.new.found.items c.push_undefined_names.new.found.items
    (subst (λ (fs : List Finding). AddsRank modules names 5 fs a) c.new-found.ensures.items (c.in_ok-push_overrides.ensures modules names expanded))
    (c.in_ok-push_plain_twice.ensures modules names expanded)
    (c.in_ok-push_mixed.ensures modules names expanded)
    (c.in_ok-push_no_start.ensures modules names expanded)
    (c.in_ok-push_undefined_names.ensures modules expanded)

pub returns-clause-places : goal.returns-clause-places
returns-clause-places c = λ modules expanded.
    let names = names_of c.args.keys.now in
    let a = c.push_overrides.new.found.items in
    are_placed modules names a c.push_plain_twice.new.found.items c.push_mixed.new.found.items c.push_no_start.new.found.items c.push_undefined_names.new.found.items
    (subst (λ (fs : List Finding). AddsRank modules names 5 fs a) c.new-found.ensures.items (c.in_ok-push_overrides.ensures modules names expanded))
    (c.in_ok-push_plain_twice.ensures modules names expanded)
    (c.in_ok-push_mixed.ensures modules names expanded)
    (c.in_ok-push_no_start.ensures modules names expanded)
    (c.in_ok-push_undefined_names.ensures modules expanded)
