-- One lack more is a finding.
use Rattle.std.proofs.Common.{◌++◌, List, map, sym, ap, ◌∙◌, append-nil}
use Rattle.std.proofs.lemmas.List.{take_all}
use Rattle.rn_assemble.specs.declared.diagnosing.findings.Lack.{Lack}
use Rattle.rn_assemble.specs.inside.Diagnosing.{lack_finding}
use Rattle.rn_assemble.proofs.Diagnoses.KeyFindings.{said_more}
use Rattle.rn_assemble.proofs.Diagnoses.Lacks.{lacks_said}
use Rattle.rn_assemble.proofs.diagnosing.findings.push_overrides.Goals as goal

pub loop-lack-init : goal.loop-lack-init
loop-lack-init c = sym (append-nil c.args.found.now.items)

pub loop-lack-preserved : goal.loop-lack-preserved
loop-lack-preserved c =
    let d : Lack = record { key = record { 0 = 0 }; component = record { «module» = record { 0 = 0 }; number = 0 }; include = record { «module» = record { 0 = 0 }; number = 0 } } in
    said_more lack_finding c.deref-lack-items.result.now c.loop-lack.lack-index d c.loop-lack-test.true c.args.found.now.items c.loop-lack.found.items c.push.new.self.items c.loop-lack.invariant c.in_ok-push.ensures.items

pub returns : goal.returns
returns c = λ modules names expanded.
    let ls = c.in_ok-lacks.lacks.items in
    let all = take_all c.loop-lack.lack-index c.deref-lack-items.result.now c.loop-lack-test.false ∙ c.deref-lack-items.ensures.value in
    lacks_said modules names c.args.segments.now c.args.rows.now expanded _ expanded.rows_are.size ls (c.in_ok-lacks.ensures.lacks modules names _ expanded.rows_are expanded.segments_are) c.in_ok-lacks.ensures.in_order c.args.found.now.items c.loop-lack.found.items
    (c.loop-lack.invariant ∙ ap (λ (ms : List Lack). c.args.found.now.items ++ map lack_finding ms) all)
