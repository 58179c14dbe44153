-- One name more is a finding.
use Rattle.std.proofs.Common.{◌++◌, List, map, sym, ap, ◌∙◌, append-nil}
use Rattle.std.proofs.lemmas.List.{take_all}
use Rattle.rn_assemble.specs.Components.{set_components}
use Rattle.rn_assemble.specs.declared.diagnosing.undefined_names.UndefinedName.{UndefinedName}
use Rattle.rn_assemble.specs.inside.Diagnosing.{undefined_finding}
use Rattle.rn_assemble.specs.inside.Views.{names_of}
use Rattle.rn_assemble.proofs.Diagnoses.KeyFindings.{said_more}
use Rattle.rn_assemble.proofs.Diagnoses.UndefinedNames.{undefined_said}
use Rattle.rn_assemble.proofs.Referring.LeastUndefined.{no_text}
use Rattle.rn_assemble.proofs.diagnosing.findings.push_undefined_names.Goals as goal

pub loop-undefined-init : goal.loop-undefined-init
loop-undefined-init c = sym (append-nil c.args.found.now.items)

pub loop-undefined-preserved : goal.loop-undefined-preserved
loop-undefined-preserved c =
    let d : UndefinedName = record { name = no_text; reference = record { component = record { «module» = record { 0 = 0 }; number = 0 }; number = 0 } } in
    said_more undefined_finding c.deref-undefined-items.result.now c.loop-undefined.undefined-index d c.loop-undefined-test.true c.args.found.now.items c.loop-undefined.found.items c.push.new.self.items c.loop-undefined.invariant c.in_ok-push.ensures.items

pub returns : goal.returns
returns c = λ modules expanded.
    let us = c.in_ok-names.names.items in
    let all = take_all c.loop-undefined.undefined-index c.deref-undefined-items.result.now c.loop-undefined-test.false ∙ c.deref-undefined-items.ensures.value in
    undefined_said modules (names_of c.args.keys.now) us (c.in_ok-names.ensures.names modules (set_components modules) expanded.in_order expanded.rows_are expanded.segments_are) (c.in_ok-names.ensures.places modules expanded.rows_are) c.args.found.now.items c.loop-undefined.found.items
    (c.loop-undefined.invariant ∙ ap (λ (vs : List UndefinedName). c.args.found.now.items ++ map undefined_finding vs) all)
