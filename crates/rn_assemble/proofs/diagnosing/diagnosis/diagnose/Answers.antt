-- What is found of the modules is found of the set.
use Rattle.std.proofs.Common.{List, subst}
use Rattle.std.proofs.lemmas.Result.{IfErr-weaker, IfOk-weaker}
use Rattle.rn_syntax.proofs.OneReading.OneTree.{one_tree}
use Rattle.rn_assemble.specs.Components.{NamedModule}
use Rattle.rn_assemble.specs.Diagnosed.{AreFindings, ArePlaced, key_names}
use Rattle.rn_assemble.specs.inside.Views.{modules_view}
use Rattle.rn_assemble.proofs.Answering.SetRefusal.{first_of_modules, stands_back}
use Rattle.rn_assemble.proofs.Diagnoses.RefusalOrder.{first_finding}
use Rattle.rn_assemble.proofs.Refusals.NoRefusal.{stands}
use Rattle.rn_assemble.proofs.Refusals.OneSet.{one_modules}
use Rattle.rn_assemble.proofs.WellFormed.FlatModules.{modules_flat}
use Rattle.rn_assemble.proofs.diagnosing.diagnosis.diagnose.Goals as goal

pub diagnose_modules-requires-clause-flat : goal.diagnose_modules-requires-clause-flat
diagnose_modules-requires-clause-flat c = modules_flat c.args.set.now (modules_view c.in_ok-modules.modules.items) c.in_ok-modules.ensures.ok

pub returns-clause-err : goal.returns-clause-err
returns-clause-err c = IfErr-weaker c.diagnose_modules.result _ _ (first_of_modules c.args.set.now (modules_view c.in_ok-modules.modules.items) c.in_ok-modules.ensures.ok) c.diagnose_modules.ensures.err

pub returns-clause-findings : goal.returns-clause-findings
returns-clause-findings c = λ modules a.
    let same = one_modules one_tree c.args.set.now (modules_view c.in_ok-modules.modules.items) modules c.in_ok-modules.ensures.ok a in
    IfOk-weaker c.diagnose_modules.result _ _ (λ d h. subst (λ (ms : List NamedModule). AreFindings ms (key_names d) d.findings.items) same h) c.diagnose_modules.ensures.findings

pub returns-clause-first : goal.returns-clause-first
returns-clause-first c = λ modules r a first t.
    let s = c.args.set.now in
    let same = one_modules one_tree s (modules_view c.in_ok-modules.modules.items) modules c.in_ok-modules.ensures.ok a in
    IfOk-weaker c.diagnose_modules.result _ _ (λ d h. first_finding modules (key_names d) d.findings.items (subst (λ (ns : List NamedModule). AreFindings ns (key_names d) d.findings.items) same h) r (stands_back s modules a r first.0, λ p l k. first.1 p l (stands s modules a p k)) t) c.diagnose_modules.ensures.findings

pub returns-clause-places : goal.returns-clause-places
returns-clause-places c = λ modules a.
    let same = one_modules one_tree c.args.set.now (modules_view c.in_ok-modules.modules.items) modules c.in_ok-modules.ensures.ok a in
    IfOk-weaker c.diagnose_modules.result _ _ (λ d h. subst (λ (ms : List NamedModule). ArePlaced ms (key_names d) d.findings.items) same h) c.diagnose_modules.ensures.places
