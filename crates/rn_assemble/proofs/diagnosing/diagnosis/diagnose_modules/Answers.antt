-- The modules are expanded, and all is found of them.
use Rattle.std.proofs.Common.{sym, subst}
use Rattle.rn_assemble.specs.Diagnosed.{AreFindings, ArePlaced}
use Rattle.rn_assemble.specs.inside.Checked.{AreExpanded}
use Rattle.rn_assemble.specs.inside.Views.{modules_view, names_of}
use Rattle.rn_assemble.proofs.Answering.ExpandedModules.{modules_expanded}
use Rattle.rn_assemble.proofs.Diagnoses.KnownSegments.{known_by}
use Rattle.rn_assemble.proofs.diagnosing.diagnosis.diagnose_modules.Goals as goal

expanded : (c : goal.After-segments-2-1) → AreExpanded (modules_view c.args.modules.items) (names_of c.in_ok-keys.keys) c.in_ok-contents.rows c.in_ok-segments.segments
expanded c = modules_expanded c.args.modules.items c.as_slice.result.now _ c.as_slice-3.result.now c.in_ok-modules.items.items (names_of c.in_ok-keys.keys) c.in_ok-roots.roots.items c.as_slice-5.result.now c.in_ok-contents.contents.items c.as_slice-4.result.now c.in_ok-contents.rows c.in_ok-segments.segments
    c.requires.in_order c.requires.flat c.as_slice.ensures.value c.in_ok-roots.ensures c.as_slice-3.ensures.value c.in_ok-modules.ensures.items
    c.in_ok-contents.ensures.contents c.in_ok-contents.ensures.rows c.as_slice-4.ensures.value c.as_slice-5.ensures.value c.in_ok-segments.ensures.segments c.in_ok-segments.ensures.lacks

pub left_definitions-requires : goal.left_definitions-requires
left_definitions-requires c = (names_of c.in_ok-keys.keys, known_by (modules_view c.args.modules.items) (names_of c.in_ok-keys.keys) c.in_ok-contents.rows c.in_ok-segments.segments (expanded c))

pub findings-requires : goal.findings-requires
findings-requires c = let here : goal.After-segments-2-1 = assumption in known_by (modules_view c.args.modules.items) (names_of c.in_ok-keys.keys) c.in_ok-contents.rows c.in_ok-segments.segments (expanded here)

pub way_of-requires : goal.way_of-requires
way_of-requires c = let here : goal.After-segments-2-1 = assumption in known_by (modules_view c.args.modules.items) (names_of c.in_ok-keys.keys) c.in_ok-contents.rows c.in_ok-segments.segments (expanded here)

pub returns-clause-findings : goal.returns-clause-findings
returns-clause-findings c =
    let here : goal.After-segments-2-1 = assumption in
    let modules = modules_view c.args.modules.items in
    subst (λ ns. AreFindings modules ns c.in_ok-findings.field-0.items) (sym c.in_ok-names_of_keys.ensures) (c.in_ok-findings.ensures.findings modules (expanded here))

pub returns-clause-places : goal.returns-clause-places
returns-clause-places c =
    let here : goal.After-segments-2-1 = assumption in
    let modules = modules_view c.args.modules.items in
    subst (λ ns. ArePlaced modules ns c.in_ok-findings.field-0.items) (sym c.in_ok-names_of_keys.ensures) (c.in_ok-findings.ensures.places modules (expanded here))
