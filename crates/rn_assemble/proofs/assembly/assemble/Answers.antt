use Rattle.std.proofs.lemmas.Result.{MatchResult-weaker}
use Rattle.rn_assemble.specs.GrammarView.{grammar_view}
use Rattle.rn_assemble.specs.inside.Views.{modules_view}
use Rattle.rn_assemble.proofs.WellFormed.FlatModules.{modules_flat}
use Rattle.rn_assemble.proofs.Answering.SetRefusal.{assembled_of_modules, first_of_modules, set_kept}
use Rattle.rn_assemble.proofs.assembly.assemble.Goals as goal

pub join_modules-requires-clause-flat : goal.join_modules-requires-clause-flat
join_modules-requires-clause-flat c = modules_flat c.args.set.now (modules_view c.in_ok-modules.modules.items) c.in_ok-modules.ensures.ok

pub join_modules-requires-clause-kept : goal.join_modules-requires-clause-kept
join_modules-requires-clause-kept c = set_kept c.args.set.now (modules_view c.in_ok-modules.modules.items) c.in_ok-modules.ensures.ok

pub returns : goal.returns
returns c =
    let s = c.args.set.now in
    let modules = modules_view c.in_ok-modules.modules.items in
    let a = c.in_ok-modules.ensures.ok in
    MatchResult-weaker c.join_modules.result c.join_modules.ensures (λ g h. assembled_of_modules s modules a (grammar_view g) h) (first_of_modules s modules a)
