use Rattle.std.proofs.Common.{take}
use Rattle.rn_assemble.specs.GrammarView.{definitions_view}
use Rattle.rn_simplify.specs.inside.Gathers.{Gathers, by_definitions}
use Rattle.rn_simplify.proofs.mentions.Mentions.add_definitions.Given as goal

abbrev pub invariant-loop-body : goal.invariant-loop-body
invariant-loop-body l = Gathers (by_definitions (definitions_view (take l.body-index l.defs))) l.initial.self l.self
