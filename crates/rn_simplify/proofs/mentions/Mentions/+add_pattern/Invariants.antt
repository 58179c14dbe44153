use Rattle.std.proofs.Common.{take}
use Rattle.rn_pattern.specs.View.{shared_trees}
use Rattle.rn_simplify.specs.inside.Gathers.{Gathers, by_trees}
use Rattle.rn_simplify.proofs.mentions.Mentions.+add_pattern.Given as goal

abbrev pub invariant-add_patterns-loop-member : goal.invariant-add_patterns-loop-member
invariant-add_patterns-loop-member l = Gathers (by_trees (shared_trees (take l.member-index l.members))) l.initial.self l.self
