-- All so far do.
use Rattle.std.proofs.Common.{take}
use Rattle.std.specs.Prelude.{All}
use Rattle.rn_pattern.specs.NameRules.{KeepsNameRules}
use Rattle.rn_pattern.specs.View.{shared_view}
use Rattle.rn_pattern.proofs.name_classes.+name_rules.Given as goal

abbrev pub invariant-keep_name_rules-loop-member : goal.invariant-keep_name_rules-loop-member
invariant-keep_name_rules-loop-member l = All (λ c. KeepsNameRules (shared_view c)) (take l.member-index l.members)
