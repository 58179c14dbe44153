-- All so far do.
use Rattle.std.proofs.Common.{take}
use Rattle.std.specs.Prelude.{All}
use Rattle.rn_pattern.specs.NameRules.{HasNoAny}
use Rattle.rn_pattern.specs.View.{name_class_view}
use Rattle.rn_pattern.proofs.name_classes.+no_any.Given as goal

abbrev pub invariant-have_no_any-loop-class : goal.invariant-have_no_any-loop-class
invariant-have_no_any-loop-class l = All (λ c. HasNoAny (name_class_view c)) (take l.class-index l.classes)
