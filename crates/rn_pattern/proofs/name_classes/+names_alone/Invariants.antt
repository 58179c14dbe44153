-- All so far do.
use Rattle.std.proofs.Common.{take}
use Rattle.std.specs.Prelude.{All}
use Rattle.rn_pattern.specs.NameRules.{HasNamesAlone}
use Rattle.rn_pattern.specs.View.{name_class_view}
use Rattle.rn_pattern.proofs.name_classes.+names_alone.Given as goal

abbrev pub invariant-have_names_alone-loop-class : goal.invariant-have_names_alone-loop-class
invariant-have_names_alone-loop-class l = All (λ c. HasNamesAlone (name_class_view c)) (take l.class-index l.classes)
