-- All so far do.
use Rattle.std.proofs.Common.{take}
use Rattle.std.specs.Prelude.{All}
use Rattle.rn_pattern.specs.NameRules.{HasNameExcepts}
use Rattle.rn_pattern.specs.View.{name_class_view}
use Rattle.rn_pattern.proofs.name_classes.+name_excepts.Given as goal

abbrev pub invariant-have_name_excepts-loop-class : goal.invariant-have_name_excepts-loop-class
invariant-have_name_excepts-loop-class l = All (λ c. HasNameExcepts (name_class_view c)) (take l.class-index l.classes)
