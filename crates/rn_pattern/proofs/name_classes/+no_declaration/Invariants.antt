-- All so far do.
use Rattle.std.proofs.Common.{take}
use Rattle.std.specs.Prelude.{All}
use Rattle.rn_pattern.specs.NameRules.{HasNoDeclaration}
use Rattle.rn_pattern.specs.View.{name_class_view}
use Rattle.rn_pattern.proofs.name_classes.+no_declaration.Given as goal

abbrev pub invariant-have_no_declaration-loop-class : goal.invariant-have_no_declaration-loop-class
invariant-have_no_declaration-loop-class l = All (λ c. HasNoDeclaration (name_class_view c)) (take l.class-index l.classes)
