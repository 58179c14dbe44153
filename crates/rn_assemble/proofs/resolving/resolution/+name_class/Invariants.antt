-- The members so far are the classes so far, resolved.
use Rattle.std.proofs.Common.{◌≡◌, map, take}
use Rattle.std.specs.Rc.{rc_str_bytes}
use Rattle.rn_pattern.specs.View.{name_class_view}
use Rattle.rn_syntax.specs.View.{class_view}
use Rattle.rn_assemble.specs.inside.ContextBindings.{InContext}
use Rattle.rn_assemble.specs.Resolve.{resolved_class}
use Rattle.rn_assemble.proofs.resolving.resolution.+name_class.Given as goal

abbrev pub invariant-name_classes-loop-class : goal.invariant-name_classes-loop-class
invariant-name_classes-loop-class l = InContext l.context (λ inherited ds. map name_class_view l.members.items ≡ map (λ c. resolved_class inherited ds (rc_str_bytes l.own) (class_view c)) (take l.class-index l.classes))
