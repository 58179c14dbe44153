use Rattle.std.proofs.Common.{◌≡◌, take}
use Rattle.rn_pattern.specs.View.{parameters_view}
use Rattle.rn_syntax.specs.View.{params_view}
use Rattle.rn_assemble.proofs.resolving.resolution.params.Given as goal

abbrev pub invariant-loop-param : goal.invariant-loop-param
invariant-loop-param l = parameters_view l.params.items ≡ params_view (take l.param-index l.given)
