-- What is held is the least of the literals so far that names no module.
use Rattle.std.proofs.Common.{take, option_map}
use Rattle.rn_assemble.specs.inside.Inclusions.{IsLeastAmong, IsMissing}
use Rattle.rn_assemble.specs.inside.Views.{modules_view, texts_of}
use Rattle.rn_assemble.proofs.including.inclusion.least_missing.Given as goal

abbrev pub invariant-loop-literal : goal.invariant-loop-literal
invariant-loop-literal l = IsLeastAmong (IsMissing (modules_view l.modules)) (texts_of (take l.literal-index l.wanted)) (option_map (λ s. s.now) l.least)
