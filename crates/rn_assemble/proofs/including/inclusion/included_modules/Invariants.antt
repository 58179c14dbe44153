-- The numbers of the literals so far.
use Rattle.std.proofs.Common.{◌≡◌, take}
use Rattle.rn_assemble.specs.inside.Views.{modules_view, texts_of}
use Rattle.rn_assemble.proofs.Expansion.WantedNumbers.{numbers}
use Rattle.rn_assemble.proofs.including.inclusion.included_modules.Given as goal

abbrev pub invariant-loop-literal : goal.invariant-loop-literal
invariant-loop-literal l = l.row.items ≡ numbers (modules_view l.modules) (texts_of (take l.literal-index l.wanted))
