-- The names of the references so far were added.
use Rattle.std.proofs.Common.{◌∷◌, [], map, take}
use Rattle.rn_pattern.specs.declared.references.Reach.TheVariants.{Everywhere}
use Rattle.rn_assemble.specs.inside.Diagnosing.{AddsUnmarked}
use Rattle.rn_assemble.specs.inside.Referred.{names_within, reference_view}
use Rattle.rn_assemble.specs.inside.Views.{names_of}
use Rattle.rn_assemble.proofs.diagnosing.undefined_names.push_undefined_of.Given as goal

abbrev pub invariant-loop-number : goal.invariant-loop-number
invariant-loop-number l = AddsUnmarked (l.component ∷ []) (names_of l.keys) l.is_defined (names_within Everywhere (map reference_view (take l.number l.references.items))) l.fn.found.items l.found.items
