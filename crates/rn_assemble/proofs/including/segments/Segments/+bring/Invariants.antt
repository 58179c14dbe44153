use Rattle.std.proofs.Common.{◌≡◌, ◌+◌, ◌-◌, ◌*◌, List}
use Rattle.std.specs.Rc.{rc_str_bytes}
use Rattle.rn_assemble.specs.Components.{NamedModule}
use Rattle.rn_assemble.specs.inside.Bringing.{CanBring}
use Rattle.rn_assemble.proofs.Expansion.ModuleExpansion.{Going, IsModule}
use Rattle.rn_assemble.proofs.including.segments.Segments.+bring.Given as goal

abbrev pub decreases-bring : goal.decreases-bring
decreases-bring l = 2 * l.depth

abbrev pub decreases-bring_included : goal.decreases-bring_included
decreases-bring_included l = 2 * l.depth + 1

abbrev pub invariant-bring-includes : goal.invariant-bring-includes
invariant-bring-includes l = record {
  number_is : l.number ≡ l.include-index;
  going : (modules : List NamedModule) → CanBring modules l.fn.self → IsModule modules l.«module».0 l.content
      → Going modules l.«module».0 (rc_str_bytes l.context.inherited.now) (l.depth - 1) l.content l.fn.self l.self l.include-index l.from;
}
