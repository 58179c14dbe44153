-- Includes that no refusal stands against, and the modules that none includes (RELAX NG 2001, 4.7).
use Rattle.std.specs.Prelude.{◌≡◌, ℕ, ◌<◌, List, length, map, sum_by}
use Rattle.rn_text.specs.Texts.{Text}
use Rattle.rn_pattern.specs.References.{Reaches}
use Rattle.rn_graph.specs.Graph.{AllBelow}
use Rattle.rn_assemble.specs.Components.{NamedModule, Includes, instance_limit, instances, roots}
use Rattle.rn_assemble.specs.Refusal.{Wants}
use Rattle.rn_assemble.specs.inside.ContentsOf.{name_at}

-- each include names a module, no module comes back to itself, there are few enough instances, and the numbers are those of the roots
pub record AreIncluded (modules : List NamedModule) (numbers : List ℕ) : Type 0 where
  pub none_missing : (x w : Text) → ¬ Wants modules x w
  pub no_cycle : (x : Text) → ¬ Reaches (Includes modules) x x
  pub few : ¬ (instance_limit < sum_by (λ (m : NamedModule). instances modules m.name) (roots modules))
  pub within : AllBelow (length modules) numbers
  pub are : map (name_at modules) numbers ≡ map (λ (m : NamedModule). m.name) (roots modules)
