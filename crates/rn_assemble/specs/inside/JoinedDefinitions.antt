-- The definitions to which the components of a set are joined.
use Rattle.std.specs.Prelude.{◌≡◌, ℕ, List, String, Vec}
use Rattle.std.specs.declared.alloc.Global.{Global}
use Rattle.rn_pattern.specs.declared.tree.Pattern.{Pattern}
use Rattle.rn_assemble.specs.Combine.{joined_grammar}
use Rattle.rn_assemble.specs.Components.{Component, Key}
use Rattle.rn_assemble.specs.DefinitionsView.{definitions_view}
use Rattle.rn_assemble.specs.Refusal.{BreaksNameRules}
use Rattle.rn_assemble.specs.inside.Tied.{HaveTied, firsts_of}

-- the definitions of all names, with the first places of their members, where no key breaks the restrictions on name classes
pub record AreDefinitions (cs : List Component) (ds : List (String Global × Pattern)) (firsts : List (Vec ℕ Global)) : Type 0 where
  pub are : definitions_view ds ≡ (joined_grammar cs).definitions
  pub tied : HaveTied (firsts_of firsts) (definitions_view ds)
  pub keep : (k : Key) → ¬ BreaksNameRules cs k
