-- The includes of modules by the modules' numbers (RELAX NG 2001, 4.7).
use Rattle.std.specs.Prelude.{◌≡◌, ℕ, ◌<◌, ◌==◌, not, List, [], length, map, filter, Contains, Option, Some, None}
use Rattle.std.specs.List.{concat, list_any, range_with_len}
use Rattle.rn_text.specs.Texts.{Text, text_cmp}
use Rattle.rn_graph.specs.Graph.{IsGraph, row}
use Rattle.rn_assemble.specs.Components.{NamedModule, included_by, modules_named}
use Rattle.rn_assemble.specs.inside.ContentsOf.{name_at}
use Rattle.rn_assemble.specs.Least.{IsLeast}

-- the row of each module has the numbers of those that it includes, in the order of the text; none is missing
pub record AreInclusions (modules : List NamedModule) (rows : List (List ℕ)) : Type 0 where
  pub size : length rows ≡ length modules
  pub graph : IsGraph rows
  pub named : (i : ℕ) → i < length modules → map (name_at modules) (row rows i) ≡ included_by modules (name_at modules i)

-- no module has this name
abbrev pub IsMissing : List NamedModule → Text → Type 0
IsMissing modules x = modules_named x modules ≡ []

-- the least of the texts of which P holds, if there is one
abbrev pub IsLeastAmong : (Text → Type 0) → List Text → Option Text → Type 0
IsLeastAmong P xs None = (x : Text) → Contains xs x → ¬ P x
IsLeastAmong P xs (Some y) = IsLeast text_cmp (λ x. Contains xs x × P x) y

-- the nodes to which no edge leads, in order
abbrev pub entries : List (List ℕ) → List ℕ
entries rows = filter (λ x. not (list_any (λ y. x == y) (concat rows))) (range_with_len 0 (length rows))
