-- The trees of definitions, by their names, and the grammar that they make with a start.
use Rattle.std.specs.Prelude.{List, map, String, string_bytes}
use Rattle.std.specs.declared.alloc.Global.{Global}
use Rattle.rn_pattern.specs.Matching.{Grammar}
use Rattle.rn_pattern.specs.Tree.{Tree}
use Rattle.rn_text.specs.Texts.{Text}
use Rattle.rn_pattern.specs.View.{pattern_view}
use Rattle.rn_pattern.specs.declared.tree.Pattern.{Pattern}

abbrev pub definitions_view : List (String Global × Pattern) → List (Text × Tree)
definitions_view ds = map (λ d. (string_bytes d.0, pattern_view d.1)) ds

abbrev pub view_of : Pattern → List (String Global × Pattern) → Grammar
view_of start ds = record { start = pattern_view start; definitions = definitions_view ds }
