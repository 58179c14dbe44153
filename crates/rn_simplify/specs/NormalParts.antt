-- What a canonical grammar is made of, and where it comes from.
use Rattle.std.specs.Prelude.{List, String}
use Rattle.std.specs.declared.alloc.Global.{Global}
use Rattle.rn_pattern.specs.Matching.{Grammar}
use Rattle.rn_pattern.specs.Reached.{IsCanonicalOf}
use Rattle.rn_pattern.specs.View.{pattern_view}
use Rattle.rn_pattern.specs.declared.tree.Pattern.{Pattern}
use Rattle.rn_assemble.specs.DefinitionsView.{definitions_view}
use Rattle.rn_assemble.specs.WellFormed.{IsWellFormed, HasWritableTexts}

-- the grammar of a start and of definitions in the code
abbrev pub parts_view : Pattern → List (String Global × Pattern) → Grammar
parts_view start defs = record { start = pattern_view start; definitions = definitions_view defs }

-- N is the canonical grammar of a well-formed grammar whose texts can be written
pub record HasSource (N : Grammar) : Type 0 where
  pub source : Grammar
  pub well_formed : IsWellFormed source
  pub writable : HasWritableTexts source
  pub canonical : IsCanonicalOf source N
