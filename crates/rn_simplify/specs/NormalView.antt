-- The grammar that a `Normal` is.
use Rattle.rn_pattern.specs.Matching.{Grammar}
use Rattle.rn_simplify.specs.NormalParts.{parts_view}
use Rattle.rn_simplify.specs.declared.normal.Normal.{Normal}
pub use Rattle.rn_assemble.specs.DefinitionsView.{definitions_view}

abbrev pub normal_view : Normal → Grammar
normal_view n = parts_view n.start n.defs.items
