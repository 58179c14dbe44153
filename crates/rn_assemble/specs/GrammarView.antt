-- The grammar that a `Grammar` stands for: the trees of its patterns, by their names.
use Rattle.rn_pattern.specs.Matching.{Grammar}
use Rattle.rn_assemble.specs.DefinitionsView.{view_of}
use Rattle.rn_assemble.specs.declared.grammar.Grammar as code
pub use Rattle.rn_assemble.specs.DefinitionsView.{definitions_view}

abbrev pub grammar_view : code.Grammar → Grammar
grammar_view g = view_of g.start g.defs.entries
