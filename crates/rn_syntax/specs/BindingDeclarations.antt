-- The declarations that bindings of the code were made of.
use Rattle.std.specs.Prelude.{List, map}
use Rattle.rn_syntax.specs.declared.bindings.Bindings.{Bindings}
use Rattle.rn_syntax.specs.Tree.{Declaration}
use Rattle.rn_syntax.specs.View.{declaration_view}

abbrev pub bound : Bindings → List Declaration
bound b = map declaration_view b.declarations.now
