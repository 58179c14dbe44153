-- The faults of a reader of modules.
use Rattle.std.specs.Prelude.{List}
use Rattle.rn_text.specs.declared.source.Token.{Token}
use Rattle.rn_syntax.specs.declared.fault.SyntaxFault.{SyntaxFault}
use Rattle.rn_syntax.specs.declared.fault.SyntaxFault.TheVariants.{Syntax, Memory}
use Rattle.rn_syntax.specs.Spelled.{AreSpelled}
use Rattle.rn_syntax.specs.Faults.{StopsAt}

-- the grammar is not met, or memory was refused
abbrev pub IsSyntax : List Token → SyntaxFault → Type 0
IsSyntax xs (Syntax at) = AreSpelled xs → StopsAt xs at
IsSyntax xs Memory = Unit {0}
IsSyntax xs _ = ⊥
