-- A fault of the tree is one of the tokens.
use Rattle.std.proofs.Common.{◌≡◌, ℕ, List, map, Option, Some, None}
use Rattle.rn_text.specs.declared.source.Token.{Token}
use Rattle.rn_text.specs.Tokens.{lexeme_of}
use Rattle.rn_syntax.specs.declared.fault.SyntaxFault.{SyntaxFault}
use Rattle.rn_syntax.specs.declared.fault.SyntaxFault.TheVariants.{Deep, Syntax, Memory}
use Rattle.rn_syntax.specs.Tree.{Module}
use Rattle.rn_syntax.specs.TokenTerminals.{terminals}
use Rattle.rn_syntax.specs.Beginnings.{HasTree}
use Rattle.rn_syntax.specs.Spelled.{AreSpelled}
use Rattle.rn_syntax.specs.Places.{deep}
use Rattle.rn_syntax.specs.Faults.{HasModuleFault, IsFault}
use Rattle.rn_syntax.specs.inside.Stopping.{IsSyntax}

pub found_fault : (xs : List Token) (m : Module) (e : SyntaxFault) → deep 0 (terminals (map lexeme_of xs)) ≡ None → (AreSpelled xs → HasTree (terminals (map lexeme_of xs)) m) → HasModuleFault m e → IsFault xs e
found_fault xs m (Deep at) d t h = let none : ◌≡◌ {A = Option ℕ} None (Some at) = h.place in cc
found_fault xs m (Syntax at) d t h = let none : ◌≡◌ {A = Option ℕ} None (Some at) = h.place in cc
found_fault xs m Memory d t h = absurd h
found_fault xs m e d t h = (d, λ s. (m, t s, h))

-- a fault of the grammar is one of the tokens
pub syntax_fault : (xs : List Token) (e : SyntaxFault) → deep 0 (terminals (map lexeme_of xs)) ≡ None → IsSyntax xs e → IsFault xs e
syntax_fault xs (Syntax at) d h = (d, h)
syntax_fault xs Memory d h = tt
syntax_fault xs e d h = absurd h
