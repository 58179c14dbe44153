-- The faults of the tokens of a module: too many open brackets, tokens that are no module, and what the grammar leaves open, each kind over the whole module
-- and at its first place (compact syntax, section 2; RELAX NG 2001, 7.1.4).
use Rattle.std.specs.Prelude.{◌≡◌, ◌<◌, ℕ, List, [], Option, Some, None, MatchOption, codes}
use Rattle.rn_text.specs.declared.source.Token.{Token}
use Rattle.rn_syntax.specs.declared.fault.FaultKind.{FaultKind}
use Rattle.rn_syntax.specs.declared.fault.FaultKind.TheVariants as kind
use Rattle.rn_syntax.specs.declared.fault.SyntaxFault.{SyntaxFault}
use Rattle.rn_syntax.specs.declared.fault.SyntaxFault.TheVariants.{Deep, Syntax, Prefix, Builtin, ContextValue, Except, Memory}
use Rattle.rn_syntax.specs.Tree.{Module}
use Rattle.rn_syntax.specs.Grammar.{Tokens}
use Rattle.rn_syntax.specs.TokenTerminals.{terminals_of}
use Rattle.rn_syntax.specs.Beginnings.{HasTree, Stops}
use Rattle.rn_syntax.specs.Spelled.{AreSpelled, BeginAt}
use Rattle.rn_syntax.specs.Places.{deep, first, prefix_places, builtin_places, context_places, except_places}

-- ---- kinds of faults of module texts, those of bytes and characters among them

abbrev pub kind_name : FaultKind → List ℕ
kind_name kind.Encoding = codes "Encoding"
kind_name kind.Lexical = codes "Lexical"
kind_name kind.Deep = codes "Deep"
kind_name kind.Syntax = codes "Syntax"
kind_name kind.Prefix = codes "Prefix"
kind_name kind.Builtin = codes "Builtin"
kind_name kind.ContextValue = codes "ContextValue"
kind_name kind.Except = codes "Except"

-- the number of a kind in the order of the tests
abbrev pub kind_rank : FaultKind → ℕ
kind_rank kind.Encoding = 0
kind_rank kind.Lexical = 1
kind_rank kind.Deep = 2
kind_rank kind.Syntax = 3
kind_rank kind.Prefix = 4
kind_rank kind.Builtin = 5
kind_rank kind.ContextValue = 6
kind_rank kind.Except = 7

-- where a tree is at fault; of the first four kinds no tree is
abbrev pub kind_places : FaultKind → Module → List ℕ
kind_places kind.Prefix m = prefix_places m
kind_places kind.Builtin m = builtin_places m
kind_places kind.ContextValue m = context_places m
kind_places kind.Except m = except_places m
kind_places _ m = []

-- want of memory is of no kind
abbrev pub kind_and_place : SyntaxFault → Option (FaultKind × ℕ)
kind_and_place (Deep at) = Some (kind.Deep, at)
kind_and_place (Syntax at) = Some (kind.Syntax, at)
kind_and_place (Prefix at) = Some (kind.Prefix, at)
kind_and_place (Builtin at) = Some (kind.Builtin, at)
kind_and_place (ContextValue at) = Some (kind.ContextValue, at)
kind_and_place (Except at) = Some (kind.Except, at)
kind_and_place Memory = None

-- ---- faults of trees

-- the tree has no fault of any kind
abbrev pub HasNoFault : Module → Type 0
HasNoFault m = (k : FaultKind) → first (kind_places k m) ≡ None

-- the tree has a fault of this kind, first at this place, and none of a kind that is looked for before it
pub record IsFirstOfKinds (m : Module) (k : FaultKind) (at : ℕ) : Type 0 where
  pub place : first (kind_places k m) ≡ Some at
  pub before : (j : FaultKind) → kind_rank j < kind_rank k → first (kind_places j m) ≡ None

abbrev pub HasModuleFault : Module → SyntaxFault → Type 0
HasModuleFault m e = MatchOption (kind_and_place e) ⊥ (λ k. IsFirstOfKinds m k.0 k.1)

-- the tokens are this module, no bracket of theirs is too many, and no fault stands
abbrev pub IsSound : List Token → Module → Type 0
IsSound xs m = (deep 0 (terminals_of xs) ≡ None) × HasTree (terminals_of xs) m × HasNoFault m

-- the tokens before this place begin a module, and with the one there none begins
abbrev pub StopsAt : List Token → ℕ → Type 0
StopsAt xs at = (bad : Tokens) × Stops (terminals_of xs) bad × BeginAt xs bad at

-- no bracket is too many, and the tree of the tokens has the fault
abbrev pub IsFaultOfTree : List Token → SyntaxFault → Type 0
IsFaultOfTree xs e = (deep 0 (terminals_of xs) ≡ None) × (AreSpelled xs → (m : Module) × HasTree (terminals_of xs) m × HasModuleFault m e)

-- this is the fault of the tokens, of which Deep comes first, and then Syntax
abbrev pub IsFault : List Token → SyntaxFault → Type 0
IsFault xs (Deep at) = deep 0 (terminals_of xs) ≡ Some at
IsFault xs Memory = Unit {0}
IsFault xs (Syntax at) = (deep 0 (terminals_of xs) ≡ None) × (AreSpelled xs → StopsAt xs at)
IsFault xs e = IsFaultOfTree xs e
