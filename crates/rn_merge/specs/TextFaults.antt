-- The fault of a module text and its place (RELAX NG Compact Syntax, 2, 3 and appendix A).
use Rattle.std.specs.Prelude.{◌≡◌, ℕ, List, Option, Some, None, map}
use Rattle.std.specs.Str.{IsUtf8, chars}
use Rattle.rn_text.specs.Tokens.{HasTokens, HasFault, lexeme_of}
use Rattle.rn_text.specs.declared.source.Token.{Token}
use Rattle.rn_text.specs.declared.source.TextFault.TheVariants as reading
use Rattle.rn_syntax.specs.declared.fault.FaultKind.{FaultKind}
use Rattle.rn_syntax.specs.declared.fault.FaultKind.TheVariants as kind
use Rattle.rn_syntax.specs.declared.fault.SyntaxFault.{SyntaxFault}
use Rattle.rn_syntax.specs.Beginnings.{HasTree}
use Rattle.rn_syntax.specs.Faults as parsing
use Rattle.rn_syntax.specs.Faults.{HasNoFault, IsFault}
use Rattle.rn_syntax.specs.Places.{deep}
use Rattle.rn_syntax.specs.Spelled.{AreSpelled}
use Rattle.rn_syntax.specs.TokenTerminals.{terminals}
use Rattle.rn_syntax.specs.Tree.{Module}
use Rattle.rn_merge.specs.declared.text_faults.Place.{Place}
use Rattle.rn_merge.specs.declared.text_faults.Place.TheVariants.{Encoding, Lexical, Deep, Syntax, Prefix, Builtin, ContextValue, Except, Memory}

-- the tokens of the text, each spelled as its kind says
pub record AreTokensOf (text : List ℕ) (tokens : List Token) : Type 0 where
  pub utf8 : IsUtf8 text
  pub are : HasTokens (chars text) (map lexeme_of tokens)
  pub are_spelled : AreSpelled tokens

-- the text is a module, in which no fault stands
abbrev pub IsGood : List ℕ → Type 0
IsGood text = (tokens : List Token) × (m : Module) × AreTokensOf text tokens × (deep 0 (terminals (map lexeme_of tokens)) ≡ None)
    × HasTree (terminals (map lexeme_of tokens)) m × HasNoFault m

-- ---- kinds of faults and their places

abbrev pub place_of : FaultKind → ℕ → Place
place_of kind.Encoding at = Encoding at
place_of kind.Lexical at = Lexical at
place_of kind.Deep at = Deep at
place_of kind.Syntax at = Syntax at
place_of kind.Prefix at = Prefix at
place_of kind.Builtin at = Builtin at
place_of kind.ContextValue at = ContextValue at
place_of kind.Except at = Except at

-- out of memory is of no kind
abbrev pub kind_and_place : Place → Option (FaultKind × ℕ)
kind_and_place (Encoding at) = Some (kind.Encoding, at)
kind_and_place (Lexical at) = Some (kind.Lexical, at)
kind_and_place (Deep at) = Some (kind.Deep, at)
kind_and_place (Syntax at) = Some (kind.Syntax, at)
kind_and_place (Prefix at) = Some (kind.Prefix, at)
kind_and_place (Builtin at) = Some (kind.Builtin, at)
kind_and_place (ContextValue at) = Some (kind.ContextValue, at)
kind_and_place (Except at) = Some (kind.Except, at)
kind_and_place Memory = None

abbrev pub place_or_memory : Option (FaultKind × ℕ) → Place
place_or_memory (Some k) = place_of k.0 k.1
place_or_memory None = Memory

-- the place of a fault of the grammar
abbrev pub syntax_place : SyntaxFault → Place
syntax_place fault = place_or_memory (parsing.kind_and_place fault)

-- ---- the fault of a text

-- the tokens of the text have the fault of this place, and none that is looked for before it
abbrev pub HasSyntaxFault : List ℕ → Place → Type 0
HasSyntaxFault text place = (tokens : List Token) × AreTokensOf text tokens × (fault : SyntaxFault) × (syntax_place fault ≡ place) × IsFault tokens fault

-- the text has the fault at the place
abbrev pub HasPlace : List ℕ → Place → Type 0
HasPlace text (Encoding at) = HasFault text (reading.Encoding at)
HasPlace text (Lexical at) = HasFault text (reading.Lexical at)
HasPlace text (Deep at) = HasSyntaxFault text (Deep at)
HasPlace text (Syntax at) = HasSyntaxFault text (Syntax at)
HasPlace text (Prefix at) = HasSyntaxFault text (Prefix at)
HasPlace text (Builtin at) = HasSyntaxFault text (Builtin at)
HasPlace text (ContextValue at) = HasSyntaxFault text (ContextValue at)
HasPlace text (Except at) = HasSyntaxFault text (Except at)
HasPlace text Memory = Unit {0}
