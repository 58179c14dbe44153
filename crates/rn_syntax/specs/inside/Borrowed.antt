-- Which literals are slices of the source, and which are copies, as readers say it of the tokens from an index on.
use Rattle.std.specs.Prelude.{◌≡◌, ℕ, ◌+◌, ◌<◌, ◌&&◌, List, [], ◌∷◌, Some, length, Result, IfOk}
use Rattle.std.specs.List.{slice_get}
use Rattle.std.specs.declared.alloc.Global.{Global}
use Rattle.std.specs.declared.borrow.CowStr.{CowStr}
use Rattle.rn_text.specs.declared.source.Token.{Token}
use Rattle.rn_syntax.specs.declared.fault.Fault.{Fault}
use Rattle.rn_syntax.specs.Grammar.{IsLiteral, Tokens}
use Rattle.rn_syntax.specs.Lent.{is_borrowed, is_written, AreLent}
use Rattle.rn_syntax.specs.Spelled.{AreSpelled}
use Rattle.rn_syntax.specs.inside.Follow.{first_terminal, no_tilde}
use Rattle.rn_syntax.specs.inside.Readers.{rest}
use Rattle.std.specs.Cow.{cow_str_bytes}

-- the text of the segment at this index is borrowed exactly where the segment is written as it
abbrev pub SegmentBorrows : List Token → ℕ → CowStr Global → Type 0
SegmentBorrows xs at s = (x : Token) → slice_get xs at ≡ Some x → is_borrowed s ≡ is_written x

-- the literal that begins at this index is borrowed exactly where it is one segment that is written as its text
abbrev pub BorrowsAsWritten : List Token → ℕ → CowStr Global → Type 0
BorrowsAsWritten xs at s =
    (x : Token) → slice_get xs at ≡ Some x → is_borrowed s ≡ (is_written x && no_tilde (first_terminal (rest xs (at + 1))))

-- the literal of an include begins at this index, and is the only one of the item
pub record LendsOne (xs : List Token) (at : ℕ) (literals : List (CowStr Global)) : Type 0 where
  pub literal : CowStr Global
  pub behind : Tokens
  pub only : literals ≡ literal ∷ []
  pub is : IsLiteral (rest xs at) (cow_str_bytes literal) behind
  pub inside : at < length xs
  pub borrows : BorrowsAsWritten xs at literal

-- of what a reader answered, the literals of includes are lent by the tokens that it read
abbrev pub Lends : {B : Type 0} → List Token → ℕ → (B → List (CowStr Global)) → Result (B × ℕ) Fault → Type 0
Lends xs at literals result = IfOk result (λ r. AreSpelled xs → AreLent xs at r.1 (literals r.0))
