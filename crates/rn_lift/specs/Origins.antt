-- Where the bytes of a module's text come from.
use Rattle.std.specs.Prelude.{◌≡◌, ℕ, ◌+◌, ◌-◌, ◌≤◌, ◌^◌, ◌⊎◌, if◌then◌else◌, List, [], ◌∷◌, Option, Some, None, nat_le}
use Rattle.rn_lift.specs.declared.lifted.Piece.{Piece}

-- the last of these pieces that begins at a byte or before it; if none does, the one found before them
abbrev pub last_from : Option Piece → ℕ → List Piece → Option Piece
last_from found at [] = found
last_from found at (p ∷ ps) = last_from (if nat_le p.from at then Some p else found) at ps

-- the last piece that begins at a byte or before it
abbrev pub piece_at : List Piece → ℕ → Option Piece
piece_at pieces at = last_from None at pieces

-- the byte of its file that a byte of a piece is, or was made for
abbrev pub byte_of : Piece → ℕ → ℕ
byte_of p at = if p.is_source then p.at + (at - p.from) else p.at

-- a byte comes from this file and this byte of it: so says the last piece that begins at it or before it
pub record IsOrigin (pieces : List Piece) (at : ℕ) (origin : ℕ × ℕ) : Type 0 where
  pub piece : Piece
  pub is_last : piece_at pieces at ≡ Some piece
  pub in_file : origin.0 ≡ piece.file
  pub at_byte : origin.1 ≡ byte_of piece at

-- a byte that comes from nowhere: no piece begins at it or before it, or the file would be too long
abbrev pub HasNoOrigin : List Piece → ℕ → Type 0
HasNoOrigin pieces at = (piece_at pieces at ≡ None) ⊎ ((p : Piece) × (piece_at pieces at ≡ Some p) × (2 ^ 64 ≤ byte_of p at))
