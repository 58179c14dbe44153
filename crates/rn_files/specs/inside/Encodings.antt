-- Bytes that are no text of the language.
use Rattle.std.specs.Prelude.{ℕ, ◌||◌, nat_eq, Bool, List, [], ◌∷◌}
use Rattle.std.specs.List.{starts_with}

-- the bytes begin with the byte order mark of UTF-16, of either order (RFC 2781, section 3.2)
abbrev pub begins_utf16 : List ℕ → Bool
begins_utf16 bytes = starts_with nat_eq bytes (255 ∷ 254 ∷ []) || starts_with nat_eq bytes (254 ∷ 255 ∷ [])
