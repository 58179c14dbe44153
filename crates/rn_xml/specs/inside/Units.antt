-- Units of UTF-16 in bytes.
use Rattle.std.specs.Prelude.{ℕ, List, [], ◌∷◌}
use Rattle.rn_xml.specs.Encodings.{big_endian, little_endian}
use Rattle.rn_xml.specs.declared.utf16.ByteOrder.{ByteOrder}
use Rattle.rn_xml.specs.declared.utf16.ByteOrder.TheVariants.{Big, Little}

-- the bytes of a unit in this order
abbrev pub unit_bytes : ByteOrder → ℕ → List ℕ
unit_bytes Big unit = big_endian unit
unit_bytes Little unit = little_endian unit

-- the mark of UTF-16 in this order
abbrev pub mark : ByteOrder → List ℕ
mark Big = 0xFE ∷ 0xFF ∷ []
mark Little = 0xFF ∷ 0xFE ∷ []
