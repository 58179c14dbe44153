-- Names of modules, made from paths.
use Rattle.std.specs.Prelude.{ℕ, ◌<◌, ◌^◌, ◌==◌, ◌&&◌, not, Bool, List}
use Rattle.std.specs.List.{flat_map}
use Rattle.rn_modset.specs.Contributions.{is_name_byte}
use Rattle.rn_files.specs.Escapes.{byte_or_escape}

-- the number is a byte: it is less than 256
abbrev pub IsByte : ℕ → Type 0
IsByte b = b < 2 ^ 8

-- the byte is one of a module's name, but for `%`
abbrev pub is_plain : ℕ → Bool
is_plain b = is_name_byte b && not (b == 37)

-- the byte, or `%` and its two hexadecimal digits in upper case
abbrev pub plain_or_escaped : ℕ → List ℕ
plain_or_escaped b = byte_or_escape (is_plain b) b

abbrev pub name_of : List ℕ → List ℕ
name_of path = flat_map plain_or_escaped path
