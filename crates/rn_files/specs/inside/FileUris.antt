-- The URIs of paths (RFC 8089; RFC 3986, 3.3).
use Rattle.std.specs.Prelude.{ℕ, ◌==◌, ◌&&◌, ◌||◌, nat_le, Bool, List, ◌++◌, codes}
use Rattle.std.specs.List.{flat_map}
use Rattle.std.specs.Char.{is_ascii_alphanumeric}
use Rattle.rn_files.specs.Escapes.{kept_or_escaped}
use Rattle.rn_files.specs.Paths.{remove_dot_segments}

-- a path may hold the byte as it is (RFC 3986, 3.3): unreserved, a sub-delim, `:`, `@` or `/`
abbrev pub is_path_byte : ℕ → Bool
is_path_byte b =
    is_ascii_alphanumeric b || b == 45 || b == 46 || b == 95 || b == 126 || b == 33 || b == 36 || (nat_le 38 b && nat_le b 44)
    || b == 59 || b == 61 || b == 58 || b == 64 || b == 47

-- the path with each byte escaped that no path of a URI holds
abbrev pub escaped_path : List ℕ → List ℕ
escaped_path path = flat_map (kept_or_escaped is_path_byte) path

-- the URI of a path that begins with `/`: scheme `file`, an empty authority, and the path without dot segments (RFC 8089)
abbrev pub file_uri : List ℕ → List ℕ
file_uri path = codes "file://" ++ remove_dot_segments (escaped_path path)
