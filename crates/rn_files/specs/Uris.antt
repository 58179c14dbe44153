-- URIs and references without query and fragment: their parts (RFC 3986, 3 and 4), and what a reference stands for (5.2 and 5.3).
use Rattle.std.specs.Prelude.{ℕ, ◌-◌, ◌==◌, ◌&&◌, ◌||◌, nat_eq, nat_lt, Bool, false, List, [], ◌∷◌, ◌++◌, length, take, drop, slice_index, codes, is_some, Option, Some, None, if◌then◌else◌}
use Rattle.std.specs.List.{list_all, before_first, after_first, position_or_len, starts_with}
use Rattle.std.specs.Option.{option_map, option_map_or, option_or}
use Rattle.std.specs.Char.{is_ascii_alphabetic, is_ascii_alphanumeric}
use Rattle.rn_files.specs.Paths.{Segment, is_slash, path_of, segments, without_dots}

-- the parts of a URI or a reference; a part that is absent is none, which differs from one that is empty
pub record UriParts : Type 0 where
  pub scheme : Option (List ℕ)
  pub authority : Option (List ℕ)
  pub path : List ℕ

abbrev pub is_colon : ℕ → Bool
is_colon b = b == 58

-- the byte may stand behind the first one of a scheme: a letter, a digit, `+`, `-` or `.`
abbrev pub is_scheme_byte : ℕ → Bool
is_scheme_byte b = is_ascii_alphanumeric b || b == 43 || b == 45 || b == 46

-- a letter, and then bytes that may stand behind the first one of a scheme (3.1)
abbrev pub is_scheme : List ℕ → Bool
is_scheme [] = false
is_scheme (b ∷ bs) = is_ascii_alphabetic b && list_all is_scheme_byte bs

-- a scheme and a colon come first
abbrev pub has_scheme : List ℕ → Bool
has_scheme text = nat_lt (position_or_len is_colon text) (length text) && is_scheme (before_first is_colon text)

abbrev pub scheme_of : List ℕ → Option (List ℕ)
scheme_of text = if has_scheme text then Some (before_first is_colon text) else None

abbrev pub behind_scheme : List ℕ → List ℕ
behind_scheme text = if has_scheme text then after_first is_colon text else text

-- what stands behind two slashes that come first
abbrev pub behind_slashes : List ℕ → Option (List ℕ)
behind_slashes text = if starts_with nat_eq text (codes "//") then Some (drop 2 text) else None

-- the text from its first slash on
abbrev pub from_slash : List ℕ → List ℕ
from_slash text = drop (position_or_len is_slash text) text

-- an authority stands between two slashes and the next one, or the end (3.2)
abbrev pub authority_of : List ℕ → Option (List ℕ)
authority_of text = option_map (before_first is_slash) (behind_slashes text)

-- what stands behind two slashes and an authority, if they come first, and else the whole text: the path (3.3)
abbrev pub behind_authority : List ℕ → List ℕ
behind_authority text = option_map_or from_slash (behind_slashes text) text

abbrev pub parts_of : List ℕ → UriParts
parts_of text = record {
  scheme = scheme_of text;
  authority = authority_of (behind_scheme text);
  path = behind_authority (behind_scheme text);
}

abbrev pub scheme_text : Option (List ℕ) → List ℕ
scheme_text None = []
scheme_text (Some scheme) = scheme ++ codes ":"

abbrev pub authority_text : Option (List ℕ) → List ℕ
authority_text None = []
authority_text (Some authority) = codes "//" ++ authority

-- the parts put together (5.3)
abbrev pub recomposed_uri : UriParts → List ℕ
recomposed_uri p = scheme_text p.scheme ++ authority_text p.authority ++ p.path

-- the folder of the base's path: all segments but the last, or the root where the base has an authority and an empty path
abbrev pub folder_of : UriParts → List Segment
folder_of base =
    if is_some base.authority && length base.path == 0 then [] ∷ []
    else take (length (segments base.path) - 1) (segments base.path)

-- the segments of the folder of the base's path, and behind them those of the reference's path (5.2.3)
abbrev pub merged_paths : UriParts → List ℕ → List Segment
merged_paths base path = folder_of base ++ segments path

-- the reference has a scheme or an authority of its own
abbrev pub has_own : UriParts → Bool
has_own r = is_some r.scheme || is_some r.authority

-- the path of the target before its dot segments are removed. (5.2.2; there the reference may also have no part at all, and
-- then the path is the base's. Such a reference is empty, and is refused here.)
abbrev pub dotted_segments : UriParts → UriParts → List Segment
dotted_segments base r = if has_own r || slice_index r.path 0 == 47 then segments r.path else merged_paths base r.path

-- the target of a reference that is not empty (5.2.2)
abbrev pub target : UriParts → UriParts → UriParts
target base r = record {
  scheme = option_or r.scheme base.scheme;
  authority = if has_own r then r.authority else base.authority;
  path = path_of (without_dots (dotted_segments base r));
}
