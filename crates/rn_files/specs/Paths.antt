-- Paths of URIs, as lists of segments (RFC 3986, 3.3, 5.2.3 and 5.2.4).
use Rattle.std.specs.Prelude.{ℕ, ◌+◌, ◌-◌, ◌==◌, ◌||◌, Bool, List, [], ◌∷◌, ◌++◌, codes, length, take, slice_index_or, if◌then◌else◌}
use Rattle.std.specs.List.{fold, list_any, slice_split, join_with_byte}
use Rattle.std.specs.Str.{bytes_eq, str_eq_ignore_ascii_case}

abbrev pub is_slash : ℕ → Bool
is_slash b = b == 47

-- a segment is what stands between two slashes
abbrev pub Segment : Type 0
Segment = List ℕ

-- the segments of a path, which slashes part: one more than there are slashes (3.3). A path that begins with a slash has the
-- empty segment first, and one that ends with a slash has it last
abbrev pub segments : List ℕ → List Segment
segments path = slice_split is_slash path

-- the path of the segments: a slash between each two
abbrev pub path_of : List Segment → List ℕ
path_of ss = join_with_byte 47 ss

-- the segment `.`, which means the folder that it stands in; a dot may be spelled as its escape, which is the same (6.2.2.2)
abbrev pub is_here : Segment → Bool
is_here s = bytes_eq s (46 ∷ []) || str_eq_ignore_ascii_case s (codes "%2e")

-- the segment `..`, which means the folder around it
abbrev pub is_up : Segment → Bool
is_up s =
    bytes_eq s (46 ∷ 46 ∷ []) || str_eq_ignore_ascii_case s (codes ".%2e") || str_eq_ignore_ascii_case s (codes "%2e.")
    || str_eq_ignore_ascii_case s (codes "%2e%2e")

-- the segment is a dot segment: `.` or `..`
abbrev pub is_dots : Segment → Bool
is_dots s = is_here s || is_up s

-- the folder around: the last segment is taken away with the slash before it. The slash behind the first one stays, so that the
-- first one becomes empty
abbrev pub outer : List Segment → List Segment
outer [] = []
outer (s ∷ []) = [] ∷ []
outer (s ∷ t ∷ more) = take (length more + 1) (s ∷ t ∷ more)

-- where a segment leads from a folder: `.` stays (5.2.4, 2A and 2B), `..` leads to the folder around it (2C; before all others
-- it falls, 2A), and another one leads into what it names (2E)
abbrev pub entered_folder : List Segment → Segment → List Segment
entered_folder folder s = if is_here s then folder else if is_up s then outer folder else folder ++ (s ∷ [])

-- where segments lead, one after the other
abbrev pub walked_folder : List Segment → List Segment
walked_folder ss = fold entered_folder [] ss

-- the last segment is a dot segment
abbrev pub ends_in_dots : List Segment → Bool
ends_in_dots ss = is_dots (slice_index_or ss (length ss - 1) [])

-- what the segments lead to, without dot segments (5.2.4). Where the last one is a dot segment, the path ends in a slash (2B and
-- 2C put it back), and is empty where nothing comes before the slash (2D)
abbrev pub without_dots : List Segment → List Segment
without_dots ss = if ends_in_dots ss then walked_folder ss ++ ([] ∷ []) else walked_folder ss

abbrev pub remove_dot_segments : List ℕ → List ℕ
remove_dot_segments path = path_of (without_dots (segments path))

-- the segment of a path, whose escapes are decoded, is `.` or `..`
abbrev pub is_dot_or_two : Segment → Bool
is_dot_or_two s = bytes_eq s (46 ∷ []) || bytes_eq s (46 ∷ 46 ∷ [])

-- a path, whose escapes are decoded, has such a segment
abbrev pub has_dots : List ℕ → Bool
has_dots path = list_any is_dot_or_two (segments path)
