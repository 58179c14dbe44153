-- Short texts that stand for URIs while the modules of a set are put together.
use Rattle.std.specs.Prelude.{◌≡◌, ◌⊎◌, ℕ, ◌+◌, nat_lt, Bool, true, if◌then◌else◌, List, [], ◌∷◌, ◌++◌, length, flat_map, Option, Some, None, map, unwrap_or, bytes_eq, string_bytes}
use Rattle.std.specs.Int.{w64, to_be_bytes}
use Rattle.std.specs.List.{list_any, AllByRecursion}
use Rattle.std.specs.List.Sorted.{IsStrictlySortedBy}
use Rattle.std.specs.Map.{lookup}
use Rattle.std.specs.Option.{option_to_list}
use Rattle.std.specs.Ordering.{is_le}
use Rattle.hex.specs.Hex.{encode_lower}
use Rattle.rn_text.specs.Texts.{Text, text_cmp}
use Rattle.rn_pattern.specs.Canonical.{sorted_once}
use Rattle.rn_pattern.specs.Matching.{Grammar}
use Rattle.rn_modset.specs.Contributions.{Member}
use Rattle.rn_pattern.specs.NameRules.{declarations}
use Rattle.rn_syntax.specs.Places.{xml_uri, xsd_uri, uri_of}
use Rattle.rn_syntax.specs.Tree as t
use Rattle.rn_syntax.specs.Tree.{Declaration, Uri}
use Rattle.rn_assemble.specs.Components.{NamedModule}
use Rattle.rn_assemble.specs.declared.short_uris.ShortUri.{ShortUri}
use Rattle.rn_assemble.specs.declared.short_uris.ShortUris.{ShortUris}
use Rattle.rn_assemble.specs.Refusal.{AreModules, IsAssembled}
use Rattle.rn_assemble.specs.Renamed.{renamed_grammar, IsOfKnownUris}
use Rattle.rn_assemble.specs.WritableTexts.{IsXml}

-- each short text with the URI that it stands for
abbrev pub ShortTexts : Type 0
ShortTexts = List (Text × Text)

-- the URI that a text stands for: itself, if it is none of the short ones
abbrev pub long_uri : ShortTexts → Text → Text
long_uri es u = unwrap_or (lookup (bytes_eq u) es) u

-- the text is one of the short ones; where there are none each text stands for itself
abbrev pub is_known : ShortTexts → Text → Bool
is_known [] u = true
is_known (e ∷ es) u = list_any (bytes_eq u) (map (λ (e : Text × Text). e.0) (e ∷ es))

abbrev pub IsKnown : ShortTexts → Text → Type 0
IsKnown es u = is_known es u ≡ true

-- the text stands for itself
abbrev pub Stays : ShortTexts → Text → Type 0
Stays es u = lookup (bytes_eq u) es ≡ Some u

abbrev pub ShortsAscend : ShortTexts → Type 0
ShortsAscend es = IsStrictlySortedBy text_cmp (map (λ (e : Text × Text). e.0) es)

abbrev pub UrisAscend : ShortTexts → Type 0
UrisAscend es = IsStrictlySortedBy text_cmp (map (λ (e : Text × Text). e.1) es)

-- short texts can be written where their URIs can
abbrev pub CanBeWritten : ShortTexts → Type 0
CanBeWritten es = AllByRecursion (λ (e : Text × Text). IsXml e.1 → IsXml e.0) es

-- texts that stand for themselves, and short ones that can be written
pub record Keeps (es : ShortTexts) : Type 0 where
  pub none : Stays es []
  pub xml : Stays es xml_uri
  pub xsd : Stays es xsd_uri
  pub declares : Stays es declarations
  pub writable : CanBeWritten es

-- the short texts ascend with their URIs
pub record IsTable (es : ShortTexts) : Type 0 where
  pub shorts : ShortsAscend es
  pub uris : UrisAscend es
  pub keeps : (es ≡ []) ⊎ Keeps es

-- ---- which texts are short for which URIs

-- the text of a URI that isn't inherited
abbrev pub literal_text : Uri → Option Text
literal_text (t.literal u) = Some u
literal_text t.inherited = None

-- the URIs that declarations name, in their order
abbrev pub declared_uris : List Declaration → List Text
declared_uris ds = flat_map (λ (d : Declaration). option_to_list (literal_text (uri_of d))) ds

abbrev pub module_uris : List NamedModule → List Text
module_uris ms = flat_map (λ (m : NamedModule). declared_uris m.tree.declarations) ms

-- the most bytes of a URI that isn't long
abbrev pub max_kept_uri : ℕ
max_kept_uri = 64

abbrev pub is_long : Text → Bool
is_long u = nat_lt max_kept_uri (length u)

-- URIs that mean something by themselves: no namespace, and those of `xml`, `xsd` and of declarations
abbrev pub special_uris : List Text
special_uris = [] ∷ xml_uri ∷ xsd_uri ∷ declarations ∷ []

-- the greatest URI that means something by itself and isn't above u
abbrev pub front_of : Text → Text
front_of u =
    if is_le (text_cmp xml_uri u) then xml_uri
    else if is_le (text_cmp xsd_uri u) then xsd_uri
    else if is_le (text_cmp declarations u) then declarations
    else []

-- a number in sixteen hexadecimal digits, the highest first
abbrev pub digits_of : ℕ → Text
digits_of n = encode_lower (to_be_bytes w64 n)

-- the short text of the URI of a number: a URI that means something by itself stays; any other becomes the greatest of these
-- that is below it, with the number behind
abbrev pub short_text_of : ℕ → Text → Text
short_text_of n u = if bytes_eq u (front_of u) then u else front_of u ++ digits_of n

-- the short texts of URIs that are numbered on from n
abbrev pub short_list : ℕ → List Text → ShortTexts
short_list n [] = []
short_list n (u ∷ us) = (short_text_of n u, u) ∷ short_list (n + 1) us

-- the short texts of the URIs that modules declare, numbered in the order of the URIs; none where no URI is long
abbrev pub short_texts_of : List NamedModule → ShortTexts
short_texts_of ms = if list_any is_long (module_uris ms) then short_list 0 (sorted_once text_cmp (special_uris ++ module_uris ms)) else []

-- ---- as the code holds them

abbrev pub short_entry : ShortUri → Text × Text
short_entry e = (string_bytes e.short, string_bytes e.uri)

abbrev pub listed_texts : List ShortUri → ShortTexts
listed_texts list = map short_entry list

abbrev pub short_texts : ShortUris → ShortTexts
short_texts s = listed_texts s.list.items

-- ---- a set with short texts

-- the grammar with URIs in the place of short texts
abbrev pub long_grammar : ShortTexts → Grammar → Grammar
long_grammar es = renamed_grammar (long_uri es)

-- the short texts are those of the set's modules, which fix them, and g with their URIs in their place is the grammar of the set
pub record IsShortened (s : List Member) (es : ShortTexts) (g : Grammar) : Type 0 where
  pub texts : (ms : List NamedModule) × AreModules s ms × (es ≡ short_texts_of ms)
  pub table : IsTable es
  pub assembled : IsAssembled s (long_grammar es g)
  pub known : IsOfKnownUris (IsKnown es) g
