-- The tokens that the terms of a schema are printed as: the declarations of the prefixes that they need, and the terms behind them
-- (RELAX NG Compact Syntax, 2, 3 and appendix A).
use Rattle.std.specs.Prelude.{ℕ, ◌+◌, Bool, ◌&&◌, ◌||◌, not, if◌then◌else◌, List, [], ◌∷◌, ◌++◌, Option, Some, None, option_map, unwrap_or, filter, bytes_eq, codes}
use Rattle.std.specs.List.{filter_map, flat_map}
use Rattle.rn_text.specs.declared.parts.Kind.TheVariants.{AnyOf, Keyword, Prefixed, Symbol}
use Rattle.rn_text.specs.declared.keywords.Keyword.{Keyword as Word}
use Rattle.rn_text.specs.declared.keywords.Keyword.TheVariants as w
use Rattle.rn_text.specs.Keywords.{spelling}
use Rattle.rn_text.specs.Texts.{Text}
use Rattle.rn_xml.specs.XmlTags.{xml_uri}
use Rattle.rn_translate.specs.Spelled.{Spelled}
use Rattle.rn_translate.specs.Terms.{Namespace, inherited, uri, Term, keyword, symbol, identifier, local, prefixed, any_of, prefix, datatype, literal}
use Rattle.rn_translate.specs.Layouts.{is_same}
use Rattle.rn_translate.specs.TokenTexts.{identifier_token, literal_tokens, numbered_bytes, one_token, word_token}

-- the library of XML Schema's datatypes (compact syntax, 2)
abbrev pub xsd_uri : Text
xsd_uri = codes "http://www.w3.org/2001/XMLSchema-datatypes"

-- ---- the prefixes that are needed

abbrev pub namespace_unless : Bool → Namespace → Option Namespace
namespace_unless b n = if b then None else Some n

-- the namespace whose prefix a term needs; `xml` is bound by itself (2)
abbrev pub namespace_needed : Term → Option Namespace
namespace_needed (prefixed n name) = namespace_unless (is_same n (uri xml_uri)) n
namespace_needed (any_of n) = namespace_unless (is_same n (uri xml_uri)) n
namespace_needed (prefix n) = namespace_unless (is_same n (uri xml_uri)) n
namespace_needed _ = None

-- two datatypes of the built-in library are keywords (2)
abbrev pub is_keyword_type : Namespace → Text → Bool
is_keyword_type n name = is_same n (uri []) && (bytes_eq name (codes "string") || bytes_eq name (codes "token"))

-- the library whose prefix a term needs; `xsd` is bound by itself (2)
abbrev pub library_needed : Term → Option Namespace
library_needed (datatype n name) = namespace_unless (is_same n (uri xsd_uri) || is_keyword_type n name) n
library_needed _ = None

-- each where it stands first
abbrev pub once : List Namespace → List Namespace
once [] = []
once (n ∷ ns) = n ∷ filter (λ m. not (is_same m n)) (once ns)

-- the place among those, from 1 on; 0 of none of them
abbrev pub place_among : List Namespace → Namespace → Option ℕ
place_among [] n = None
place_among (m ∷ ms) n = if is_same m n then Some 1 else option_map (λ k. k + 1) (place_among ms n)

abbrev pub number_among : List Namespace → Namespace → ℕ
number_among ns n = unwrap_or (place_among ns n) 0

-- ---- terms, where these namespaces and libraries have prefixes

abbrev pub namespace_prefix : List Namespace → Namespace → Text
namespace_prefix ns n = if is_same n (uri xml_uri) then codes "xml" else numbered_bytes 110 (number_among ns n)

abbrev pub type_tokens : List Namespace → Namespace → Text → List Spelled
type_tokens ls n name = if is_same n (uri xsd_uri) then one_token Prefixed (codes "xsd" ++ 58 ∷ name)
    else (if is_keyword_type n name then word_token name else one_token Prefixed (numbered_bytes 100 (number_among ls n) ++ 58 ∷ name))

abbrev pub tokens_of : (namespaces libraries : List Namespace) → Term → List Spelled
tokens_of ns ls (keyword word) = one_token Keyword (spelling word)
tokens_of ns ls (symbol x) = one_token Symbol x
tokens_of ns ls (identifier name) = identifier_token name
tokens_of ns ls (local name) = word_token name
tokens_of ns ls (prefixed n name) = one_token Prefixed (namespace_prefix ns n ++ 58 ∷ name)
tokens_of ns ls (any_of n) = one_token AnyOf (namespace_prefix ns n ++ codes ":*")
tokens_of ns ls (prefix n) = word_token (namespace_prefix ns n)
tokens_of ns ls (datatype n name) = type_tokens ls n name
tokens_of ns ls (literal text) = literal_tokens text

-- ---- declarations

abbrev pub namespace_tokens : Namespace → List Spelled
namespace_tokens inherited = one_token Keyword (spelling w.Inherit)
namespace_tokens (uri x) = literal_tokens x

abbrev pub bound_to : Namespace → List Spelled
bound_to n = one_token Symbol (codes "=") ++ namespace_tokens n

-- the default namespace, unless it is the inherited one
abbrev pub default_declared : Namespace → List Spelled
default_declared inherited = []
default_declared (uri x) = one_token Keyword (spelling w.Default) ++ (one_token Keyword (spelling w.Namespace) ++ bound_to (uri x))

-- prefixes of this letter, after so many others
abbrev pub prefixes_declared : Word → (letter before : ℕ) → List Namespace → List Spelled
prefixes_declared word letter before [] = []
prefixes_declared word letter before (n ∷ ns) =
    (one_token Keyword (spelling word) ++ (word_token (numbered_bytes letter (before + 1)) ++ bound_to n)) ++ prefixes_declared word letter (before + 1) ns

-- ---- all of them

abbrev pub printed_with : (default : Namespace) (namespaces libraries : List Namespace) → List Term → List Spelled
printed_with default ns ls ts =
    (default_declared default ++ (prefixes_declared w.Namespace 110 0 ns ++ prefixes_declared w.Datatypes 100 0 ls)) ++ flat_map (tokens_of ns ls) ts

abbrev pub schema_tokens : (default : Namespace) → List Term → List Spelled
schema_tokens default ts = printed_with default (once (filter_map namespace_needed ts)) (once (filter_map library_needed ts)) ts
