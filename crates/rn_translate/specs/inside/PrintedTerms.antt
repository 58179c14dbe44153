-- The tokens that terms are printed as, once prefixes are chosen.
use Rattle.std.specs.Prelude.{ℕ, ◌==◌, ◌+◌, Bool, ◌&&◌, ◌||◌, if◌then◌else◌, List, [], ◌∷◌, ◌++◌, codes, unwrap_or, bytes_eq, slice_get}
use Rattle.std.specs.List.{flat_map}
use Rattle.std.specs.Option.{option_map_or}
use Rattle.std.specs.Ordering.{nat_cmp}
use Rattle.std.specs.BTreeMap.{get}
use Rattle.rn_text.specs.declared.parts.Kind.TheVariants.{AnyOf, Keyword, Prefixed, Symbol}
use Rattle.rn_text.specs.declared.keywords.Keyword.{Keyword as Word}
use Rattle.rn_text.specs.declared.keywords.Keyword.TheVariants as w
use Rattle.rn_text.specs.Keywords.{spelling}
use Rattle.rn_text.specs.Texts.{Text}
use Rattle.rn_translate.specs.Spelled.{Spelled}
use Rattle.rn_translate.specs.declared.prefixes.BoundUri.{BoundUri}
use Rattle.rn_translate.specs.declared.prefixes.Prefixes.{Prefixes}
use Rattle.rn_translate.specs.declared.printing.Declared.{Declared}
use Rattle.rn_translate.specs.declared.terms.Placed.{Placed}
use Rattle.rn_translate.specs.declared.terms.Term.{Term}
use Rattle.rn_translate.specs.declared.terms.Term.TheVariants as t
use Rattle.rn_translate.specs.declared.uris.Uri.{Uri}
use Rattle.rn_translate.specs.declared.uris.Uris.{Uris}
use Rattle.rn_translate.specs.TokenTexts.{identifier_token, literal_tokens, numbered_bytes, one_token, word_token}
use Rattle.rn_translate.specs.inside.SignTokens.{sign_tokens}

-- the number of the prefix of a URI; 0 where it has none
abbrev pub number_of : Prefixes → Uri → ℕ
number_of p u = unwrap_or (get nat_cmp p.numbers u.index) 0

-- the prefix of a namespace
abbrev pub prefix_bytes : Declared → Uri → Text
prefix_bytes d u = if u.index == 2 then codes "xml" else numbered_bytes 110 (number_of d.namespaces u)

-- whether a keyword names the datatype of a library (compact syntax, section 2)
abbrev pub is_built_in : Uri → Text → Bool
is_built_in u name = u.index == 1 && (bytes_eq name (codes "string") || bytes_eq name (codes "token"))

abbrev pub datatype_token : Declared → Uri → Text → List Spelled
datatype_token d u name = if u.index == 3 then one_token Prefixed (codes "xsd" ++ 58 ∷ name)
    else (if is_built_in u name then word_token name else one_token Prefixed (numbered_bytes 100 (number_of d.libraries u) ++ 58 ∷ name))

abbrev pub term_tokens : Declared → Term → List Spelled
term_tokens d (t.Sign sign) = sign_tokens sign
term_tokens d (t.Keyword word) = one_token Keyword (spelling word)
term_tokens d (t.Identifier name) = identifier_token name.now
term_tokens d (t.Local name) = word_token name.now
term_tokens d (t.Named u name) = one_token Prefixed (prefix_bytes d u ++ 58 ∷ name.now)
term_tokens d t.Parenthesis = one_token Symbol (codes "(")
term_tokens d t.AnyName = one_token Symbol (codes "*")
term_tokens d (t.AnyOf u) = one_token AnyOf (prefix_bytes d u ++ codes ":*")
term_tokens d (t.Prefix u) = word_token (prefix_bytes d u)
term_tokens d (t.Datatype u name) = datatype_token d u name.now
term_tokens d (t.Literal text) = literal_tokens text.now

abbrev pub terms_tokens : Declared → List Placed → List Spelled
terms_tokens d ps = flat_map (λ p. term_tokens d p.term) ps

-- the text of a URI of the table
abbrev pub uri_text : Uris → Uri → Text
uri_text uris u = option_map_or (λ text. text.now) (slice_get uris.texts.items u.index) []

abbrev pub uri_tokens : Uris → Uri → List Spelled
uri_tokens uris u = if u.index == 0 then one_token Keyword (spelling w.Inherit) else literal_tokens (uri_text uris u)

-- what is bound, behind what it is bound to
abbrev pub bound_tokens : Uris → Uri → List Spelled
bound_tokens uris u = one_token Symbol (codes "=") ++ uri_tokens uris u

-- the declaration of the default namespace, if there is one
abbrev pub default_tokens : Uris → Uri → List Spelled
default_tokens uris u = if u.index == 0 then []
    else one_token Keyword (spelling w.Default) ++ (one_token Keyword (spelling w.Namespace) ++ bound_tokens uris u)

-- the declaration of the prefix of this letter and this number
abbrev pub prefix_tokens : Uris → Word → (letter number : ℕ) → Uri → List Spelled
prefix_tokens uris word letter number u = one_token Keyword (spelling word) ++ (word_token (numbered_bytes letter number) ++ bound_tokens uris u)

-- those of the prefixes after so many others
abbrev pub prefixes_tokens : Uris → Word → (letter before : ℕ) → List BoundUri → List Spelled
prefixes_tokens uris word letter before [] = []
prefixes_tokens uris word letter before (b ∷ bs) = prefix_tokens uris word letter (before + 1) b.uri ++ prefixes_tokens uris word letter (before + 1) bs

abbrev pub declared_tokens : Declared → List Spelled
declared_tokens d = default_tokens d.uris.now d.default
    ++ (prefixes_tokens d.uris.now w.Namespace 110 0 d.namespaces.bound.items ++ prefixes_tokens d.uris.now w.Datatypes 100 0 d.libraries.bound.items)

-- the declarations, and the terms behind them
abbrev pub printed_tokens : Declared → List Placed → List Spelled
printed_tokens d ps = declared_tokens d ++ terms_tokens d ps
