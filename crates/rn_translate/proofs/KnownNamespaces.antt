-- The URIs of a document's namespaces, each at its index.
use Rattle.std.proofs.Common.{◌≡◌, ℕ, zero, suc, ◌+◌, ◌<◌, List, [], ◌∷◌, ◌++◌, length, take, get_or, sym, ap, ◌∙◌, String, Global, Some}
use Rattle.std.specs.Prelude.{Option, map, slice_get, string_bytes, unwrap_or}
use Rattle.std.specs.Option.{option_map_or}
use Rattle.std.proofs.lemmas.List.{map-append, take_more}
use Rattle.rn_translate.specs.Terms.{Namespace, uri}
use Rattle.rn_translate.specs.inside.Meanings.{uri_meant}
use Rattle.rn_translate.specs.inside.UriTables.{IsTable, empty_uri}
use Rattle.rn_translate.specs.declared.uris.Uri.{Uri}
use Rattle.rn_translate.specs.declared.uris.Uris.{Uris}
use Rattle.rn_translate.proofs.UriMeanings.{empty_meant}

-- these mean the namespaces of these names
abbrev pub named_by : String Global → Option Namespace
named_by s = Some (uri (string_bytes s))

abbrev pub AreKnown : Uris → List Uri → List (String Global) → Type 0
AreKnown uris xs ss = map (uri_meant uris) xs ≡ map named_by ss

pub known_more : (uris : Uris) (xs new : List Uri) (x : Uri) (ss : List (String Global)) (i : ℕ) (s : String Global) → new ≡ xs ++ x ∷ [] → i < length ss → s ≡ get_or ss i s
    → uri_meant uris x ≡ Some (uri (string_bytes s)) → AreKnown uris xs (take i ss) → AreKnown uris new (take (i + 1) ss)
known_more uris xs new x ss i s items within is meant known =
    ap (map (uri_meant uris)) items ∙ map-append (uri_meant uris) xs (x ∷ []) ∙ ap (λ l. l ++ uri_meant uris x ∷ []) known ∙ ap (λ o. map named_by (take i ss) ++ o ∷ []) (meant ∙ ap named_by is)
    ∙ sym (map-append named_by (take i ss) (get_or ss i s ∷ [])) ∙ ap (map named_by) (sym (take_more ss i s within))

pub each_known : (uris : Uris) (xs : List Uri) (ss : List (String Global)) (k : ℕ) → IsTable uris → AreKnown uris xs ss
    → uri_meant uris (unwrap_or (slice_get xs k) empty_uri) ≡ Some (uri (option_map_or (λ (s : String Global). string_bytes s) (slice_get ss k) []))
each_known uris [] [] k table known = empty_meant table
each_known uris [] (s ∷ ss) k table known = absurd cc
each_known uris (x ∷ xs) [] k table known = absurd cc
each_known uris (x ∷ xs) (s ∷ ss) zero table known = cc
each_known uris (x ∷ xs) (s ∷ ss) (suc k) table known = let rest : AreKnown uris xs ss = cc in each_known uris xs ss k table rest
