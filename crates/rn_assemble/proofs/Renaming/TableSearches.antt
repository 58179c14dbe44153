-- A binary search in a table of texts, against a look-up among its entries.
use Rattle.std.proofs.Common.{◌≡◌, ℕ, ◌<◌, List, length, get_or, map, Result, Ok, Err, MatchResult, Some, None, sym, ap, ◌∙◌, subst, arith, Contains, string_bytes}
use Rattle.std.specs.Prelude.{bytes_eq}
use Rattle.std.specs.List.Sorted.{IsBinarySearchResult, IsSearchInRange, IsStrictlySortedBy}
use Rattle.std.specs.Map.{lookup}
use Rattle.std.proofs.lemmas.Cmp.{nat_list_eq_equiv}
use Rattle.std.proofs.lemmas.List.{get_or-map, length-map}
use Rattle.std.proofs.lemmas.Map.Views.{Contains-keys_from_lookup, lookup-from_Contains}
use Rattle.std.proofs.lemmas.Simd.{map-map}
use Rattle.std.proofs.lemmas.Slice.Eq.{bytes_eq-Decides}
use Rattle.rn_text.specs.Texts.{Text, text_cmp}
use Rattle.rn_assemble.specs.ShortTexts.{short_entry}
use Rattle.rn_assemble.specs.inside.Covered.{swapped}
use Rattle.rn_assemble.specs.declared.short_uris.ShortUri.{ShortUri}
use Rattle.rn_assemble.proofs.Referring.LeastUndefined.{is_none}
use Rattle.rn_assemble.proofs.Referring.NamedLists.{place_of}
use Rattle.rn_assemble.proofs.Renaming.ShortTables.{apart}

abbrev Ascends : List Text → Type 0
Ascends ts = IsStrictlySortedBy text_cmp ts

-- ---- a text among the first of pairs

abbrev texts_of : List (Text × Text) → List Text
texts_of es = map (λ (e : Text × Text). e.0) es

missed : (es : List (Text × Text)) (t : Text) → ¬ Contains (texts_of es) t → lookup (bytes_eq t) es ≡ None
missed es t n = is_none (lookup (bytes_eq t) es)
    (λ s. n (Contains-keys_from_lookup {eq = bytes_eq} (λ x y e. (bytes_eq-Decides x y).0 e) t es s))

-- the text that a look-up of t finds is told by the thing at the place r; where there is no place it finds none
abbrev pub IsFoundAt : {X : Type 0} → List (Text × Text) → Text → (X → Text) → List X → Result ℕ ℕ → Type 0
IsFoundAt {X} es t told xs r =
    MatchResult r (λ i. (d : X) → lookup (bytes_eq t) es ≡ Some (told (get_or xs i d))) (λ _. lookup (bytes_eq t) es ≡ None)

module _ {X : Type 0} (f g : X → Text) where
  abbrev pair_of : X → Text × Text
  pair_of x = (f x, g x)

  found : (xs : List X) (i : ℕ) (d : X) → Ascends (map f xs) → i < length xs
      → lookup (bytes_eq (f (get_or xs i d))) (map pair_of xs) ≡ Some (g (get_or xs i d))
  found xs i d s l =
      let x = get_or xs i d in
      let ascend : Ascends (texts_of (map pair_of xs)) = subst Ascends (sym (map-map (λ (e : Text × Text). e.0) pair_of xs)) s in
      let inside : i < length (map pair_of xs) = omega (arith, l, length-map xs pair_of) in
      lookup-from_Contains {eq = bytes_eq} nat_list_eq_equiv (f x) (g x) (map pair_of xs) (apart (texts_of (map pair_of xs)) ascend)
      (i, inside, get_or-map pair_of xs i d (pair_of x) l)

  looked_up : (xs : List X) (t : Text) (r : Result ℕ ℕ) → Ascends (map f xs)
      → IsBinarySearchResult (λ x. text_cmp (f x) t) xs r → IsSearchInRange r (length xs) → IsFoundAt (map pair_of xs) t g xs r
  looked_up xs t (Ok i) s h l =
      let here = place_of f xs t (Ok i) s h l in
      λ d. ap (λ u. lookup (bytes_eq u) (map pair_of xs)) (sym (here.1 d)) ∙ found xs i d s here.0
  looked_up xs t (Err i) s h l =
      let none = place_of f xs t (Err i) s h l in
      missed (map pair_of xs) t (λ c. none (subst (λ (ts : List Text). Contains ts t) (map-map (λ (e : Text × Text). e.0) pair_of xs) c))

-- ---- a search by short texts, and one by URIs

pub short_looked_up : (es : List ShortUri) (t : Text) (r : Result ℕ ℕ)
    → IsStrictlySortedBy text_cmp (map (λ (e : Text × Text). e.0) (map short_entry es))
    → IsBinarySearchResult (λ (e : ShortUri). text_cmp (string_bytes e.short) t) es r → IsSearchInRange r (length es)
    → IsFoundAt (map short_entry es) t (λ (e : ShortUri). string_bytes e.uri) es r
short_looked_up es t r s =
    looked_up (λ (e : ShortUri). string_bytes e.short) (λ (e : ShortUri). string_bytes e.uri) es t r
    (subst Ascends (map-map (λ (e : Text × Text). e.0) short_entry es) s)

pub uri_looked_up : (es : List ShortUri) (t : Text) (r : Result ℕ ℕ)
    → IsStrictlySortedBy text_cmp (map (λ (e : Text × Text). e.1) (map short_entry es))
    → IsBinarySearchResult (λ (e : ShortUri). text_cmp (string_bytes e.uri) t) es r → IsSearchInRange r (length es)
    → IsFoundAt (swapped (map short_entry es)) t (λ (e : ShortUri). string_bytes e.short) es r
uri_looked_up es t r s h l =
    subst (λ (ds : List (Text × Text)). IsFoundAt ds t (λ (e : ShortUri). string_bytes e.short) es r)
    (sym (map-map (λ (e : Text × Text). (e.1, e.0)) short_entry es))
    (looked_up (λ (e : ShortUri). string_bytes e.uri) (λ (e : ShortUri). string_bytes e.short) es t r
    (subst Ascends (map-map (λ (e : Text × Text). e.1) short_entry es) s) h l)
