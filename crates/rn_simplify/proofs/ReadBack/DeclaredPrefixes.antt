-- What printed declarations bind, and that no fault stands in them.
use Rattle.std.proofs.Common.{◌≡◌, ℕ, Bool, true, false, cond, List, [], ◌∷◌, ◌++◌, refl, ap, ◌∙◌}
use Rattle.std.specs.Prelude.{bytes_eq, codes, Some, None, is_some, ◌||◌, ◌&&◌, not}
use Rattle.std.specs.List.{AllByRecursion}
use Rattle.std.specs.Str.{encode_utf8_all}
use Rattle.std.proofs.lemmas.Slice.Eq.{bytes_eq-Decides}
use Rattle.std.proofs.lemmas.Bool.{cond-true, cond-false, or_from, and_left}
use Rattle.rn_text.specs.Texts.{Text}
use Rattle.rn_syntax.specs.Tree as s
use Rattle.rn_syntax.specs.Tree.{Declaration, Uri}
use Rattle.rn_syntax.specs.Places.{declared_namespace, declared_library, declarations_places, place_if, is_wrong_namespace, is_wrong_library, is_xml_uri, xsd_uri}
use Rattle.rn_simplify.specs.Spelling.{binding}
use Rattle.rn_simplify.proofs.ReadBack.Lines.{namespaces_from, libraries_from, prefix_at}
use Rattle.rn_syntax.proofs.TokenKinds.PieceTokens.{behind}
use Rattle.rn_assemble.proofs.Combined.PlainComponents.{mapped, zipped}

abbrev pub Entry : Type 0
Entry = List ℕ × Text

-- the prefixes differ
abbrev pub OtherPrefix : Entry → Entry → Type 0
OtherPrefix e d = bytes_eq (encode_utf8_all e.0) (encode_utf8_all d.0) ≡ false

abbrev pub HaveOwnPrefixes : List Entry → Type 0
HaveOwnPrefixes [] = Unit {0}
HaveOwnPrefixes (e ∷ es) = AllByRecursion (OtherPrefix e) es × HaveOwnPrefixes es

-- ---- what is bound

pub found : (es : List Entry) (i : ℕ) (more : List Declaration) → HaveOwnPrefixes es → AllByRecursion (λ e. declared_namespace (namespaces_from i es ++ more) (encode_utf8_all e.0) ≡ Some (s.literal e.1)) es
found [] i more h = tt
found (e ∷ es) i more h =
    let j = behind i (binding (codes "namespace") e.0 e.1) in (
      cond-true _ _ _ ((bytes_eq-Decides (encode_utf8_all e.0) (encode_utf8_all e.0)).1 refl),
      mapped (λ d. OtherPrefix e d × (declared_namespace (namespaces_from j es ++ more) (encode_utf8_all d.0) ≡ Some (s.literal d.1))) (λ d. declared_namespace (namespaces_from i (e ∷ es) ++ more) (encode_utf8_all d.0) ≡ Some (s.literal d.1))
          (λ d k. cond-false _ _ _ k.0 ∙ k.1) es (zipped (OtherPrefix e) (λ d. declared_namespace (namespaces_from j es ++ more) (encode_utf8_all d.0) ≡ Some (s.literal d.1)) es h.0 (found es j more h.1)),
    )

pub no_library : (es : List Entry) (i : ℕ) (more : List Declaration) (p : Text) → declared_library (namespaces_from i es ++ more) p ≡ declared_library more p
no_library [] i more p = refl
no_library (e ∷ es) i more p = no_library es (behind i (binding (codes "namespace") e.0 e.1)) more p

pub found_library : (es : List Entry) (i : ℕ) → HaveOwnPrefixes es → AllByRecursion (λ e. declared_library (libraries_from i es) (encode_utf8_all e.0) ≡ Some e.1) es
found_library [] i h = tt
found_library (e ∷ es) i h =
    let j = behind i (binding (codes "datatypes") e.0 e.1) in (
      cond-true _ _ _ ((bytes_eq-Decides (encode_utf8_all e.0) (encode_utf8_all e.0)).1 refl),
      mapped (λ d. OtherPrefix e d × (declared_library (libraries_from j es) (encode_utf8_all d.0) ≡ Some d.1)) (λ d. declared_library (libraries_from i (e ∷ es)) (encode_utf8_all d.0) ≡ Some d.1)
          (λ d k. cond-false _ _ _ k.0 ∙ k.1) es (zipped (OtherPrefix e) (λ d. declared_library (libraries_from j es) (encode_utf8_all d.0) ≡ Some d.1) es h.0 (found_library es j h.1)),
    )

-- ---- no fault

-- not yet bound
abbrev pub Fresh : List Declaration → Entry → Type 0
Fresh before e = declared_namespace before (encode_utf8_all e.0) ≡ None

abbrev pub FreshLibrary : List Declaration → Entry → Type 0
FreshLibrary before e = declared_library before (encode_utf8_all e.0) ≡ None

abbrev pub IsOwnNamespace : Entry → Type 0
IsOwnNamespace e = (bytes_eq (encode_utf8_all e.0) (codes "xmlns") ≡ false) × (bytes_eq (encode_utf8_all e.0) (codes "xml") ≡ false)

abbrev pub IsOwnLibrary : Entry → Type 0
IsOwnLibrary e = bytes_eq (encode_utf8_all e.0) (codes "xsd") ≡ false

namespace_behind : (before : List Declaration) (q : Text) (i : ℕ) (u : Uri) (p : Text) → declared_namespace before p ≡ None → bytes_eq q p ≡ false → declared_namespace (before ++ s.namespace q i u ∷ []) p ≡ None
namespace_behind [] q i u p h e = cond-false _ _ _ e
namespace_behind (s.namespace r j v ∷ ds) q i u p h e = go (λ k. namespace_behind ds q i u p k e) (bytes_eq r p) h
  where
    go : (declared_namespace ds p ≡ None → declared_namespace (ds ++ s.namespace q i u ∷ []) p ≡ None) → (b : Bool) → cond b (Some v) (declared_namespace ds p) ≡ None → cond b (Some v) (declared_namespace (ds ++ s.namespace q i u ∷ []) p) ≡ None
    go more true k = k
    go more false k = more k
namespace_behind (s.default j (Some r) v ∷ ds) q i u p h e = go (λ k. namespace_behind ds q i u p k e) (bytes_eq r.0 p) h
  where
    go : (declared_namespace ds p ≡ None → declared_namespace (ds ++ s.namespace q i u ∷ []) p ≡ None) → (b : Bool) → cond b (Some v) (declared_namespace ds p) ≡ None → cond b (Some v) (declared_namespace (ds ++ s.namespace q i u ∷ []) p) ≡ None
    go more true k = k
    go more false k = more k
namespace_behind (s.default j None v ∷ ds) q i u p h e = namespace_behind ds q i u p h e
namespace_behind (s.datatypes r j t ∷ ds) q i u p h e = namespace_behind ds q i u p h e

library_kept : (before : List Declaration) (q : Text) (i : ℕ) (u : Uri) (p : Text) → declared_library (before ++ s.namespace q i u ∷ []) p ≡ declared_library before p
library_kept [] q i u p = refl
library_kept (s.datatypes r j t ∷ ds) q i u p = ap (λ o. cond (bytes_eq r p) (Some t) o) (library_kept ds q i u p)
library_kept (s.namespace r j v ∷ ds) q i u p = library_kept ds q i u p
library_kept (s.default j r v ∷ ds) q i u p = library_kept ds q i u p

library_behind : (before : List Declaration) (q : Text) (i : ℕ) (t : Text) (p : Text) → declared_library before p ≡ None → bytes_eq q p ≡ false → declared_library (before ++ s.datatypes q i t ∷ []) p ≡ None
library_behind [] q i t p h e = cond-false _ _ _ e
library_behind (s.datatypes r j v ∷ ds) q i t p h e = go (λ k. library_behind ds q i t p k e) (bytes_eq r p) h
  where
    go : (declared_library ds p ≡ None → declared_library (ds ++ s.datatypes q i t ∷ []) p ≡ None) → (b : Bool) → cond b (Some v) (declared_library ds p) ≡ None → cond b (Some v) (declared_library (ds ++ s.datatypes q i t ∷ []) p) ≡ None
    go more true k = k
    go more false k = more k
library_behind (s.namespace r j v ∷ ds) q i t p h e = library_behind ds q i t p h e
library_behind (s.default j r v ∷ ds) q i t p h e = library_behind ds q i t p h e

clean_libraries : (ls : List Entry) (before : List Declaration) (i : ℕ) → AllByRecursion (FreshLibrary before) ls → HaveOwnPrefixes ls → AllByRecursion IsOwnLibrary ls → declarations_places before (libraries_from i ls) ≡ []
clean_libraries [] before i f h o = refl
clean_libraries (e ∷ ls) before i f h o =
    let p = encode_utf8_all e.0 in
    let j = prefix_at (codes "datatypes") i in
    let right : is_wrong_library before p e.1 ≡ false = or_from (bytes_eq p (codes "xsd") && not (bytes_eq e.1 xsd_uri)) (is_some (declared_library before p)) (and_left _ _ o.0) (ap is_some f.0) in
    let more = clean_libraries ls (before ++ s.datatypes p j e.1 ∷ []) (behind i (binding (codes "datatypes") e.0 e.1))
    (mapped (λ d. OtherPrefix e d × FreshLibrary before d) (FreshLibrary (before ++ s.datatypes p j e.1 ∷ [])) (λ d k. library_behind before p j e.1 (encode_utf8_all d.0) k.1 k.0) ls (zipped (OtherPrefix e) (FreshLibrary before) ls h.0 f.1)) h.1 o.1 in
    (λ x. place_if (right x) j ++ more x)

pub clean_declarations : (es ls : List Entry) (before : List Declaration) (i k : ℕ) → AllByRecursion (Fresh before) es → AllByRecursion (FreshLibrary before) ls → HaveOwnPrefixes es → HaveOwnPrefixes ls → AllByRecursion IsOwnNamespace es → AllByRecursion IsOwnLibrary ls
    → declarations_places before (namespaces_from i es ++ libraries_from k ls) ≡ []
clean_declarations [] ls before i k f fl h hl o ol = clean_libraries ls before k fl hl ol
clean_declarations (e ∷ es) ls before i k f fl h hl o ol =
    let p = encode_utf8_all e.0 in
    let j = prefix_at (codes "namespace") i in
    let right : is_wrong_namespace before p (s.literal e.1) ≡ false =
    or_from (bytes_eq p (codes "xmlns") || (bytes_eq p (codes "xml") && not (is_xml_uri (s.literal e.1)))) (is_some (declared_namespace before p)) (or_from (bytes_eq p (codes "xmlns")) _ o.0.0 (and_left _ _ o.0.1)) (ap is_some f.0) in
    let next = before ++ s.namespace p j (s.literal e.1) ∷ [] in
    let more = clean_declarations es ls next (behind i (binding (codes "namespace") e.0 e.1)) k
    (mapped (λ d. OtherPrefix e d × Fresh before d) (Fresh next) (λ d x. namespace_behind before p j (s.literal e.1) (encode_utf8_all d.0) x.1 x.0) es (zipped (OtherPrefix e) (Fresh before) es h.0 f.1))
    (mapped (FreshLibrary before) (FreshLibrary next) (λ d x. library_kept before p j (s.literal e.1) (encode_utf8_all d.0) ∙ x) ls fl) h.1 hl o.1 ol in
    (λ x. place_if (right x) j ++ more x)
