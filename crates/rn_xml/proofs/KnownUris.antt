-- Names of namespaces that get indices.
use Rattle.std.proofs.Common.{◌≡◌, ℕ, zero, suc, ◌<◌, ◌≤◌, List, [], ◌∷◌, ◌++◌, length, refl, sym, ap, ◌∙◌, arith, ⊎_elim, inl, inr, Some, None}
use Rattle.std.specs.Prelude.{◌⊎◌, Option, String, string_bytes, slice_get, map, bytes_eq, vec_len, if◌then◌else◌}
use Rattle.std.specs.Option.{option_map, option_map_or}
use Rattle.std.specs.declared.alloc.Global.{Global}
use Rattle.std.proofs.lemmas.Bool.{cases_Bool, cond-true, cond-false}
use Rattle.std.proofs.lemmas.Option.{none-some, slice_get-map, slice_get_within}
use Rattle.std.proofs.lemmas.List.{map-append, length-map}
use Rattle.rn_text.specs.Texts.{Text}
use Rattle.rn_xml.specs.XmlTags.{xml_uri}
use Rattle.rn_xml.specs.DocumentTrees.{uri_at_index}
use Rattle.rn_xml.specs.declared.document.XmlDocument.{XmlDocument}
use Rattle.rn_xml.specs.declared.tables.Tables.{Tables}
use Rattle.rn_xml.specs.inside.KnownTexts.{index_in, uri_in_table, KnowsUris}
use Rattle.rn_xml.proofs.RowReads.{got_left, got_last, got_cases, got_within}
use Rattle.rn_xml.proofs.ScopeMeans.{equal_bytes}
use Rattle.rn_xml.proofs.ScopeSteps.{same_bytes}

texts_of : List (String Global) → List Text
texts_of l = map (λ s. string_bytes s) l

in_texts : (d : XmlDocument) (i : ℕ) → uri_in_table d i ≡ slice_get (texts_of d.uris.items) i
unfolding texts_of
in_texts d i = sym (slice_get-map (λ (s : String Global). string_bytes s) d.uris.items i)

-- a name that is in the table is the one of its index
pub uri_there : (d : XmlDocument) (i : ℕ) (q : Text) → uri_in_table d i ≡ Some q → uri_at_index d i ≡ q
uri_there d i q h = at (slice_get d.uris.items i) h
  where
    at : (o : Option (String Global)) → option_map (λ s. string_bytes s) o ≡ Some q → option_map_or (λ s. string_bytes s) o [] ≡ q
    at None e = absurd (none-some q e)
    at (Some s) e = cc

longer : (old new : XmlDocument) (q : Text) (s : String Global) → string_bytes s ≡ q → new.uris.items ≡ old.uris.items ++ s ∷ [] → texts_of new.uris.items ≡ texts_of old.uris.items ++ q ∷ []
unfolding texts_of
longer old new q s is items =
    ap texts_of items ∙ map-append (λ (x : String Global). string_bytes x) old.uris.items (s ∷ []) ∙ ap (λ t. texts_of old.uris.items ++ t ∷ []) is

-- an index with a name is within the table
pub uri_within_table : (d : XmlDocument) (i : ℕ) (q : Text) → uri_in_table d i ≡ Some q → i < vec_len d.uris
unfolding texts_of
uri_within_table d i q h =
    let inside : i < length (texts_of d.uris.items) = slice_get_within (texts_of d.uris.items) i q (sym (in_texts d i) ∙ h) in
    omega (arith, inside, length-map d.uris.items (λ (x : String Global). string_bytes x), d.uris.ok.0)

-- a new name comes behind
pub knows_push : (old new : Tables) (q : Text) (s : String Global) (n : ℕ) → KnowsUris old → 2 ≤ vec_len old.document.uris → string_bytes s ≡ q → new.document.uris.items ≡ old.document.uris.items ++ s ∷ []
    → index_in old.uris q ≡ None → n ≡ vec_len old.document.uris → ((p : Text) → index_in new.uris p ≡ (if bytes_eq q p then Some n else index_in old.uris p)) → KnowsUris new
unfolding texts_of
knows_push old new q s n knows two is items unknown count updates =
    let before : List Text = texts_of old.document.uris.items in
    let all : texts_of new.document.uris.items ≡ before ++ q ∷ [] = longer old.document new.document q s is items in
    let length_is : n ≡ length before = count ∙ old.document.uris.ok.0 ∙ sym (length-map old.document.uris.items (λ (x : String Global). string_bytes x)) in
    let there = λ (p : Text) (i : ℕ). in_texts new.document i ∙ ap (λ l. slice_get l i) all in
    let kept = λ (k : ℕ) (low : k < vec_len old.document.uris). ap (λ l. option_map_or (λ (x : String Global). string_bytes x) (slice_get l k) []) items
    ∙ ap (λ o. option_map_or (λ (x : String Global). string_bytes x) o []) (got_within old.document.uris.items (s ∷ []) k (omega (arith, old.document.uris.ok.0))) in
    record {
      is_there = λ p i h. ⊎_elim
          (λ same. let at : n ≡ i = let e : Some n ≡ Some i = sym (updates p ∙ cond-true (bytes_eq q p) (Some n) (index_in old.uris p) same) ∙ h in cc in
          there p i ∙ ap (λ k. slice_get (before ++ q ∷ []) k) (sym at ∙ length_is) ∙ got_last before q ∙ ap (λ t. Some t) (same_bytes q p same))
          (λ other. let old_is : index_in old.uris p ≡ Some i = sym (updates p ∙ cond-false (bytes_eq q p) (Some n) (index_in old.uris p) other) ∙ h in
          there p i ∙ got_left before (q ∷ []) i p (sym (in_texts old.document i) ∙ knows.is_there p i old_is))
          (cases_Bool (bytes_eq q p));
      is_known = λ p i h. ⊎_elim
          (λ earlier.
          let was : index_in old.uris p ≡ Some i = knows.is_known p i (in_texts old.document i ∙ earlier) in
          ⊎_elim
          (λ same. absurd (none-some i (sym unknown ∙ ap (index_in old.uris) (same_bytes q p same) ∙ was)))
          (λ other. updates p ∙ cond-false (bytes_eq q p) (Some n) (index_in old.uris p) other ∙ was)
          (cases_Bool (bytes_eq q p)))
          (λ last. updates p ∙ cond-true (bytes_eq q p) (Some n) (index_in old.uris p) (equal_bytes q p last.1) ∙ ap (λ k. Some k) (length_is ∙ sym last.0))
          (got_cases before q i p (sym (there p i) ∙ h));
      none = kept 0 (omega arith) ∙ knows.none;
      xml = kept 1 (omega arith) ∙ knows.xml;
    }

pub pushed_uri : (old new : XmlDocument) (q : Text) (s : String Global) (n : ℕ) → string_bytes s ≡ q → new.uris.items ≡ old.uris.items ++ s ∷ [] → n ≡ vec_len old.uris → uri_in_table new n ≡ Some q
unfolding texts_of
pushed_uri old new q s n is items count =
    let length_is : n ≡ length (texts_of old.uris.items) = count ∙ old.uris.ok.0 ∙ sym (length-map old.uris.items (λ (x : String Global). string_bytes x)) in
    in_texts new n ∙ ap (λ l. slice_get l n) (longer old new q s is items) ∙ ap (λ k. slice_get (texts_of old.uris.items ++ q ∷ []) k) length_is ∙ got_last (texts_of old.uris.items) q

two_cases : {X : Type 0} (a b x : X) (i : ℕ) → slice_get (a ∷ b ∷ []) i ≡ Some x → (i ≡ 0) × (a ≡ x) ⊎ (i ≡ 1) × (b ≡ x)
two_cases a b x zero h = inl (refl, cc)
two_cases a b x (suc zero) h = inr (refl, cc)
two_cases a b x (suc (suc i)) h = absurd (none-some x h)

-- the names that each document has
pub knows_first : (t : Tables) (a b : String Global) → t.document.uris.items ≡ a ∷ b ∷ [] → string_bytes a ≡ [] → string_bytes b ≡ xml_uri
    → ((p : Text) → index_in t.uris p ≡ (if bytes_eq xml_uri p then Some 1 else (if bytes_eq [] p then Some 0 else None))) → KnowsUris t
unfolding texts_of
knows_first t a b items first second known =
    let texts : texts_of t.document.uris.items ≡ [] ∷ xml_uri ∷ [] = ap texts_of items ∙ ap (λ x. x ∷ string_bytes b ∷ []) first ∙ ap (λ y. [] ∷ y ∷ []) second in
    let there = λ (i : ℕ). in_texts t.document i ∙ ap (λ l. slice_get l i) texts in
    record {
      is_there = λ p i h. ⊎_elim
          (λ same. let at : 1 ≡ i = let e : Some 1 ≡ Some i = sym (known p ∙ cond-true (bytes_eq xml_uri p) (Some 1) (if bytes_eq [] p then Some 0 else None) same) ∙ h in cc in
          there i ∙ ap (λ k. slice_get ([] ∷ xml_uri ∷ []) k) (sym at) ∙ ap (λ q. Some q) (same_bytes xml_uri p same))
          (λ other. ⊎_elim
          (λ empty. let at : 0 ≡ i = let e : Some 0 ≡ Some i = sym (known p ∙ cond-false (bytes_eq xml_uri p) (Some 1) (if bytes_eq [] p then Some 0 else None) other ∙ cond-true (bytes_eq [] p) (Some 0) None empty) ∙ h in cc in
          there i ∙ ap (λ k. slice_get ([] ∷ xml_uri ∷ []) k) (sym at) ∙ ap (λ q. Some q) (same_bytes [] p empty))
          (λ none. absurd (none-some i (sym (known p ∙ cond-false (bytes_eq xml_uri p) (Some 1) (if bytes_eq [] p then Some 0 else None) other ∙ cond-false (bytes_eq [] p) (Some 0) None none) ∙ h)))
          (cases_Bool (bytes_eq [] p)))
          (cases_Bool (bytes_eq xml_uri p));
      is_known = λ p i h. ⊎_elim
          (λ zero_at. ap (index_in t.uris) (sym zero_at.1) ∙ known [] ∙ ap (λ k. Some k) (sym zero_at.0))
          (λ one_at. ap (index_in t.uris) (sym one_at.1) ∙ known xml_uri ∙ cond-true (bytes_eq xml_uri xml_uri) (Some 1) (if bytes_eq [] xml_uri then Some 0 else None) (equal_bytes xml_uri xml_uri refl) ∙ ap (λ k. Some k) (sym one_at.0))
          (two_cases [] xml_uri p i (sym (there i) ∙ h));
      none = uri_there t.document 0 [] (there 0);
      xml = uri_there t.document 1 xml_uri (there 1);
    }
