-- A text that is added to the table of URIs.
use Rattle.std.proofs.Common.{◌≡◌, ℕ, ◌<◌, true, false, List, [], ◌∷◌, ◌++◌, length, refl, sym, ap, ◌∙◌, subst, arith, ⊎_elim, Bor, Some, None}
use Rattle.std.specs.Prelude.{Option, is_some, option_map, slice_get, bytes_eq}
use Rattle.std.specs.Map.{update}
use Rattle.std.proofs.lemmas.Bool.{cases_Bool, cond-true, cond-false}
use Rattle.std.proofs.lemmas.Option.{none-some, same_Some, slice_get_within}
use Rattle.rn_text.specs.Texts.{Text}
use Rattle.rn_xml.proofs.RowReads.{got_left, got_last, got_cases}
use Rattle.rn_xml.proofs.ScopeMeans.{equal_bytes}
use Rattle.rn_xml.proofs.ScopeSteps.{same_bytes}
use Rattle.rn_translate.specs.inside.UriTables.{AreIndexed, HasAdded, HasUri, index_of, text_at}
use Rattle.rn_translate.specs.declared.uris.Uris.{Uris}

-- the element that a text of a list is of
got_text : (xs : List (Bor Text)) (k : ℕ) (q : Text) → option_map (λ (t : Bor Text). t.now) (slice_get xs k) ≡ Some q → (x : Bor Text) × (slice_get xs k ≡ Some x) × (x.now ≡ q)
got_text xs k q is = at (slice_get xs k) refl is
  where
    at : (o : Option (Bor Text)) → slice_get xs k ≡ o → option_map (λ (t : Bor Text). t.now) o ≡ Some q → (x : Bor Text) × (slice_get xs k ≡ Some x) × (x.now ≡ q)
    at None e h = absurd (none-some q h)
    at (Some x) e h = (x, e, same_Some x.now q h)

text_kept : (xs ys : List (Bor Text)) (k : ℕ) (q : Text) → option_map (λ (t : Bor Text). t.now) (slice_get xs k) ≡ Some q → option_map (λ (t : Bor Text). t.now) (slice_get (xs ++ ys) k) ≡ Some q
text_kept xs ys k q is =
    let got = got_text xs k q is in
    ap (option_map (λ (t : Bor Text). t.now)) (got_left xs ys k got.0 got.1) ∙ ap (λ x. Some x) got.2

pub new_text : (old new : Uris) (text : Bor Text) (n : ℕ) → n ≡ length old.texts.items → AreIndexed old → index_of old text.now ≡ None → new.texts.items ≡ old.texts.items ++ text ∷ []
    → ((q : Text) → index_of new q ≡ update bytes_eq (index_of old) text.now (Some n) q) → HasAdded old new text
new_text old new text n len are none items updates =
    let xs = old.texts.items in
    let now : Bor Text → Text = λ t. t.now in
    let kept : (k : ℕ) (q : Text) → text_at old k ≡ Some q → text_at new k ≡ Some q = λ k q is. ap (λ (l : List (Bor Text)). option_map now (slice_get l k)) items ∙ text_kept xs (text ∷ []) k q is in
    let some : 0 < n = omega (arith, len, slice_get_within xs 0 (got_text xs 0 [] are.inherited).0 (got_text xs 0 [] are.inherited).1) in
    let last : text_at new n ≡ Some text.now = ap (λ (l : List (Bor Text)). option_map now (slice_get l n)) items ∙ ap (option_map now) (ap (slice_get (xs ++ text ∷ [])) len ∙ got_last xs text) in
    let here : index_of new text.now ≡ Some n = updates text.now ∙ cond-true (bytes_eq text.now text.now) (Some n) (index_of old text.now) (equal_bytes text.now text.now refl) in
    let there : (q : Text) (k : ℕ) → index_of new q ≡ Some k → (0 < k) × (text_at new k ≡ Some q) = λ q k is. ⊎_elim
    (λ same.
    let at : n ≡ k = same_Some n k (sym (updates q ∙ cond-true (bytes_eq text.now q) (Some n) (index_of old q) same) ∙ is) in
    subst (λ m. (0 < m) × (text_at new m ≡ Some q)) at (some, last ∙ ap (λ x. Some x) (same_bytes text.now q same)))
    (λ other.
    let was = are.is_there q k (sym (updates q ∙ cond-false (bytes_eq text.now q) (Some n) (index_of old q) other) ∙ is) in
    (was.0, kept k q was.1))
    (cases_Bool (bytes_eq text.now q)) in
    let known : (q : Text) (k : ℕ) → 0 < k → text_at new k ≡ Some q → index_of new q ≡ Some k = λ q k positive is.
    let got = got_text (xs ++ text ∷ []) k q (ap (λ (l : List (Bor Text)). option_map now (slice_get l k)) (sym items) ∙ is) in
    ⊎_elim
    (λ was.
    let before : index_of old q ≡ Some k = are.is_known q k positive (ap (option_map now) was ∙ ap (λ x. Some x) got.2) in
    ⊎_elim
    (λ same. absurd (none-some k (sym none ∙ ap (index_of old) (same_bytes text.now q same) ∙ before)))
    (λ other. updates q ∙ cond-false (bytes_eq text.now q) (Some n) (index_of old q) other ∙ before)
    (cases_Bool (bytes_eq text.now q)))
    (λ new_one. ap (index_of new) (sym got.2 ∙ ap now (sym new_one.1)) ∙ here ∙ ap (λ m. Some m) (len ∙ sym new_one.0))
    (got_cases xs text k got.0 got.1) in
    record {
      kept = kept;
      fresh = λ e. items;
      indexed = record { inherited = kept 0 [] are.inherited; is_there = there; is_known = known };
      has = (n, here);
    }

-- a text that has an index keeps it
pub has_still : (old new : Uris) (text : Bor Text) (q : Text) → AreIndexed old → HasAdded old new text → HasUri old q → HasUri new q
has_still old new text q are added (k, is) =
    let was = are.is_there q k is in
    (k, added.indexed.is_known q k was.0 (added.kept k q was.1))

-- what isn't found is none
pub no_some : {A : Type 0} (o : Option A) → is_some o ≡ false → o ≡ None
no_some None e = refl
no_some (Some x) e = let no : true ≡ false = e in cc
