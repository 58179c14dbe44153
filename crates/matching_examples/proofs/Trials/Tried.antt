-- Documents tried by computing: whether they are documents, and whether they are valid.
use Rattle.std.proofs.Common.{◌≡◌, ◌≢◌, ℕ, zero, suc, Bool, true, false, not, ◌&&◌, List, [], ◌∷◌, refl, arith}
use Rattle.std.specs.Prelude.{bytes_eq, All}
use Rattle.std.specs.Bool.{Decides}
use Rattle.std.proofs.lemmas.Bool.{false≢true, and_parts}
use Rattle.std.proofs.lemmas.Bool.Decides.{Decides-not, Decides-and, Decides-by_and}
use Rattle.std.proofs.lemmas.List.Kept.{AllPairs-cons}
use Rattle.std.proofs.lemmas.Slice.Eq.{bytes_eq-Decides}
use Rattle.rn_text.specs.Texts.{Text}
use Rattle.rn_pattern.specs.Document.{Attribute, Item, Items, node, string, no_items, more_items, items_of, HasDistinctNames, StringsStandApart, IsDocument, AreDocuments}
use Rattle.rn_pattern.specs.Datatype.{Table}
use Rattle.rn_pattern.specs.Matching.{Grammar}
use Rattle.matching_examples.specs.Examples.{Accepts, Rejects}
use Rattle.matching_examples.proofs.Trials.Accepting.{is_empty, is_valid_within}
use Rattle.matching_examples.proofs.Trials.Accepted.{valid_within, not_valid_within}

abbrev SameName : Attribute → Attribute → Type 0
SameName x y = (x.uri ≡ y.uri) × (x.local ≡ y.local)

abbrev has_other_name : Attribute → Attribute → Bool
has_other_name x y = not (bytes_eq x.uri y.uri && bytes_eq x.local y.local)

abbrev has_new_name : Attribute → List Attribute → Bool
has_new_name x [] = true
has_new_name x (y ∷ a) = has_other_name x y && has_new_name x a

abbrev has_distinct_names : List Attribute → Bool
has_distinct_names [] = true
has_distinct_names (x ∷ a) = has_new_name x a && has_distinct_names a

abbrev strings_stand_apart : List Item → Bool
strings_stand_apart [] = true
strings_stand_apart (string s ∷ []) = not (is_empty s)
strings_stand_apart (string s ∷ string t ∷ is) = false
strings_stand_apart (string s ∷ node u l a k ∷ is) = not (is_empty s) && strings_stand_apart is
strings_stand_apart (node u l a k ∷ is) = strings_stand_apart is

abbrev mutual
  pub is_document : Item → Bool
  is_document (node u l a k) = has_distinct_names a && (strings_stand_apart (items_of k) && are_documents k)
  is_document (string s) = false

  are_documents : Items → Bool
  are_documents no_items = true
  are_documents (more_items (node u l a k) is) = is_document (node u l a k) && are_documents is
  are_documents (more_items (string s) is) = are_documents is

other_name_decides : (x y : Attribute) → Decides (has_other_name x y) (¬ SameName x y)
other_name_decides x y = Decides-not (bytes_eq x.uri y.uri && bytes_eq x.local y.local) (Decides-and (bytes_eq x.uri y.uri) (bytes_eq x.local y.local) (bytes_eq-Decides x.uri y.uri) (bytes_eq-Decides x.local y.local))

new_name : (x : Attribute) (a : List Attribute) → has_new_name x a ≡ true → All (λ y. ¬ SameName x y) a
new_name x a e = (Decides-by_and (has_other_name x) (λ y. ¬ SameName x y) (has_new_name x) (other_name_decides x) refl (λ y b. refl) a).0 e

distinct_names : (a : List Attribute) → has_distinct_names a ≡ true → HasDistinctNames a
distinct_names [] e = λ i j d lt within. absurd (omega arith)
distinct_names (x ∷ a) e =
    let (new, rest) = and_parts (has_new_name x a) (has_distinct_names a) e in
    AllPairs-cons (λ y z. ¬ SameName y z) x a (new_name x a new) (distinct_names a rest)

some_text : (s : Text) → not (is_empty s) ≡ true → s ≢ []
some_text [] e = absurd (false≢true e)
some_text (c ∷ s) e = λ h. cc

apart : (m : List Item) → strings_stand_apart m ≡ true → StringsStandApart m
apart [] e = tt
apart (string s ∷ []) e = some_text s e
apart (string s ∷ string t ∷ is) e = absurd (false≢true e)
apart (string s ∷ node u l a k ∷ is) e =
    let (some, rest) = and_parts (not (is_empty s)) (strings_stand_apart is) e in
    (some_text s some, apart is rest)
apart (node u l a k ∷ is) e = apart is e

mutual
  pub document : (i : Item) → is_document i ≡ true → IsDocument i
  document (node u l a k) e =
      let (names, rest) = and_parts (has_distinct_names a) (strings_stand_apart (items_of k) && are_documents k) e in
      let (strings, within) = and_parts (strings_stand_apart (items_of k)) (are_documents k) rest in
      (distinct_names a names, apart (items_of k) strings, documents k within)
  document (string s) e = absurd (false≢true e)

  documents : (is : Items) → are_documents is ≡ true → AreDocuments is
  documents no_items e = tt
  documents (more_items (node u l a k) is) e =
      let (here, rest) = and_parts (is_document (node u l a k)) (are_documents is) e in
      (document (node u l a k) here, documents is rest)
  documents (more_items (string s) is) e = documents is e

-- valid through at most n nested references
pub accepted : (n : ℕ) (G : Grammar) (T : Table) (doc : Item) → is_document doc ≡ true → is_valid_within n G T doc ≡ true → Accepts G T doc
accepted n G T doc e f = (document doc e, valid_within G T n doc f)

pub rejected : (G : Grammar) (T : Table) (doc : Item) → is_document doc ≡ true → ((n : ℕ) → is_valid_within n G T doc ≡ false) → Rejects G T doc
rejected G T doc e f = (document doc e, not_valid_within G T doc f)

-- a test that fails with no reference, and at each depth from one on; and so up to three
pub from_one : (f : ℕ → Bool) → f 0 ≡ false → ((n : ℕ) → f (suc n) ≡ false) → (n : ℕ) → f n ≡ false
from_one f none more zero = none
from_one f none more (suc n) = more n

pub from_two : (f : ℕ → Bool) → f 0 ≡ false → f 1 ≡ false → ((n : ℕ) → f (suc (suc n)) ≡ false) → (n : ℕ) → f n ≡ false
from_two f none once more = from_one f none (from_one (λ n. f (suc n)) once more)

pub from_three : (f : ℕ → Bool) → f 0 ≡ false → f 1 ≡ false → f 2 ≡ false → ((n : ℕ) → f (suc (suc (suc n))) ≡ false) → (n : ℕ) → f n ≡ false
from_three f none once twice more = from_two f none once (from_one (λ n. f (suc (suc n))) twice more)
