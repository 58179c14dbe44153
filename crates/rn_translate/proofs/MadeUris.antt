-- The table of URIs that mean something by themselves.
use Rattle.std.proofs.Common.{◌≡◌, ℕ, zero, suc, ◌+◌, ◌<◌, true, false, List, [], ◌∷◌, ◌++◌, length, take, get_or, refl, sym, ap, ◌∙◌, subst, arith, ⊎_elim, inl, inr, Bor, String, Global, Some, None}
use Rattle.std.specs.Prelude.{◌⊎◌, Option, All, option_map, slice_get, string_bytes, bytes_eq}
use Rattle.std.proofs.lemmas.List.Elements.{All-more}
use Rattle.std.proofs.lemmas.Option.{none-some, same_Some}
use Rattle.rn_text.specs.Texts.{Text}
use Rattle.rn_xml.specs.XmlTags.{xml_uri}
use Rattle.rn_xml.specs.declared.document.XmlAttribute.{XmlAttribute}
use Rattle.rn_translate.specs.inside.UriTables.{AreIndexed, HasAdded, HasUri, IsTable, gives_uri, index_of, text_at}
use Rattle.rn_translate.specs.SchemaTokens.{xsd_uri}
use Rattle.rn_translate.specs.declared.uris.Uris.{Uris}
use Rattle.rn_translate.proofs.AddedUris.{has_still}

abbrev text_in : List (Bor Text) → ℕ → Option Text
text_in xs k = option_map (λ (t : Bor Text). t.now) (slice_get xs k)

-- a text that stands nowhere has no index
unknown : (u : Uris) (q : Text) → AreIndexed u → ((k : ℕ) → 0 < k → text_at u k ≡ Some q → ⊥) → index_of u q ≡ None
unknown u q are nowhere = at (index_of u q) refl
  where
    at : (o : Option ℕ) → index_of u q ≡ o → index_of u q ≡ None
    at None e = e
    at (Some k) e = let there = are.is_there q k e in absurd (nowhere k there.0 there.1)

in_one : (x : Bor Text) (k : ℕ) (q : Text) → 0 < k → text_in (x ∷ []) k ≡ Some q → ⊥
in_one x zero q some is = omega (arith, some)
in_one x (suc k) q some is = none-some q is

in_two : (x y : Bor Text) (k : ℕ) (q : Text) → 0 < k → text_in (x ∷ y ∷ []) k ≡ Some q → y.now ≡ q
in_two x y zero q some is = absurd (omega (arith, some))
in_two x y (suc zero) q some is = same_Some y.now q is
in_two x y (suc (suc k)) q some is = absurd (none-some q is)

in_three : (x y z : Bor Text) (k : ℕ) (q : Text) → 0 < k → text_in (x ∷ y ∷ z ∷ []) k ≡ Some q → (y.now ≡ q) ⊎ (z.now ≡ q)
in_three x y z zero q some is = absurd (omega (arith, some))
in_three x y z (suc zero) q some is = inl (same_Some y.now q is)
in_three x y z (suc (suc zero)) q some is = inr (same_Some z.now q is)
in_three x y z (suc (suc (suc k))) q some is = absurd (none-some q is)

apart : (p q : Text) → bytes_eq p p ≡ true → bytes_eq p q ≡ false → p ≡ q → ⊥
apart p q same other e = let no : true ≡ false = sym same ∙ ap (bytes_eq p) e ∙ other in cc

pub table_made : (a b c d : Uris) (x y z w : Bor Text) → x.now ≡ [] → y.now ≡ [] → z.now ≡ xml_uri → w.now ≡ xsd_uri
    → a.texts.items ≡ x ∷ [] → ((q : Text) → index_of a q ≡ None) → (AreIndexed a → HasAdded a b y) → (AreIndexed b → HasAdded b c z) → (AreIndexed c → HasAdded c d w) → IsTable d
table_made a b c d x y z w ex ey ez ew items empty first second third =
    let are : AreIndexed a = record {
      inherited = ap (λ xs. text_in xs 0) items ∙ ap (λ t. Some t) ex;
      is_there = λ q k is. absurd (none-some k (sym (empty q) ∙ is));
      is_known = λ q k some is. absurd (in_one x k q some (ap (λ xs. text_in xs k) (sym items) ∙ is));
    } in
    let one = first are in
    let two_items : b.texts.items ≡ x ∷ y ∷ [] = one.fresh (empty y.now) ∙ ap (λ xs. xs ++ y ∷ []) items in
    let no_xml : index_of b z.now ≡ None = unknown b z.now one.indexed (λ k some is.
    apart [] xml_uri refl refl (sym ey ∙ in_two x y k z.now some (ap (λ xs. text_in xs k) (sym two_items) ∙ is) ∙ ez)) in
    let two = second one.indexed in
    let three_items : c.texts.items ≡ x ∷ y ∷ z ∷ [] = two.fresh no_xml ∙ ap (λ xs. xs ++ z ∷ []) two_items in
    let no_xsd : index_of c w.now ≡ None = unknown c w.now two.indexed (λ k some is. ⊎_elim
    (λ e. apart [] xsd_uri refl refl (sym ey ∙ e ∙ ew))
    (λ e. apart xml_uri xsd_uri refl refl (sym ez ∙ e ∙ ew))
    (in_three x y z k w.now some (ap (λ xs. text_in xs k) (sym three_items) ∙ is))) in
    let three = third two.indexed in
    let four_items : d.texts.items ≡ x ∷ y ∷ z ∷ w ∷ [] = three.fresh no_xsd ∙ ap (λ xs. xs ++ w ∷ []) three_items in
    record {
      indexed = three.indexed;
      empty = ap (λ xs. text_in xs 1) four_items ∙ ap (λ t. Some t) ey;
      xml = ap (λ xs. text_in xs 2) four_items ∙ ap (λ t. Some t) ez;
      xsd = ap (λ xs. text_in xs 3) four_items ∙ ap (λ t. Some t) ew;
    }

-- a longer table is one too
pub table_still : (old new : Uris) (text : Bor Text) → IsTable old → HasAdded old new text → IsTable new
table_still old new text table added = record {
  indexed = added.indexed;
  empty = added.kept 1 [] table.empty;
  xml = added.kept 2 xml_uri table.xml;
  xsd = added.kept 3 xsd_uri table.xsd;
}

pub pushed_one : (xs ys : List (Bor Text)) (x : Bor Text) → ys ≡ xs ++ x ∷ [] → xs ≡ [] → ys ≡ x ∷ []
pushed_one xs ys x e none = e ∙ ap (λ l. l ++ x ∷ []) none

-- ---- the table of a document grows

-- the new table has what the old one has, and what this attribute gives
pub record Keeps (old new : Uris) (a : XmlAttribute) : Type 0 where
  pub table : IsTable new
  pub kept : (q : Text) → HasUri old q → HasUri new q
  pub given : gives_uri a.name.local.now ≡ true → HasUri new (string_bytes a.value)

pub namespaces_more : (old new : Uris) (text : Bor Text) (ss : List (String Global)) (i : ℕ) (s : String Global) → IsTable old → HasAdded old new text → i < length ss → s ≡ get_or ss i s → text.now ≡ string_bytes s
    → All (λ (x : String Global). HasUri old (string_bytes x)) (take i ss) → All (λ (x : String Global). HasUri new (string_bytes x)) (take (i + 1) ss)
namespaces_more old new text ss i s table added within is value all =
    All-more (λ (x : String Global). HasUri new (string_bytes x)) ss i s within (λ k d h. has_still old new text (string_bytes (get_or (take i ss) k d)) table.indexed added (all k d h))
    (subst (λ (x : String Global). HasUri new (string_bytes x)) is (subst (HasUri new) value added.has))

pub given_more : (old new : Uris) (rows : List XmlAttribute) (i : ℕ) (a : XmlAttribute) → Keeps old new a → i < length rows → a ≡ get_or rows i a
    → All (λ (x : XmlAttribute). gives_uri x.name.local.now ≡ true → HasUri old (string_bytes x.value)) (take i rows)
    → All (λ (x : XmlAttribute). gives_uri x.name.local.now ≡ true → HasUri new (string_bytes x.value)) (take (i + 1) rows)
given_more old new rows i a keeps within is all =
    All-more (λ (x : XmlAttribute). gives_uri x.name.local.now ≡ true → HasUri new (string_bytes x.value)) rows i a within
    (λ k d h e. keeps.kept (string_bytes (get_or (take i rows) k d).value) (all k d h e))
    (subst (λ (x : XmlAttribute). gives_uri x.name.local.now ≡ true → HasUri new (string_bytes x.value)) is keeps.given)

pub adds_given : (old new : Uris) (text : Bor Text) (a : XmlAttribute) → IsTable old → HasAdded old new text → text.now ≡ string_bytes a.value → Keeps old new a
adds_given old new text a table added value = record {
  table = table_still old new text table added;
  kept = λ q. has_still old new text q table.indexed added;
  given = λ e. subst (HasUri new) value added.has;
}

pub gives_none : (uris : Uris) (a : XmlAttribute) → IsTable uris → gives_uri a.name.local.now ≡ false → Keeps uris uris a
gives_none uris a table none = record {
  table = table;
  kept = λ q h. h;
  given = λ e. absurd (let no : true ≡ false = sym e ∙ none in cc);
}
