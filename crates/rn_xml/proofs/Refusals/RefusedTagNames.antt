-- Names of attributes that mean nothing, or that two attributes of a tag have.
use Rattle.std.proofs.Common.{◌≡◌, ◌≢◌, ◌<◌, ◌≤◌, ℕ, zero, suc, List, [], ◌∷◌, ◌++◌, length, get_or, refl, sym, ap, ◌∙◌, subst, arith, ⊎_elim, length-append, inl, inr, Some, None}
use Rattle.std.specs.Prelude.{◌==◌, ◌⊎◌, All, Option, map, codes, slice_get, vec_len, bytes_eq, if◌then◌else◌, encode_utf8_all}
use Rattle.std.specs.BTreeSet.{BTreeSet}
use Rattle.std.specs.Option.{option_map}
use Rattle.std.proofs.lemmas.Bool.{both_ways, cases_Bool, cond-true, cond-false}
use Rattle.std.proofs.lemmas.List.Elements.{All-append}
use Rattle.std.proofs.lemmas.Option.{none-some, get_or_from_slice_get, slice_get_within}
use Rattle.rn_text.specs.Texts.{Text}
use Rattle.rn_xml.specs.Infoset.{Attribute}
use Rattle.rn_xml.specs.PrefixScopes.{around, innermost, uri_found, uri_at}
use Rattle.rn_xml.specs.XmlTags.{WrittenAttribute, Scope, MayBind, AreNamed, AreUnique, attribute_uri, uri_in, bindings, xml_uri}
use Rattle.rn_xml.specs.XmlTags as x
use Rattle.rn_xml.specs.DocumentTrees.{uri_at_index, binding_of}
use Rattle.rn_xml.specs.declared.document.XmlAttribute.{XmlAttribute}
use Rattle.rn_xml.specs.declared.document.XmlDeclaration.{XmlDeclaration}
use Rattle.rn_xml.specs.declared.document.XmlDocument.{XmlDocument}
use Rattle.rn_xml.specs.declared.scopes.Scopes.{Scopes}
use Rattle.rn_xml.specs.declared.tags.TagReader.{TagReader}
use Rattle.rn_xml.specs.inside.KnownTexts.{KnowsUris}
use Rattle.rn_xml.specs.inside.NamedRows.{CannotName, RepeatsName, row_named}
use Rattle.rn_xml.specs.inside.OpenTables.{binding_at, Denotes}
use Rattle.rn_xml.specs.inside.TagTables.{HasAttributes, LackNames, attribute_index}
use Rattle.rn_xml.specs.inside.WrittenAttributes.{Unnamed, unnamed_of, unnamed, unnamed_before}
use Rattle.rn_xml.proofs.NamedAttributes.{NamesUpTo, AreNamedRows, tag_parts, attribute_means, same_index, names_parted}
use Rattle.rn_xml.proofs.RowReads.{got_left}
use Rattle.rn_xml.proofs.ScopeMeans.{equal_bytes, other_bytes, innermost_last}
use Rattle.rn_xml.proofs.TagNames.{some_text}

-- ---- a prefix that means nothing

-- no declaration of it is around
found_lacks : (d : XmlDocument) (q : Text) (s : Scope) (ns : List ℕ) → q ≢ codes "xml" → Denotes (binding_at d) q s ns → uri_found d.declarations.items q (innermost ns) ≡ None → uri_in s q ≡ None
found_lacks d q s ns other Denotes.nothing none = ⊎_elim
    (λ empty. absurd (none-some 0 (sym none ∙ cond-true (length q == 0) (Some 0) None empty)))
    (λ some. cond-false (bytes_eq q (codes "xml")) (Some xml_uri) (if bytes_eq q [] then Some [] else None) (other_bytes q (codes "xml") other) ∙ cond-false (bytes_eq q []) (Some []) None (other_bytes q [] (some_text q some)))
    (cases_Bool (length q == 0))
found_lacks d q s ns other (Denotes.other {b = b} {scope = more} miss rest) none = cond-false (bytes_eq b.prefix q) (Some b.uri) (uri_in more q) miss ∙ found_lacks d q more ns other rest none
found_lacks d q s ns other (Denotes.this {b = b} {scope = more} {ns = ms} n hit is rest) none =
    absurd (at (slice_get d.declarations.items n) is (ap (uri_found d.declarations.items q) (sym (innermost_last ms n)) ∙ none))
  where
    at : (o : Option XmlDeclaration) → option_map (binding_of d) o ≡ Some b → option_map (λ (r : XmlDeclaration). r.uri) o ≡ None → ⊥
    at None some lacks = none-some b some
    at (Some r) some lacks = none-some r.uri (sym lacks)

pub prefix_lacks : (d : XmlDocument) (scopes : Scopes) (q : Text) (s : Scope) → Denotes (binding_at d) q s (around scopes q) → uri_at d.declarations.items scopes q ≡ None → uri_in s q ≡ None
prefix_lacks d scopes q s denotes none = ⊎_elim
    (λ hit. absurd (none-some 1 (sym none ∙ cond-true (bytes_eq q (codes "xml")) (Some 1) (uri_found d.declarations.items q (innermost (around scopes q))) hit)))
    (λ miss. found_lacks d q s (around scopes q) (λ e. both_ways (bytes_eq q (codes "xml")) miss (equal_bytes q (codes "xml") e)) denotes
    (sym (cond-false (bytes_eq q (codes "xml")) (Some 1) (uri_found d.declarations.items q (innermost (around scopes q))) miss) ∙ none))
    (cases_Bool (bytes_eq q (codes "xml")))

attribute_lacks : (r : TagReader) (s : Scope) → ((q : Text) → Denotes (binding_at r.tables.document) q s (around r.scopes q)) → (q : Text) → attribute_index r q ≡ None → attribute_uri s q ≡ None
attribute_lacks r s denotes q none = ⊎_elim
    (λ empty. absurd (none-some 0 (sym none ∙ cond-true (length q == 0) (Some 0) (uri_at r.tables.document.declarations.items r.scopes q) empty)))
    (λ some. cond-false (bytes_eq q []) (Some []) (uri_in s q) (other_bytes q [] (some_text q some))
    ∙ prefix_lacks r.tables.document r.scopes q s (denotes q) (sym (cond-false (length q == 0) (Some 0) (uri_at r.tables.document.declarations.items r.scopes q) some) ∙ none))
    (cases_Bool (length q == 0))

-- ---- the attribute of a row

-- the attribute that has this name as it is written
pub record IsNamedAt (scope : Scope) (attributes : List Attribute) (k : ℕ) (u : Unnamed) : Type 0 where
  pub a : Attribute
  pub there : slice_get attributes k ≡ Some a
  pub uri : attribute_uri scope u.prefix ≡ Some a.name.uri
  pub local : a.name.local ≡ u.local

pub named_at : (scope : Scope) (written : List WrittenAttribute) (attributes : List Attribute) (k : ℕ) (u : Unnamed) → AreNamed scope written attributes → slice_get (unnamed written) k ≡ Some u → IsNamedAt scope attributes k u
named_at scope written attributes k u x.AreNamed.none h = absurd (none-some u h)
named_at scope written attributes k u (x.AreNamed.declares {a = a} {written = w} {attributes = more} is rest) h =
    named_at scope w more k u rest (sym (ap (λ o. slice_get (unnamed_before a o (unnamed w)) k) is) ∙ h)
named_at scope written attributes k u (x.AreNamed.named {a = a} {written = w} {attributes = more} {uri = uri} is means rest) h =
    at k (λ n g. named_at scope w more n u rest g) (sym (ap (λ o. slice_get (unnamed_before a o (unnamed w)) k) is) ∙ h)
  where
    at : (k : ℕ) → ((n : ℕ) → slice_get (unnamed w) n ≡ Some u → IsNamedAt scope more n u)
        → slice_get ((record { prefix = encode_utf8_all a.prefix; local = encode_utf8_all a.local; value = encode_utf8_all a.value }) ∷ unnamed w) k ≡ Some u
        → IsNamedAt scope ((record { name = record { uri = uri; prefix = encode_utf8_all a.prefix; local = encode_utf8_all a.local }; value = encode_utf8_all a.value }) ∷ more) k u
    at zero others h =
        let make : Unnamed = record { prefix = encode_utf8_all a.prefix; local = encode_utf8_all a.local; value = encode_utf8_all a.value } in
        let e : Some make ≡ Some u = h in
        let same : make ≡ u = cc in
        record {
          a = record { name = record { uri = uri; prefix = encode_utf8_all a.prefix; local = encode_utf8_all a.local }; value = encode_utf8_all a.value };
          there = refl;
          uri = subst (λ (v : Unnamed). attribute_uri scope v.prefix ≡ Some uri) same means;
          local = ap (λ (v : Unnamed). v.local) same;
        }
    at (suc k) others h = let r = others k h in record { a = r.a; there = r.there; uri = r.uri; local = r.local }

got_map : {X Y : Type 0} (f : X → Y) (xs : List X) (k : ℕ) (x : X) → slice_get xs k ≡ Some x → slice_get (map f xs) k ≡ Some (f x)
got_map f [] k x h = absurd (none-some x h)
got_map f (y ∷ xs) zero x h = ap (λ v. Some (f v)) (let e : Some y ≡ Some x = h in let same : y ≡ x = cc in same)
got_map f (y ∷ xs) (suc k) x h = got_map f xs k x h

-- the row that got its namespace, as it was before
pub record WasRow (means : Text → Option ℕ) (done : List XmlAttribute) (k : ℕ) (b : XmlAttribute) : Type 0 where
  pub was : XmlAttribute
  pub there : slice_get done k ≡ Some was
  pub means_uri : means was.name.prefix.now ≡ Some b.name.uri
  pub local : was.name.local.now ≡ b.name.local.now

was_row : (means : Text → Option ℕ) (done named : List XmlAttribute) (k : ℕ) (b : XmlAttribute) → AreNamedRows means done named → slice_get named k ≡ Some b → WasRow means done k b
was_row means done named k b AreNamedRows.none h = absurd (none-some b h)
was_row means done named zero b (AreNamedRows.more {a = a} {uri = u} m rest) h =
    let e : Some (row_named a u) ≡ Some b = h in
    let same : row_named a u ≡ b = cc in
    record { was = a; there = refl; means_uri = m ∙ ap (λ (r : XmlAttribute). Some r.name.uri) same; local = ap (λ (r : XmlAttribute). r.name.local.now) same }
was_row means done named (suc k) b (AreNamedRows.more {done = ds} {named = ns} m rest) h =
    let r = was_row means ds ns k b rest h in record { was = r.was; there = r.there; means_uri = r.means_uri; local = r.local }

-- two attributes with one name
two_same : (attributes : List Attribute) (i j : ℕ) (a b : Attribute) → i < j → slice_get attributes i ≡ Some a → slice_get attributes j ≡ Some b → a.name.uri ≡ b.name.uri → a.name.local ≡ b.name.local → ¬ AreUnique attributes
two_same attributes i j a b low one two uri local unique =
    let first : get_or attributes i a ≡ a = get_or_from_slice_get attributes i a a one in
    let second : get_or attributes j a ≡ b = get_or_from_slice_get attributes j b a two in
    unique i j a low (slice_get_within attributes j b two)
    (ap (λ (c : Attribute). c.name.uri) first ∙ uri ∙ sym (ap (λ (c : Attribute). c.name.uri) second), ap (λ (c : Attribute). c.name.local) first ∙ local ∙ sym (ap (λ (c : Attribute). c.name.local) second))

-- the attribute of the next row can't have a name
pub tag_unnamed : (r old mid new : TagReader) (outer : Scope) (first index declarations : ℕ) (written : List WrittenAttribute) (seen : BTreeSet (ℕ × ℕ)) → HasAttributes r old outer declarations written → first ≡ vec_len r.tables.document.attributes
    → All MayBind outer → (first ≤ length old.tables.document.attributes.items → NamesUpTo old mid first index seen) → CannotName mid new index seen → LackNames (bindings written ++ outer) written
tag_unnamed r old mid new outer first index declarations written seen has is outer_may names cannot attributes are unique = wrong cannot.why
  where
    scope : Scope
    scope = bindings written ++ outer

    low : first ≤ length old.tables.document.attributes.items
    low = omega (arith, ap length has.attributes, length-append r.tables.document.attributes.items has.more_attributes, r.tables.document.attributes.ok.0)

    up : NamesUpTo old mid first index seen
    up = names low

    rows : map unnamed_of (up.done ++ up.todo) ≡ unnamed written
    rows = ap (map unnamed_of) (tag_parts r old mid outer first index declarations written seen has is up).1 ∙ has.are_unnamed

    here : slice_get (up.done ++ up.todo) (length up.done) ≡ Some cannot.row
    here = names_parted old mid first index seen up cannot.row cannot.there

    mine : IsNamedAt scope attributes (length up.done) (unnamed_of cannot.row)
    mine = named_at scope written attributes (length up.done) (unnamed_of cannot.row) are (ap (λ l. slice_get l (length up.done)) (sym rows) ∙ got_map unnamed_of (up.done ++ up.todo) (length up.done) cannot.row here)

    knows : KnowsUris old.tables
    knows = has.knows

    may : All MayBind scope
    may = All-append MayBind (bindings written) outer has.may_bind outer_may

    wrong : (attribute_index mid cannot.row.name.prefix.now ≡ None) ⊎ RepeatsName mid new cannot.row seen → ⊥
    wrong (inl none) =
        let lacks : attribute_uri scope cannot.row.name.prefix.now ≡ None = attribute_lacks old scope has.denotes cannot.row.name.prefix.now (sym (same_index old mid up.keeps cannot.row.name.prefix.now) ∙ none) in
        none-some mine.a.name.uri (sym lacks ∙ mine.uri)
    wrong (inr repeats) =
        let of = up.seen_only (repeats.uri, repeats.local) repeats.has in
        let was = was_row (attribute_index old) up.done up.named of.0 of.1 up.rows of.2 in
        let before : of.0 < length up.done = slice_get_within up.done of.0 was.was was.there in
        let other = named_at scope written attributes of.0 (unnamed_of was.was) are
        (ap (λ l. slice_get l of.0) (sym rows) ∙ got_map unnamed_of (up.done ++ up.todo) of.0 was.was (got_left up.done up.todo of.0 was.was was.there)) in
        let uri : Some other.a.name.uri ≡ Some (uri_at_index old.tables.document of.1.name.uri) = sym other.uri ∙ attribute_means old scope may knows has.denotes was.was.name.prefix.now of.1.name.uri was.means_uri in
        let my_uri : Some mine.a.name.uri ≡ Some (uri_at_index old.tables.document repeats.uri) =
        sym mine.uri ∙ attribute_means old scope may knows has.denotes cannot.row.name.prefix.now repeats.uri (sym (same_index old mid up.keeps cannot.row.name.prefix.now) ∙ repeats.means) in
        let same_uri : other.a.name.uri ≡ mine.a.name.uri = let index : uri_at_index old.tables.document of.1.name.uri ≡ uri_at_index old.tables.document repeats.uri = ap (uri_at_index old.tables.document) of.3 in cc in
        let same_local : of.1.name.local.now ≡ cannot.row.name.local.now = new.apart.apart of.1.name.local.now cannot.row.name.local.now repeats.local (repeats.locals of.1.name.local.now repeats.local of.4) repeats.known in
        two_same attributes of.0 (length up.done) other.a mine.a before other.there mine.there same_uri (other.local ∙ was.local ∙ same_local ∙ sym mine.local) unique
