-- Attributes of a tag that get their namespaces.
use Rattle.std.proofs.Common.{◌≡◌, ◌<◌, ◌≤◌, ◌+◌, ℕ, zero, suc, Bool, true, false, cond, List, [], ◌∷◌, ◌++◌, length, get_or, set, take, drop, refl, sym, ap, ◌∙◌, subst, arith, ⊎_elim, inl, inr, length-append, length-set, Some, None}
use Rattle.std.specs.Prelude.{◌==◌, ◌⊎◌, nat_lt, All, AllPairs, Option, map, slice_get, vec_len, bytes_eq, String, string_bytes, if◌then◌else◌, encode_utf8_all}
use Rattle.std.specs.BTreeMap.{is_at}
use Rattle.std.specs.BTreeSet.{BTreeSet}
use Rattle.std.specs.List.{list_any}
use Rattle.std.specs.Ordering.{is_eq, ordering_then}
use Rattle.std.specs.declared.cmp.Ordering.TheVariants.{Less, Equal, Greater}
use Rattle.std.specs.declared.alloc.Global.{Global}
use Rattle.std.specs.Option.{option_map, option_map_or}
use Rattle.std.proofs.lemmas.Bool.{both_ways, cases_Bool, cond-true, cond-false, eqb-true, false≢true}
use Rattle.std.proofs.lemmas.List.{append_assoc, append-nil, take-append-drop, length-take-le, length-map, nil_from_length}
use Rattle.std.proofs.lemmas.List.Elements.{All-push, All-append}
use Rattle.std.proofs.lemmas.List.Quantifiers.{all_pairs_push}
use Rattle.std.proofs.lemmas.Option.{none-some, slice_get_cases}
use Rattle.rn_text.specs.Texts.{Text}
use Rattle.rn_xml.specs.PrefixScopes.{around, uri_at}
use Rattle.rn_xml.specs.declared.scopes.Scopes.{Scopes}
use Rattle.rn_xml.specs.declared.tables.Tables.{Tables}
use Rattle.rn_xml.specs.Infoset.{Attribute}
use Rattle.rn_xml.specs.XmlTags.{WrittenAttribute, Scope, MayBind, AreNamed, AreUnique, attribute_uri, declared_prefix, uri_in, bindings}
use Rattle.rn_xml.specs.XmlTags as x
use Rattle.rn_xml.specs.DocumentTrees.{uri_at_index, attribute_of, binding_of}
use Rattle.rn_xml.specs.declared.document.XmlAttribute.{XmlAttribute}
use Rattle.rn_xml.specs.declared.document.XmlDocument.{XmlDocument}
use Rattle.rn_xml.specs.declared.tags.TagReader.{TagReader}
use Rattle.rn_xml.specs.inside.KnownTexts.{index_in, uri_in_table, KnowsUris}
use Rattle.rn_xml.specs.inside.OpenTables.{binding_at, Denotes}
use Rattle.rn_xml.specs.inside.NamedRows.{KeepsTag, NamesRow, row_named}
use Rattle.rn_xml.specs.inside.SeenPairs.{has_pair, pair_cmp}
use Rattle.rn_xml.specs.inside.TagTables.{HasAttributes, HasTag, attribute_index}
use Rattle.rn_xml.specs.inside.WrittenAttributes.{Unnamed, unnamed_of, unnamed, unnamed_before}
use Rattle.rn_xml.proofs.RowReads.{got_left, got_last}
use Rattle.rn_xml.proofs.ScopeMeans.{equal_bytes, other_bytes, prefix_means}
use Rattle.rn_xml.proofs.TagNames.{empty_text, some_text}
use Rattle.rn_xml.proofs.TagSteps.{knows_same}

pub still : (a b x : Bool) → x ≡ cond a true b → b ≡ true → x ≡ true
still true b x e h = e
still false b x e h = e ∙ h

-- pairs that compare equal are the same
compared : (p q r s : Bool) → is_eq (ordering_then (cond p Less (cond q Equal Greater)) (cond r Less (cond s Equal Greater))) ≡ true → (q ≡ true) × (s ≡ true)
compared true q r s e = absurd (false≢true e)
compared false true true s e = absurd (false≢true e)
compared false true false true e = (refl, refl)
compared false true false false e = absurd (false≢true e)
compared false false r s e = absurd (false≢true e)

pub pair_only : (pair p : ℕ × ℕ) (b x : Bool) → x ≡ cond (is_at (pair_cmp pair) p) true b → x ≡ true → ((p.0 ≡ pair.0) × (p.1 ≡ pair.1)) ⊎ (b ≡ true)
pair_only pair p b x e h = at (is_at (pair_cmp pair) p) refl e
  where
    at : (a : Bool) → is_at (pair_cmp pair) p ≡ a → x ≡ cond a true b → ((p.0 ≡ pair.0) × (p.1 ≡ pair.1)) ⊎ (b ≡ true)
    at true same f =
        let both = compared (nat_lt pair.0 p.0) (pair.0 == p.0) (nat_lt pair.1 p.1) (pair.1 == p.1) same in
        inl (sym (eqb-true pair.0 p.0 both.0), sym (eqb-true pair.1 p.1 both.1))
    at false same f = inr (sym f ∙ h)

pub none_there : (seen : BTreeSet (ℕ × ℕ)) → seen.keys ≡ [] → (p : ℕ × ℕ) → has_pair seen p ≡ false
none_there seen e p = ap (list_any (is_at (pair_cmp p))) e

-- ---- a row within a list

pub record IsRowAt {X : Type 0} (xs ys : List X) (n : ℕ) (y : X) : Type 0 where
  pub rest : List X
  pub is : ys ≡ y ∷ rest
  pub written : (z : X) → set (xs ++ ys) n z ≡ xs ++ z ∷ rest

pub row_at : {X : Type 0} (xs ys : List X) (n : ℕ) (y : X) → n ≡ length xs → slice_get (xs ++ ys) n ≡ Some y → IsRowAt xs ys n y
row_at [] [] n y e h = absurd (none-some y h)
row_at [] (v ∷ ys) zero y e h = record { rest = ys; is = (let f : v ≡ y = cc in ap (λ a. a ∷ ys) f); written = λ z. refl }
row_at [] (v ∷ ys) (suc n) y e h = absurd (omega arith)
row_at (u ∷ xs) ys zero y e h = absurd (omega arith)
row_at (u ∷ xs) ys (suc n) y e h = let r = row_at xs ys n y (omega arith) h in record { rest = r.rest; is = r.is; written = λ z. ap (λ l. u ∷ l) (r.written z) }

-- ---- rows with their namespaces

pub data AreNamedRows (means : Text → Option ℕ) : List XmlAttribute → List XmlAttribute → Type 0 where
  none : AreNamedRows means [] []
  more : {a : XmlAttribute} {uri : ℕ} {done named : List XmlAttribute} → means a.name.prefix.now ≡ Some uri → AreNamedRows means done named → AreNamedRows means (a ∷ done) (row_named a uri ∷ named)

named_push : (means : Text → Option ℕ) (done named : List XmlAttribute) (a : XmlAttribute) (uri : ℕ) → AreNamedRows means done named → means a.name.prefix.now ≡ Some uri → AreNamedRows means (done ++ a ∷ []) (named ++ row_named a uri ∷ [])
named_push means done named a uri AreNamedRows.none m = AreNamedRows.more m AreNamedRows.none
named_push means done named a uri (AreNamedRows.more {done = d} {named = n} k h) m = AreNamedRows.more k (named_push means d n a uri h m)

named_length : (means : Text → Option ℕ) (done named : List XmlAttribute) → AreNamedRows means done named → length named ≡ length done
named_length means done named AreNamedRows.none = refl
named_length means done named (AreNamedRows.more {done = d} {named = n} k h) = omega (arith, named_length means d n h)

-- not the same name, by indices
abbrev pub AreOther : XmlAttribute → XmlAttribute → Type 0
AreOther a b = ¬ ((a.name.uri ≡ b.name.uri) × (a.name.local.now ≡ b.name.local.now))

abbrev pub IsSeen : TagReader → BTreeSet (ℕ × ℕ) → XmlAttribute → Type 0
IsSeen r seen a = (l : ℕ) × (index_in r.locals a.name.local.now ≡ Some l) × (has_pair seen (a.name.uri, l) ≡ true)

-- the pair is that of one of these rows
abbrev pub IsOfRow : TagReader → List XmlAttribute → ℕ × ℕ → Type 0
IsOfRow r named p = (k : ℕ) × (b : XmlAttribute) × (slice_get named k ≡ Some b) × (b.name.uri ≡ p.0) × (index_in r.locals b.name.local.now ≡ Some p.1)

-- what the loop keeps
pub record NamesUpTo (old new : TagReader) (first index : ℕ) (seen : BTreeSet (ℕ × ℕ)) : Type 0 where
  pub keeps : KeepsTag old new
  pub front : List XmlAttribute
  pub done : List XmlAttribute
  pub todo : List XmlAttribute
  pub named : List XmlAttribute
  pub were : old.tables.document.attributes.items ≡ front ++ (done ++ todo)
  pub are : new.tables.document.attributes.items ≡ (front ++ named) ++ todo
  pub starts : length front ≡ first
  pub count : length done + first ≡ index
  pub rows : AreNamedRows (attribute_index old) done named
  pub within : All (λ a. a.name.uri < vec_len old.tables.document.uris) named
  pub others : AllPairs AreOther named
  pub seen_all : All (IsSeen new seen) named
  pub seen_only : (p : ℕ × ℕ) → has_pair seen p ≡ true → IsOfRow new named p

pub names_none : (r : TagReader) (first : ℕ) (seen : BTreeSet (ℕ × ℕ)) → ((p : ℕ × ℕ) → has_pair seen p ≡ false) → first ≤ length r.tables.document.attributes.items → NamesUpTo r r first first seen
names_none r first seen empty low = record {
  keeps = record { rest = refl; indices = refl; scopes = refl; opened = refl; len = refl; locals = λ q i h. h };
  front = take first r.tables.document.attributes.items;
  done = [];
  todo = drop first r.tables.document.attributes.items;
  named = [];
  were = sym (take-append-drop first r.tables.document.attributes.items);
  are = sym (ap (λ l. l ++ drop first r.tables.document.attributes.items) (append-nil (take first r.tables.document.attributes.items)) ∙ take-append-drop first r.tables.document.attributes.items);
  starts = length-take-le first r.tables.document.attributes.items low;
  count = omega arith;
  rows = AreNamedRows.none;
  within = λ k d h. absurd (omega arith);
  others = λ i j d h g. absurd (omega arith);
  seen_all = λ k d h. absurd (omega arith);
  seen_only = λ p h. absurd (both_ways (has_pair seen p) (empty p) h);
}

pub same_index : (old mid : TagReader) → KeepsTag old mid → (q : Text) → attribute_index mid q ≡ attribute_index old q
same_index old mid keeps q =
    ap (λ (d : XmlDocument). if length q == 0 then Some 0 else uri_at d.declarations.items mid.scopes q) keeps.rest ∙ ap (λ (s : Scopes). if length q == 0 then Some 0 else uri_at old.tables.document.declarations.items s q) keeps.scopes

pub rest_more : (old mid new : XmlDocument) → mid ≡ record old { attributes = mid.attributes } → new ≡ record mid { attributes = new.attributes } → new ≡ record old { attributes = new.attributes }
rest_more old mid new up step = step ∙ ap (λ (d : XmlDocument). let e : XmlDocument = record d { attributes = new.attributes } in e) up

keeps_more : (old mid new : TagReader) → KeepsTag old mid → KeepsTag mid new → KeepsTag old new
keeps_more old mid new up step = record {
  rest = rest_more old.tables.document mid.tables.document new.tables.document up.rest step.rest;
  indices = step.indices ∙ up.indices;
  scopes = step.scopes ∙ up.scopes;
  opened = step.opened ∙ up.opened;
  len = step.len ∙ up.len;
  locals = λ q i h. step.locals q i (up.locals q i h);
}

differs : (mid new : TagReader) (index : ℕ) (seen newer : BTreeSet (ℕ × ℕ)) (step : NamesRow mid new index seen newer) (b : XmlAttribute) → IsSeen mid seen b → AreOther b (row_named step.row step.uri)
differs mid new index seen newer step b (l, known, hit) (same_uri, same_local) = both_ways (has_pair seen (step.uri, step.local)) step.fresh
    (subst (λ k. has_pair seen (step.uri, k) ≡ true) same (subst (λ u. has_pair seen (u, l) ≡ true) same_uri hit))
  where
    here : index_in new.locals step.row.name.local.now ≡ Some l
    here = subst (λ t. index_in new.locals t ≡ Some l) same_local (step.keeps.locals b.name.local.now l known)

    same : l ≡ step.local
    same = let e : Some l ≡ Some step.local = sym here ∙ step.known in cc

pub names_more : (old mid new : TagReader) (first index : ℕ) (seen newer : BTreeSet (ℕ × ℕ)) → NamesUpTo old mid first index seen → NamesRow mid new index seen newer → NamesUpTo old new first (index + 1) newer
names_more old mid new first index seen newer up step = record {
  keeps = keeps_more old mid new up.keeps step.keeps;
  front = up.front;
  done = up.done ++ step.row ∷ [];
  todo = at.rest;
  named = up.named ++ row_named step.row step.uri ∷ [];
  were = up.were ∙ ap (λ l. up.front ++ (up.done ++ l)) at.is ∙ ap (λ l. up.front ++ l) (sym (append_assoc up.done (step.row ∷ []) at.rest));
  are =
      step.items ∙ ap (λ l. set l index (row_named step.row step.uri)) up.are ∙ at.written (row_named step.row step.uri)
      ∙ sym (append_assoc (up.front ++ up.named) (row_named step.row step.uri ∷ []) at.rest) ∙ ap (λ l. l ++ at.rest) (append_assoc up.front up.named (row_named step.row step.uri ∷ []));
  starts = up.starts;
  count = omega (arith, length-append up.done (step.row ∷ []), up.count);
  rows = named_push (attribute_index old) up.done up.named step.row step.uri up.rows (sym (same_index old mid up.keeps step.row.name.prefix.now) ∙ step.means);
  within = All-push (λ a. a.name.uri < vec_len old.tables.document.uris) up.named (row_named step.row step.uri) up.within
      (let same : vec_len mid.tables.document.uris ≡ vec_len old.tables.document.uris = ap (λ (d : XmlDocument). vec_len d.uris) up.keeps.rest in let low = step.within in omega arith);
  others = all_pairs_push AreOther up.named (row_named step.row step.uri) up.others (λ k d h. differs mid new index seen newer step (get_or up.named k d) (up.seen_all k d h));
  seen_all = All-push (IsSeen new newer) up.named (row_named step.row step.uri)
      (λ k d h. let s = up.seen_all k d h in (s.0, step.keeps.locals (get_or up.named k d).name.local.now s.0 s.1, step.seen_still ((get_or up.named k d).name.uri, s.0) s.2))
      (step.local, step.known, step.seen_now);
  seen_only = λ p h. ⊎_elim
      (λ same. (length up.named, row_named step.row step.uri, got_last up.named (row_named step.row step.uri), sym same.0, step.known ∙ ap (λ n. Some n) (sym same.1)))
      (λ was. let of = up.seen_only p was in (of.0, of.1, got_left up.named (row_named step.row step.uri ∷ []) of.0 of.1 of.2, of.3, step.keeps.locals of.1.name.local.now p.1 of.4))
      (step.seen_only p h);
}
  where
    at : IsRowAt (up.front ++ up.named) up.todo index step.row
    at = row_at (up.front ++ up.named) up.todo index step.row (omega (arith, length-append up.front up.named, named_length (attribute_index old) up.done up.named up.rows, up.starts, up.count)) (ap (λ l. slice_get l index) (sym up.are) ∙ step.there)

got_seam : {X : Type 0} (xs : List X) (y : X) (ys : List X) → slice_get (xs ++ y ∷ ys) (length xs) ≡ Some y
got_seam [] y ys = refl
got_seam (x ∷ xs) y ys = got_seam xs y ys

-- the next row, behind those that have their namespaces
pub names_parted : (old mid : TagReader) (first index : ℕ) (seen : BTreeSet (ℕ × ℕ)) (up : NamesUpTo old mid first index seen) (row : XmlAttribute) → slice_get mid.tables.document.attributes.items index ≡ Some row
    → slice_get (up.done ++ up.todo) (length up.done) ≡ Some row
names_parted old mid first index seen up row there = ap (λ l. slice_get (up.done ++ l) (length up.done)) at.is ∙ got_seam up.done row at.rest
  where
    at : IsRowAt (up.front ++ up.named) up.todo index row
    at = row_at (up.front ++ up.named) up.todo index row (omega (arith, length-append up.front up.named, named_length (attribute_index old) up.done up.named up.rows, up.starts, up.count)) (ap (λ l. slice_get l index) (sym up.are) ∙ there)

pub row_count : (old new : TagReader) (index : ℕ) (seen newer : BTreeSet (ℕ × ℕ)) → NamesRow old new index seen newer → vec_len new.tables.document.attributes ≡ vec_len old.tables.document.attributes
row_count old new index seen newer step =
    omega (arith, ap length step.items, length-set old.tables.document.attributes.items index (row_named step.row step.uri), old.tables.document.attributes.ok.0, new.tables.document.attributes.ok.0)

-- ---- the names of all of them

append_parts : {X : Type 0} (xs us ys vs : List X) → length xs ≡ length ys → xs ++ us ≡ ys ++ vs → (xs ≡ ys) × (us ≡ vs)
append_parts [] us [] vs e h = (refl, h)
append_parts [] us (y ∷ ys) vs e h = absurd (omega arith)
append_parts (x ∷ xs) us [] vs e h = absurd (omega arith)
append_parts (x ∷ xs) us (y ∷ ys) vs e h =
    let first : x ≡ y = cc in
    let others : xs ++ us ≡ ys ++ vs = cc in
    let more = append_parts xs us ys vs (omega arith) others in (ap (λ a. a ∷ xs) first ∙ ap (λ l. y ∷ l) more.0, more.1)

names_are : (d : XmlDocument) (scope : Scope) (means : Text → Option ℕ) → ((q : Text) (u : ℕ) → means q ≡ Some u → attribute_uri scope q ≡ Some (uri_at_index d u)) → (written : List WrittenAttribute) (done named : List XmlAttribute)
    → AreNamedRows means done named → map unnamed_of done ≡ unnamed written → AreNamed scope written (map (attribute_of d) named)
names_are d scope means uris [] done named AreNamedRows.none e = x.AreNamed.none
names_are d scope means uris [] done named (AreNamedRows.more {a = b} {done = ds} m h) e = let no : unnamed_of b ∷ map unnamed_of ds ≡ [] = e in absurd (cc)
names_are d scope means uris (a ∷ written) done named h e = by_cases (λ ds ns k f. names_are d scope means uris written ds ns k f) (declared_prefix a) refl done named h e
  where
    by_cases : ((done named : List XmlAttribute) → AreNamedRows means done named → map unnamed_of done ≡ unnamed written → AreNamed scope written (map (attribute_of d) named)) → (o : Option (List ℕ)) → declared_prefix a ≡ o
        → (done named : List XmlAttribute) → AreNamedRows means done named → map unnamed_of done ≡ unnamed_before a o (unnamed written) → AreNamed scope (a ∷ written) (map (attribute_of d) named)
    by_cases others (Some prefix) is done named h e = x.AreNamed.declares is (others done named h e)
    by_cases others None is done named AreNamedRows.none e = let no : [] ≡ unnamed_before a None (unnamed written) = e in absurd (cc)
    by_cases others None is done named (AreNamedRows.more {a = b} {uri = u} {done = ds} {named = ns} m h) e =
        let one : Unnamed = record { prefix = encode_utf8_all a.prefix; local = encode_utf8_all a.local; value = encode_utf8_all a.value } in
        let first : unnamed_of b ≡ one = cc in
        let behind : map unnamed_of ds ≡ unnamed written = cc in
        let make : Unnamed → Attribute = λ n. record { name = record { uri = uri_at_index d u; prefix = n.prefix; local = n.local }; value = n.value } in
        subst (λ n. AreNamed scope (a ∷ written) (make n ∷ map (attribute_of d) ns)) (sym first)
        (x.AreNamed.named is (subst (λ n. attribute_uri scope n.prefix ≡ Some (uri_at_index d u)) first (uris b.name.prefix.now u m)) (others ds ns h behind))

-- what the prefix of an attribute means
pub attribute_means : (r : TagReader) (scope : Scope) → All MayBind scope → KnowsUris r.tables → ((q : Text) → Denotes (binding_at r.tables.document) q scope (around r.scopes q)) → (q : Text) (u : ℕ)
    → attribute_index r q ≡ Some u → attribute_uri scope q ≡ Some (uri_at_index r.tables.document u)
attribute_means r scope may knows denotes q u m = ⊎_elim
    (λ empty.
    let nothing : q ≡ [] = empty_text q empty in
    let zero_is : u ≡ 0 = let e : Some 0 ≡ Some u = sym (cond-true (length q == 0) (Some 0) (uri_at r.tables.document.declarations.items r.scopes q) empty) ∙ m in cc in
    cond-true (bytes_eq q []) (Some []) (uri_in scope q) (equal_bytes q [] nothing) ∙ ap (λ t. Some t) (sym (ap (uri_at_index r.tables.document) zero_is ∙ knows.none)))
    (λ some.
    cond-false (bytes_eq q []) (Some []) (uri_in scope q) (other_bytes q [] (some_text q some))
    ∙ prefix_means r.tables.document r.scopes q scope u may knows.none knows.xml (denotes q) (sym (cond-false (length q == 0) (Some 0) (uri_at r.tables.document.declarations.items r.scopes q) some) ∙ m))
    (cases_Bool (length q == 0))

-- names that differ by indices differ
got_map : {X Y : Type 0} (f : X → Y) (xs : List X) (i : ℕ) (d : Y) (e : X) → i < length xs → get_or (map f xs) i d ≡ f (get_or xs i e)
got_map f [] i d e h = absurd (omega arith)
got_map f (x ∷ xs) zero d e h = refl
got_map f (x ∷ xs) (suc i) d e h = got_map f xs i d e (omega arith)

other_names : (t : Tables) → KnowsUris t → (a b : XmlAttribute) → a.name.uri < vec_len t.document.uris → b.name.uri < vec_len t.document.uris → AreOther a b
    → ¬ (((attribute_of t.document a).name.uri ≡ (attribute_of t.document b).name.uri) × ((attribute_of t.document a).name.local ≡ (attribute_of t.document b).name.local))
other_names t knows a b la lb other (same_uri, same_local) = other (same, same_local)
  where
    there : (i : ℕ) → i < vec_len t.document.uris → uri_in_table t.document i ≡ Some (uri_at_index t.document i)
    there i h = at (slice_get t.document.uris.items i) refl
      where
        at : (o : Option (String Global)) → slice_get t.document.uris.items i ≡ o → option_map (λ s. string_bytes s) o ≡ Some (option_map_or (λ s. string_bytes s) o [])
        at None e = ⊎_elim (λ s. absurd (none-some s.0 (sym e ∙ s.2))) (λ p. absurd (omega (arith, p.0, t.document.uris.ok.0))) (slice_get_cases t.document.uris.items i).1
        at (Some s) e = refl

    same : a.name.uri ≡ b.name.uri
    same =
        let one : index_in t.uris (uri_at_index t.document a.name.uri) ≡ Some a.name.uri = knows.is_known (uri_at_index t.document a.name.uri) a.name.uri (there a.name.uri la) in
        let two : index_in t.uris (uri_at_index t.document b.name.uri) ≡ Some b.name.uri = knows.is_known (uri_at_index t.document b.name.uri) b.name.uri (there b.name.uri lb) in
        let e : Some a.name.uri ≡ Some b.name.uri = sym one ∙ ap (index_in t.uris) same_uri ∙ two in cc

unique_rows : (t : Tables) (named : List XmlAttribute) → KnowsUris t → All (λ a. a.name.uri < vec_len t.document.uris) named → AllPairs AreOther named → AreUnique (map (attribute_of t.document) named)
unique_rows t [] knows within others = λ i j d h g. absurd (omega arith)
unique_rows t (r ∷ rs) knows within others = λ i j d h g.
    let inside : j < length (r ∷ rs) = omega (arith, length-map (r ∷ rs) (attribute_of t.document)) in
    let before : i < length (r ∷ rs) = omega arith in
    let one = got_map (attribute_of t.document) (r ∷ rs) i d r before in
    let two = got_map (attribute_of t.document) (r ∷ rs) j d r inside in
    subst (λ (a : Attribute). ¬ ((a.name.uri ≡ (get_or (map (attribute_of t.document) (r ∷ rs)) j d).name.uri) × (a.name.local ≡ (get_or (map (attribute_of t.document) (r ∷ rs)) j d).name.local))) (sym one)
    (subst (λ (b : Attribute). ¬ (((attribute_of t.document (get_or (r ∷ rs) i r)).name.uri ≡ b.name.uri) × ((attribute_of t.document (get_or (r ∷ rs) i r)).name.local ≡ b.name.local))) (sym two)
    (other_names t knows (get_or (r ∷ rs) i r) (get_or (r ∷ rs) j r) (within i r before) (within j r inside) (others i j r h inside)))

-- the rows of the tag are those that have their namespaces and those that haven't
pub tag_parts : (r old new : TagReader) (outer : Scope) (first index declarations : ℕ) (written : List WrittenAttribute) (seen : BTreeSet (ℕ × ℕ)) (has : HasAttributes r old outer declarations written) → first ≡ vec_len r.tables.document.attributes
    → (up : NamesUpTo old new first index seen) → (up.front ≡ r.tables.document.attributes.items) × (up.done ++ up.todo ≡ has.more_attributes)
tag_parts r old new outer first index declarations written seen has is up =
    append_parts up.front (up.done ++ up.todo) r.tables.document.attributes.items has.more_attributes (omega (arith, up.starts, r.tables.document.attributes.ok.0)) (sym up.were ∙ has.attributes)

pub tag_named : (r old new : TagReader) (outer : Scope) (first index declarations : ℕ) (written : List WrittenAttribute) (seen : BTreeSet (ℕ × ℕ)) → HasAttributes r old outer declarations written → first ≡ vec_len r.tables.document.attributes
    → (first ≤ length old.tables.document.attributes.items → NamesUpTo old new first index seen) → length old.tables.document.attributes.items ≤ index → HasTag r new outer written
tag_named r old new outer first index declarations written seen has is names all = named_tag (names low)
  where
    low : first ≤ length old.tables.document.attributes.items
    low = omega (arith, ap length has.attributes, length-append r.tables.document.attributes.items has.more_attributes, r.tables.document.attributes.ok.0)

    named_tag : NamesUpTo old new first index seen → HasTag r new outer written
    named_tag up = record {
      len = up.keeps.len ∙ has.len;
      opened = up.keeps.opened ∙ has.opened;
      elements = ap (λ (d : XmlDocument). d.elements) up.keeps.rest ∙ has.elements;
      texts = ap (λ (d : XmlDocument). d.texts) up.keeps.rest ∙ has.texts;
      more_uris = has.more_uris;
      uris = ap (λ (d : XmlDocument). d.uris.items) up.keeps.rest ∙ has.uris;
      more_attributes = up.named;
      attributes = up.are ∙ ap (λ l. (up.front ++ up.named) ++ l) nothing ∙ append-nil (up.front ++ up.named) ∙ ap (λ l. l ++ up.named) parts.0;
      are_named = λ outer_may. names_are new.tables.document (bindings written ++ outer) (attribute_index old)
          (λ q u m. attribute_means new (bindings written ++ outer) (All-append MayBind (bindings written) outer has.may_bind outer_may) knows denotes q u (same_index old new up.keeps q ∙ m))
          written up.done up.named up.rows (ap (map unnamed_of) (sym (append-nil up.done) ∙ ap (λ l. up.done ++ l) (sym nothing) ∙ parts.1) ∙ has.are_unnamed);
      unique = unique_rows new.tables up.named knows (subst (λ (d : XmlDocument). All (λ a. a.name.uri < vec_len d.uris) up.named) (sym up.keeps.rest) up.within) up.others;
      more_declarations = has.more_declarations;
      declarations = ap (λ (d : XmlDocument). d.declarations.items) up.keeps.rest ∙ has.declarations;
      are_bound = subst (λ (d : XmlDocument). map (binding_of d) has.more_declarations ≡ bindings written) (sym up.keeps.rest) has.are_bound;
      knows = knows;
      denotes = denotes;
      may_bind = has.may_bind;
      distinct = has.distinct;
    }
      where
        nothing : up.todo ≡ []
        nothing = nil_from_length up.todo (omega (arith, ap length up.were, length-append up.front (up.done ++ up.todo), length-append up.done up.todo, up.starts, up.count))

        parts : (up.front ≡ r.tables.document.attributes.items) × (up.done ++ up.todo ≡ has.more_attributes)
        parts = tag_parts r old new outer first index declarations written seen has is up

        knows : KnowsUris new.tables
        knows = knows_same old.tables new.tables (ap (λ (d : XmlDocument). d.uris) up.keeps.rest) up.keeps.indices has.knows

        denotes : (q : Text) → Denotes (binding_at new.tables.document) q (bindings written ++ outer) (around new.scopes q)
        denotes q = subst (λ (s : Scopes). Denotes (binding_at new.tables.document) q (bindings written ++ outer) (around s q)) (sym up.keeps.scopes)
            (subst (λ (d : XmlDocument). Denotes (binding_at d) q (bindings written ++ outer) (around old.scopes q)) (sym up.keeps.rest) (has.denotes q))
