-- The tables get an attribute or a declaration of a tag.
use Rattle.std.proofs.Common.{◌≡◌, ℕ, suc, ◌<◌, ◌≤◌, List, [], ◌∷◌, ◌++◌, length, get_or, refl, sym, ap, ◌∙◌, subst, arith, ⊎_elim, length-append, false, Some, None}
use Rattle.std.specs.Prelude.{◌≢◌, Option, String, All, map, slice_get, string_bytes, encode_utf8_all, bytes_eq, vec_len}
use Rattle.std.specs.Option.{option_map, option_map_or}
use Rattle.std.specs.declared.alloc.Global.{Global}
use Rattle.std.proofs.lemmas.Bool.{cases_Bool, cond-true, cond-false}
use Rattle.std.proofs.lemmas.Option.{none-some, slice_get-get_or, slice_get_within}
use Rattle.std.proofs.lemmas.List.{append_assoc, append-nil, map-append}
use Rattle.std.proofs.lemmas.List.Elements.{All-push}
use Rattle.std.proofs.lemmas.List.Quantifiers.{all_pairs_push}
use Rattle.rn_text.specs.Texts.{Text}
use Rattle.rn_xml.specs.Infoset.{Binding}
use Rattle.rn_xml.specs.PrefixScopes.{around, innermost, IsEntered}
use Rattle.rn_xml.specs.XmlTags.{WrittenAttribute, Scope, MayBind, AreDistinct, bindings, binding_before, declared_prefix}
use Rattle.rn_xml.specs.DocumentTables.{AreTables}
use Rattle.rn_xml.specs.DocumentTrees.{uri_at_index, binding_of}
use Rattle.rn_xml.specs.declared.document.XmlAttribute.{XmlAttribute}
use Rattle.rn_xml.specs.declared.document.XmlDeclaration.{XmlDeclaration}
use Rattle.rn_xml.specs.declared.document.XmlDocument.{XmlDocument}
use Rattle.rn_xml.specs.declared.tables.Tables.{Tables}
use Rattle.rn_xml.specs.declared.tags.TagReader.{TagReader}
use Rattle.rn_xml.specs.inside.KnownTexts.{index_in, uri_in_table, KnowsUris}
use Rattle.rn_xml.specs.inside.OpenTables.{binding_at, Denotes}
use Rattle.rn_xml.specs.inside.TagTables.{HasAttributes, IsBoundIn, IsRecent}
use Rattle.rn_xml.specs.inside.WrittenAttributes.{Unnamed, unnamed_of, unnamed, unnamed_before, DeclaresAs, NamesAs}
use Rattle.rn_xml.proofs.KnownUris.{uri_there}
use Rattle.rn_xml.proofs.Openings.OpenRows.{NamesGrow, binding_grows}
use Rattle.rn_xml.proofs.RowReads.{got_left, got_last, got_all, map_same}
use Rattle.rn_xml.proofs.ScopeMeans.{equal_bytes, other_bytes, denotes_grow, enters_same, enters_other, innermost_last}
use Rattle.rn_xml.proofs.ScopeSteps.{same_bytes}

-- the same names are known
pub knows_same : (old new : Tables) → new.document.uris ≡ old.document.uris → new.uris ≡ old.uris → KnowsUris old → KnowsUris new
knows_same old new uris indices knows =
    let table = λ (i : ℕ). ap (λ v. option_map (λ (s : String Global). string_bytes s) (slice_get v.items i)) uris in
    let at = λ (i : ℕ). ap (λ v. option_map_or (λ (s : String Global). string_bytes s) (slice_get v.items i) []) uris in
    record {
      is_there = λ q i h. table i ∙ knows.is_there q i (sym (ap (λ x. index_in x q) indices) ∙ h);
      is_known = λ q i h. ap (λ x. index_in x q) indices ∙ knows.is_known q i (sym (table i) ∙ h);
      none = at 0 ∙ knows.none;
      xml = at 1 ∙ knows.xml;
    }

pub bindings_push : (written : List WrittenAttribute) (a : WrittenAttribute) → bindings (written ++ a ∷ []) ≡ bindings written ++ bindings (a ∷ [])
bindings_push [] a = refl
bindings_push (x ∷ written) a = before (declared_prefix x) (bindings_push written a)
  where
    before : (o : Option (List ℕ)) → bindings (written ++ a ∷ []) ≡ bindings written ++ bindings (a ∷ []) → binding_before x o (bindings (written ++ a ∷ [])) ≡ binding_before x o (bindings written) ++ bindings (a ∷ [])
    before None e = e
    before (Some p) e = let one : Binding = record { prefix = encode_utf8_all p; uri = encode_utf8_all x.value } in ap (λ l. one ∷ l) e

unnamed_push : (written : List WrittenAttribute) (a : WrittenAttribute) → unnamed (written ++ a ∷ []) ≡ unnamed written ++ unnamed (a ∷ [])
unnamed_push [] a = refl
unnamed_push (x ∷ written) a = before (declared_prefix x) (unnamed_push written a)
  where
    before : (o : Option (List ℕ)) → unnamed (written ++ a ∷ []) ≡ unnamed written ++ unnamed (a ∷ []) → unnamed_before x o (unnamed (written ++ a ∷ [])) ≡ unnamed_before x o (unnamed written) ++ unnamed (a ∷ [])
    before (Some p) e = e
    before None e = let one : Unnamed = record { prefix = encode_utf8_all x.prefix; local = encode_utf8_all x.local; value = encode_utf8_all x.value } in ap (λ l. one ∷ l) e

-- what a prefix means is the index of a declaration that is there
denoted_below : (d : XmlDocument) (q : Text) (s : Scope) (ns : List ℕ) (n : ℕ) → Denotes (binding_at d) q s ns → innermost ns ≡ Some n → n < length d.declarations.items
denoted_below d q s ns n Denotes.nothing h = absurd (none-some n h)
denoted_below d q s ns n (Denotes.other {scope = more} miss rest) h = denoted_below d q more ns n rest h
denoted_below d q s ns n (Denotes.this {b = b} {scope = more} {ns = ms} m hit is rest) h =
    let same : m ≡ n = let e : Some m ≡ Some n = sym (innermost_last ms m) ∙ h in cc in
    subst (λ k. k < length d.declarations.items) same (there (slice_get d.declarations.items m) refl is)
  where
    there : (o : Option XmlDeclaration) → slice_get d.declarations.items m ≡ o → option_map (binding_of d) o ≡ Some b → m < length d.declarations.items
    there None e none = absurd (none-some b none)
    there (Some row) e some = slice_get_within d.declarations.items m row e

-- the tag's first state
pub starts_attributes : (r : TagReader) (outer : Scope) (first : ℕ) → first ≡ vec_len r.tables.document.declarations → KnowsUris r.tables → ((q : Text) → Denotes (binding_at r.tables.document) q outer (around r.scopes q))
    → HasAttributes r r outer first []
starts_attributes r outer first starts knows denotes = record {
  starts = starts;
  len = refl;
  opened = refl;
  elements = refl;
  texts = refl;
  more_uris = [];
  uris = sym (append-nil r.tables.document.uris.items);
  more_attributes = [];
  attributes = sym (append-nil r.tables.document.attributes.items);
  are_unnamed = refl;
  more_declarations = [];
  declarations = sym (append-nil r.tables.document.declarations.items);
  are_bound = refl;
  knows = knows;
  denotes = denotes;
  may_bind = λ k d h. absurd (omega arith);
  distinct = λ i j d h g. absurd (omega arith);
  recent = λ k d h. absurd (omega arith);
  only = λ q recent.
      let below : recent.0 < length r.tables.document.declarations.items = denoted_below r.tables.document q outer (around r.scopes q) recent.0 (denotes q) recent.1 in
      let low : first ≤ recent.0 = recent.2 in
      absurd (omega (arith, starts, r.tables.document.declarations.ok.0));
}

-- an attribute that declares nothing comes behind
pub adds_attribute : (r old new : TagReader) (outer : Scope) (first : ℕ) (written : List WrittenAttribute) (a : WrittenAttribute) (row : XmlAttribute) → HasAttributes r old outer first written
    → new.tables.document ≡ record old.tables.document { attributes = new.tables.document.attributes } → new.tables.uris ≡ old.tables.uris → new.scopes ≡ old.scopes → new.opened ≡ old.opened → new.len ≡ old.len
    → new.tables.document.attributes.items ≡ old.tables.document.attributes.items ++ row ∷ [] → NamesAs a (unnamed_of row).prefix (unnamed_of row).local (unnamed_of row).value
    → HasAttributes r new outer first (written ++ a ∷ [])
adds_attribute r old new outer first written a row has rest indices scopes opened len items names =
    let bound : bindings (written ++ a ∷ []) ≡ bindings written = bindings_push written a ∙ ap (λ o. bindings written ++ binding_before a o []) names.0 ∙ append-nil (bindings written) in
    let make : Text → Text → Text → Unnamed = λ p l v. record { prefix = p; local = l; value = v } in
    let one : unnamed (a ∷ []) ≡ unnamed_of row ∷ [] = ap (λ o. unnamed_before a o []) names.0
    ∙ ap (λ u. u ∷ []) (ap (λ p. make p (encode_utf8_all a.local) (encode_utf8_all a.value)) names.1 ∙ ap (λ l. make (unnamed_of row).prefix l (encode_utf8_all a.value)) names.2 ∙ ap (make (unnamed_of row).prefix (unnamed_of row).local) names.3) in
    record {
      starts = has.starts;
      len = len ∙ has.len;
      opened = opened ∙ has.opened;
      elements = ap (λ (d : XmlDocument). d.elements) rest ∙ has.elements;
      texts = ap (λ (d : XmlDocument). d.texts) rest ∙ has.texts;
      more_uris = has.more_uris;
      uris = ap (λ (d : XmlDocument). d.uris.items) rest ∙ has.uris;
      more_attributes = has.more_attributes ++ row ∷ [];
      attributes = items ∙ ap (λ l. l ++ row ∷ []) has.attributes ∙ append_assoc r.tables.document.attributes.items has.more_attributes (row ∷ []);
      are_unnamed = map-append unnamed_of has.more_attributes (row ∷ []) ∙ ap (λ l. l ++ unnamed_of row ∷ []) has.are_unnamed ∙ ap (λ l. unnamed written ++ l) (sym one) ∙ sym (unnamed_push written a);
      more_declarations = has.more_declarations;
      declarations = ap (λ (d : XmlDocument). d.declarations.items) rest ∙ has.declarations;
      are_bound = subst (λ (d : XmlDocument). map (binding_of d) has.more_declarations ≡ bindings written) (sym rest) has.are_bound ∙ sym bound;
      knows = knows_same old.tables new.tables (ap (λ (d : XmlDocument). d.uris) rest) indices has.knows;
      denotes = λ q. subst (λ (b : List Binding). Denotes (binding_at new.tables.document) q (b ++ outer) (around new.scopes q)) (sym bound)
          (subst (λ s. Denotes (binding_at new.tables.document) q (bindings written ++ outer) (around s q)) (sym scopes)
          (subst (λ (d : XmlDocument). Denotes (binding_at d) q (bindings written ++ outer) (around old.scopes q)) (sym rest) (has.denotes q)));
      may_bind = subst (All MayBind) (sym bound) has.may_bind;
      distinct = subst AreDistinct (sym bound) has.distinct;
      recent = subst (All (λ b. IsRecent new.scopes first b.prefix)) (sym bound) (subst (λ s. All (λ b. IsRecent s first b.prefix) (bindings written)) (sym scopes) has.recent);
      only = λ q recent. subst (λ b. IsBoundIn b q) (sym bound) (has.only q (subst (λ s. IsRecent s first q) scopes recent));
    }

binding_stays : (d new : XmlDocument) → NamesGrow d new → AreTables d → (n : ℕ) (b : Binding) → binding_at d n ≡ Some b → binding_at new n ≡ Some b
binding_stays d new grow tables n b h = at (slice_get d.declarations.items n) refl h
  where
    at : (o : Option XmlDeclaration) → slice_get d.declarations.items n ≡ o → option_map (binding_of d) o ≡ Some b → binding_at new n ≡ Some b
    at None e g = absurd (none-some b g)
    at (Some x) e g =
        let low : x.uri < vec_len d.uris = got_all (λ (y : XmlDeclaration). y.uri < vec_len d.uris) d.declarations.items n x tables.declarations e in
        ap (λ l. option_map (binding_of new) (slice_get l n)) grow.declarations ∙ ap (option_map (binding_of new)) (got_left d.declarations.items grow.more_declarations n x e)
        ∙ ap (λ y. Some y) (binding_grows d new grow x low) ∙ g

pub binding_kept : (d new : XmlDocument) → NamesGrow d new → AreTables d → (n : ℕ) (b : Binding) → binding_at d n ≡ Some b → binding_at new n ≡ Some b
binding_kept d new grow tables n b h = binding_stays d new grow tables n b h

pub all_right : {X : Type 0} (P : X → Type 0) (xs ys : List X) → All P (xs ++ ys) → All P ys
all_right P [] ys all = all
all_right P (x ∷ xs) ys all = all_right P xs ys (λ k d h. all (suc k) d (omega arith))

-- a declaration comes behind
pub adds_declaration : (r old new : TagReader) (outer : Scope) (first : ℕ) (written : List WrittenAttribute) (a : WrittenAttribute) (prefix uri : Text) (row : XmlDeclaration) (index : ℕ) (more : List (String Global))
    → HasAttributes r old outer first written → new.tables.document ≡ record old.tables.document { uris = new.tables.document.uris; declarations = new.tables.document.declarations } → new.opened ≡ old.opened → new.len ≡ old.len
    → new.tables.document.uris.items ≡ old.tables.document.uris.items ++ more → KnowsUris new.tables → new.tables.document.declarations.items ≡ old.tables.document.declarations.items ++ row ∷ []
    → row.prefix.now ≡ prefix → uri_in_table new.tables.document row.uri ≡ Some uri → index ≡ vec_len old.tables.document.declarations → IsEntered old.scopes new.scopes prefix index
    → MayBind (record { prefix = prefix; uri = uri }) → ((n : ℕ) → innermost (around old.scopes prefix) ≡ Some n → n < first) → DeclaresAs a prefix uri
    → HasAttributes r new outer first (written ++ a ∷ [])
adds_declaration r old new outer first written a prefix uri row index more has rest opened len uris knows declarations row_prefix row_uri at entered may fresh declares =
    let b : Binding = record { prefix = prefix; uri = uri } in
    let make : Text → Text → Binding = λ p u. record { prefix = p; uri = u } in
    let old_d : XmlDocument = old.tables.document in
    let new_d : XmlDocument = new.tables.document in
    let grow : NamesGrow old_d new_d = record {
      more_uris = more;
      uris = uris;
      more_attributes = [];
      attributes = ap (λ (d : XmlDocument). d.attributes.items) rest ∙ sym (append-nil old_d.attributes.items);
      more_declarations = row ∷ [];
      declarations = declarations;
    } in
    let bound : bindings (written ++ a ∷ []) ≡ bindings written ++ b ∷ [] = bindings_push written a
    ∙ ap (λ o. bindings written ++ binding_before a o []) declares.1 ∙ ap (λ p. bindings written ++ make p (encode_utf8_all a.value) ∷ []) declares.2 ∙ ap (λ u. bindings written ++ make prefix u ∷ []) declares.3 in
    let row_is : binding_of new_d row ≡ b = ap (λ p. make p (uri_at_index new_d row.uri)) row_prefix ∙ ap (make prefix) (uri_there new_d row.uri uri row_uri) in
    let low : All (λ (y : XmlDeclaration). y.uri < vec_len old_d.uris) has.more_declarations =
    all_right (λ (y : XmlDeclaration). y.uri < vec_len old_d.uris) r.tables.document.declarations.items has.more_declarations (subst (All (λ (y : XmlDeclaration). y.uri < vec_len old_d.uris)) has.declarations old.tables.sound.declarations) in
    let same_bound : map (binding_of new_d) has.more_declarations ≡ bindings written =
    map_same (λ (y : XmlDeclaration). y.uri < vec_len old_d.uris) (binding_of new_d) (binding_of old_d) has.more_declarations (binding_grows old_d new_d grow) low ∙ has.are_bound in
    let others : (c : Binding) (k : ℕ) → slice_get (bindings written) k ≡ Some c → c.prefix ≢ prefix = λ c k h e.
    let recent : IsRecent old.scopes first c.prefix = got_all (λ x. IsRecent old.scopes first x.prefix) (bindings written) k c has.recent h in
    let below : recent.0 < first = fresh recent.0 (ap (λ q. innermost (around old.scopes q)) (sym e) ∙ recent.1) in
    let not_below : first ≤ recent.0 = recent.2 in
    absurd (omega arith) in
    let means : binding_at new_d index ≡ Some b =
    ap (λ l. option_map (binding_of new_d) (slice_get l index)) declarations ∙ ap (λ k. option_map (binding_of new_d) (slice_get (old_d.declarations.items ++ row ∷ []) k)) (at ∙ old_d.declarations.ok.0)
    ∙ ap (option_map (binding_of new_d)) (got_last old_d.declarations.items row) ∙ ap (λ x. Some x) row_is in
    let kept : (q : Text) → Denotes (binding_at new_d) q (bindings written ++ outer) (around old.scopes q) = λ q. denotes_grow (binding_kept old_d new_d grow old.tables.sound) (has.denotes q) in
    let first_low : first ≤ index = omega (arith, has.starts, at, old_d.declarations.ok.0, r.tables.document.declarations.ok.0, ap (length {A = XmlDeclaration}) has.declarations, length-append r.tables.document.declarations.items has.more_declarations) in
    let here : IsRecent new.scopes first prefix =
    (index, ap innermost (entered prefix ∙ cond-true (bytes_eq prefix prefix) (around old.scopes prefix ++ index ∷ []) (around old.scopes prefix) (equal_bytes prefix prefix refl)) ∙ innermost_last (around old.scopes prefix) index, first_low) in
    record {
      starts = has.starts;
      len = len ∙ has.len;
      opened = opened ∙ has.opened;
      elements = ap (λ (d : XmlDocument). d.elements) rest ∙ has.elements;
      texts = ap (λ (d : XmlDocument). d.texts) rest ∙ has.texts;
      more_uris = has.more_uris ++ more;
      uris = uris ∙ ap (λ l. l ++ more) has.uris ∙ append_assoc r.tables.document.uris.items has.more_uris more;
      more_attributes = has.more_attributes;
      attributes = ap (λ (d : XmlDocument). d.attributes.items) rest ∙ has.attributes;
      are_unnamed = has.are_unnamed ∙ sym (append-nil (unnamed written)) ∙ ap (λ o. unnamed written ++ unnamed_before a o []) (sym declares.1) ∙ sym (unnamed_push written a);
      more_declarations = has.more_declarations ++ row ∷ [];
      declarations = declarations ∙ ap (λ l. l ++ row ∷ []) has.declarations ∙ append_assoc r.tables.document.declarations.items has.more_declarations (row ∷ []);
      are_bound = map-append (binding_of new_d) has.more_declarations (row ∷ []) ∙ ap (λ l. l ++ binding_of new_d row ∷ []) same_bound ∙ ap (λ x. bindings written ++ x ∷ []) row_is ∙ sym bound;
      knows = knows;
      denotes = λ q. subst (λ (l : List Binding). Denotes (binding_at new_d) q (l ++ outer) (around new.scopes q)) (sym bound)
          (⊎_elim
          (λ hit. subst (Denotes (binding_at new_d) q (bindings written ++ b ∷ [] ++ outer)) (sym (entered q ∙ cond-true (bytes_eq prefix q) (around old.scopes q ++ index ∷ []) (around old.scopes q) hit))
          (enters_same outer (bindings written) b index (λ k c h. other_bytes c.prefix q (λ e. others c k h (e ∙ sym (same_bytes prefix q hit)))) hit means (kept q)))
          (λ miss. subst (Denotes (binding_at new_d) q (bindings written ++ b ∷ [] ++ outer)) (sym (entered q ∙ cond-false (bytes_eq prefix q) (around old.scopes q ++ index ∷ []) (around old.scopes q) miss))
          (enters_other outer (bindings written) b miss (kept q)))
          (cases_Bool (bytes_eq prefix q)));
      may_bind = subst (All MayBind) (sym bound) (All-push MayBind (bindings written) b has.may_bind may);
      distinct = subst AreDistinct (sym bound) (all_pairs_push (λ x y. x.prefix ≢ y.prefix) (bindings written) b has.distinct
          (λ k d h. others (get_or (bindings written) k d) k (slice_get-get_or (bindings written) k d h)));
      recent = subst (All (λ x. IsRecent new.scopes first x.prefix)) (sym bound) (All-push (λ x. IsRecent new.scopes first x.prefix) (bindings written) b
          (λ k d h.
          let c : Binding = get_or (bindings written) k d in
          let was : IsRecent old.scopes first c.prefix = has.recent k d h in
          let apart : bytes_eq prefix c.prefix ≡ false = other_bytes prefix c.prefix (λ e. others c k (slice_get-get_or (bindings written) k d h) (sym e)) in
          (was.0, ap innermost (entered c.prefix ∙ cond-false (bytes_eq prefix c.prefix) (around old.scopes c.prefix ++ index ∷ []) (around old.scopes c.prefix) apart) ∙ was.1, was.2))
          here);
      only = λ q recent. subst (λ (l : List Binding). IsBoundIn l q) (sym bound) (⊎_elim
          (λ hit. (length (bindings written), b, got_last (bindings written) b, same_bytes prefix q hit))
          (λ miss.
          let was = has.only q (recent.0, ap innermost (sym (entered q ∙ cond-false (bytes_eq prefix q) (around old.scopes q ++ index ∷ []) (around old.scopes q) miss)) ∙ recent.1, recent.2) in
          (was.0, was.1, got_left (bindings written) (b ∷ []) was.0 was.1 was.2, was.3))
          (cases_Bool (bytes_eq prefix q)));
    }
