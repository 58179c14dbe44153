-- What readers have open.
use Rattle.std.proofs.Common.{◌≡◌, ℕ, ◌-◌, ◌<◌, ◌≤◌, Bool, true, false, List, [], ◌∷◌, ◌++◌, length, set, take, refl, sym, ap, ◌∙◌, subst, arith, ⊎_elim, Some, None}
use Rattle.std.specs.Prelude.{◌≢◌, ◌==◌, Result, Ok, Err, IfOk, All, IfSome, String, slice_get, map, string_bytes, string_len, vec_len, encode_utf8_all, if◌then◌else◌}
use Rattle.std.specs.Str.{chars, IsUtf8}
use Rattle.std.proofs.lemmas.Bool.Decides.{nat_tests}
use Rattle.std.proofs.lemmas.Option.{none-some}
use Rattle.std.proofs.lemmas.List.{append-nil, nil_from_length}
use Rattle.std.proofs.lemmas.List.Elements.{All-append}
use Rattle.std.proofs.lemmas.Str.{encodes-chars, chars-nil, IsUtf8-string_bytes}
use Rattle.rn_text.specs.Texts.{Text}
use Rattle.rn_xml.specs.Infoset.{Name, Binding, Attribute, Node, element, Nodes, no_nodes, more_nodes}
use Rattle.rn_text.specs.Characters.{is_ncname}
use Rattle.std.specs.declared.alloc.Global.{Global}
use Rattle.rn_xml.specs.PrefixScopes.{innermost, around, count_of, IsLeft}
use Rattle.rn_xml.specs.TableRows.{rows_of}
use Rattle.rn_xml.specs.XmlCharacters.{lines_of, MaySpace, IsCharacters}
use Rattle.rn_xml.specs.XmlTags.{WrittenAttribute, Scope, MayBind, IsTagFront, IsQName, IsEndTag, bindings, uri_in}
use Rattle.rn_xml.specs.XmlDocuments.{with_characters}
use Rattle.rn_xml.specs.DocumentTrees.{binding_of, attribute_of, name_of, uri_at_index}
use Rattle.rn_xml.specs.declared.characters.QName.{QName}
use Rattle.rn_xml.specs.declared.document.XmlElement.{XmlElement}
use Rattle.rn_xml.specs.declared.document.XmlAttribute.{XmlAttribute}
use Rattle.rn_xml.specs.declared.document.XmlDeclaration.{XmlDeclaration}
use Rattle.rn_xml.specs.declared.document.XmlText.{XmlText}
use Rattle.rn_xml.specs.declared.document.XmlDocument.{XmlDocument}
use Rattle.rn_xml.specs.declared.tags.TagReader.{TagReader}
use Rattle.rn_xml.specs.inside.KnownTexts.{KnowsUris}
use Rattle.rn_xml.specs.inside.OpenElements.{OpenElement, Closes, Needs, NeedsElement, TakesElement, finished, with_children, scope_of, rows_opened, parent_of}
use Rattle.rn_xml.specs.inside.OpenTables.{node_of, binding_at, Denotes, ArePlacedBefore, HoldsOpen}
use Rattle.rn_xml.specs.inside.Pieces.{SplitsName}
use Rattle.rn_xml.specs.inside.ReadDocuments.{AreOpen, IsClosed, IsReading, IsRootRead, IsAtTag, OpensTag, place_of}
use Rattle.rn_xml.specs.inside.Rests.{source}
use Rattle.rn_xml.specs.inside.TagTables.{HasAttributes, HasTag, uri_index}
use Rattle.rn_xml.specs.inside.WrittenAttributes.{AreSpacedAttributes}
use Rattle.rn_xml.proofs.Openings.OpenChildren.{IsEnded, close_holds, text_holds, same_holds, with_text}
use Rattle.rn_xml.specs.inside.Fronts.{IsBare}
use Rattle.rn_xml.proofs.Openings.OpenNeeds.{text_needs, tag_needs, empty_tag_needs}
use Rattle.rn_xml.proofs.Openings.OpenRows.{NamesGrow, open_holds}
use Rattle.rn_xml.proofs.Openings.OpenSteps.{closed_reads, tag_reads, empty_tag_closes, text_takes_element, text_takes_end}
use Rattle.rn_xml.proofs.RowReads.{got_cases, if_some, from_some, set_keeps, rows_behind}
use Rattle.rn_xml.proofs.ScopeMeans.{leaves, prefix_means, innermost_last}
use Rattle.rn_xml.proofs.TagSteps.{knows_same, all_right}

-- a reader of nothing has nothing open
pub fresh_open : (r : TagReader) → r.tables.document.elements.items ≡ [] → r.tables.document.texts.items ≡ [] → r.opened.items ≡ [] → ((q : Text) → around r.scopes q ≡ []) → KnowsUris r.tables
    → (place : ℕ) → AreOpen r [] place
fresh_open r elements texts opened scopes knows place = record {
  holds = (ap (length {A = XmlElement}) elements, ap (length {A = XmlText}) texts);
  rows = opened;
  denotes = λ q. subst (Denotes (binding_at r.tables.document) q []) (sym (scopes q)) Denotes.nothing;
  may_bind = λ k d h. absurd (omega arith);
  placed = record {
    elements = λ k row h. absurd (none-some row (ap (λ l. slice_get l k) (sym elements) ∙ h));
    texts = λ k row h. absurd (none-some row (ap (λ l. slice_get l k) (sym texts) ∙ h));
  };
  knows = knows;
}

-- what is placed before a place is before a later one
pub placed_later : (d : XmlDocument) (p q : ℕ) → p ≤ q → ArePlacedBefore d p → ArePlacedBefore d q
placed_later d p q low placed = record {
  elements = λ k row h. let here : row.at < p = placed.elements k row h in omega arith;
  texts = λ k row h. let here : row.at < p = placed.texts k row h in omega arith;
}

same_names : (d new : XmlDocument) → new.uris ≡ d.uris → new.attributes ≡ d.attributes → new.declarations ≡ d.declarations → NamesGrow d new
same_names d new uris attributes declarations = record {
  more_uris = [];
  uris = ap (λ v. v.items) uris ∙ sym (append-nil d.uris.items);
  more_attributes = [];
  attributes = ap (λ v. v.items) attributes ∙ sym (append-nil d.attributes.items);
  more_declarations = [];
  declarations = ap (λ v. v.items) declarations ∙ sym (append-nil d.declarations.items);
}

-- the innermost element ends
pub closes_reader : (old new : TagReader) (e : OpenElement) (outer : List OpenElement) (place : ℕ) (open_is : AreOpen old (e ∷ outer) place)
    → new.opened.items ≡ rows_opened outer → new.tables.uris ≡ old.tables.uris → new.tables.document ≡ record old.tables.document { elements = new.tables.document.elements }
    → new.tables.document.elements.items ≡ set old.tables.document.elements.items e.index (record (open_is.holds.0.row) { end = length old.tables.document.elements.items })
    → IsLeft old.scopes new.scopes (rows_of open_is.holds.0.row.declarations old.tables.document.declarations.items) → IsClosed new outer (finished e no_nodes) place
closes_reader old new e outer place open_is rows indices rest elements left =
    let d : XmlDocument = old.tables.document in
    let n : XmlDocument = new.tables.document in
    let row : XmlElement = open_is.holds.0.row in
    let ends : XmlElement = record row { end = length d.elements.items } in
    let ended : IsEnded d n e.index = record {
      row = row;
      there = open_is.holds.0.there;
      elements = elements;
      texts = ap (λ (x : XmlDocument). x.texts.items) rest;
      names = same_names d n (ap (λ (x : XmlDocument). x.uris) rest) (ap (λ (x : XmlDocument). x.attributes) rest) (ap (λ (x : XmlDocument). x.declarations) rest);
    } in
    let bound : map (binding_of d) (rows_of row.declarations d.declarations.items) ≡ e.bound =
    let is : node_of d row no_nodes ≡ element e.name e.bound e.attributes no_nodes = open_is.holds.0.is no_nodes in cc in
    record {
      holds = close_holds d n place e outer ended old.tables.sound open_is.placed open_is.holds;
      rows = rows;
      denotes = λ q. subst (Denotes (binding_at n) q (scope_of outer)) (sym (left q))
          (subst (λ (x : XmlDocument). Denotes (binding_at x) q (scope_of outer) (take (length (around old.scopes q) - count_of q (rows_of row.declarations d.declarations.items)) (around old.scopes q))) (sym rest)
          (leaves d (rows_of row.declarations d.declarations.items)
          (subst (λ b. Denotes (binding_at d) q (b ++ scope_of outer) (around old.scopes q)) (sym bound) (open_is.denotes q))));
      may_bind = all_right MayBind e.bound (scope_of outer) open_is.may_bind;
      placed = record {
        elements = λ k x h. from_some (λ (r : XmlElement). r.at < place) (slice_get n.elements.items k) x h
            (subst (λ l. IfSome (slice_get l k) (λ (r : XmlElement). r.at < place)) (sym elements)
            (set_keeps (λ (r : XmlElement). r.at < place) d.elements.items e.index k row ends open_is.holds.0.there (λ p. p) (if_some (λ (r : XmlElement). r.at < place) (slice_get d.elements.items k) (open_is.placed.elements k))));
        texts = λ k x h. open_is.placed.texts k x (ap (λ (y : XmlDocument). slice_get y.texts.items k) (sym rest) ∙ h);
      };
      knows = knows_same old.tables new.tables (ap (λ (x : XmlDocument). x.uris) rest) indices open_is.knows;
    }

-- behind an element that has ended the reader reads on
pub closed_reading : (cs : List ℕ) (r : TagReader) (outer : List OpenElement) (x : Node) (rest : Text) (place : ℕ) → place ≤ place_of r rest → Closes cs outer x (source rest) → Needs cs outer (source rest) → IsClosed r outer x place → IsReading cs r rest
closed_reading cs r [] x rest place low closes needs closed = IsReading.done closed.rows (x, closes, closed.holds) needs
closed_reading cs r (g ∷ gs) x rest place low closes needs closed = IsReading.within (with_children g (more_nodes x no_nodes)) gs (closed_reads cs g gs x (source rest) closes) needs (record {
  holds = closed.holds;
  rows = closed.rows;
  denotes = closed.denotes;
  may_bind = closed.may_bind;
  placed = placed_later r.tables.document place (place_of r rest) low closed.placed;
  knows = closed.knows;
})

-- a text is added
pub adds_text : (old new : TagReader) (e : OpenElement) (outer : List OpenElement) (place next : ℕ) (row : XmlText) → AreOpen old (e ∷ outer) place
    → new.tables.document ≡ record old.tables.document { texts = new.tables.document.texts } → new.tables.uris ≡ old.tables.uris → new.scopes ≡ old.scopes → new.opened ≡ old.opened
    → new.tables.document.texts.items ≡ old.tables.document.texts.items ++ row ∷ [] → row.parent ≡ e.index → place ≤ row.at → row.at < next → 0 < length (string_bytes row.content)
    → AreOpen new (with_children e (with_characters (chars (string_bytes row.content)) no_nodes) ∷ outer) next
adds_text old new e outer place next row open_is rest indices scopes opened texts parent low below some =
    let d : XmlDocument = old.tables.document in
    let n : XmlDocument = new.tables.document in
    let content : Text = string_bytes row.content in
    let spelled : encode_utf8_all (chars content) ≡ content = encodes-chars content (IsUtf8-string_bytes row.content) in
    let some_chars : chars content ≢ [] = λ none. let empty : length content ≡ 0 = ap (length {A = ℕ}) (sym spelled ∙ ap encode_utf8_all none) in absurd (omega arith) in
    let names : NamesGrow d n = same_names d n (ap (λ (x : XmlDocument). x.uris) rest) (ap (λ (x : XmlDocument). x.attributes) rest) (ap (λ (x : XmlDocument). x.declarations) rest) in
    record {
      holds = subst (λ k. HoldsOpen n (with_children e k ∷ outer) (length n.elements.items) (length n.texts.items)) (with_text (chars content) content (sym spelled) some_chars)
          (text_holds d n place e outer row names (ap (λ (x : XmlDocument). x.elements.items) rest) texts low old.tables.sound open_is.placed parent open_is.holds);
      rows = ap (λ v. v.items) opened ∙ open_is.rows;
      denotes = λ q. subst (λ s. Denotes (binding_at n) q (e.bound ++ scope_of outer) (around s q)) (sym scopes)
          (subst (λ (x : XmlDocument). Denotes (binding_at x) q (e.bound ++ scope_of outer) (around old.scopes q)) (sym rest) (open_is.denotes q));
      may_bind = open_is.may_bind;
      placed = record {
        elements = λ k x h. let here : x.at < place = open_is.placed.elements k x (ap (λ (y : XmlDocument). slice_get y.elements.items k) (sym rest) ∙ h) in omega arith;
        texts = λ k x h. ⊎_elim
            (λ before. let here : x.at < place = open_is.placed.texts k x before in omega arith)
            (λ last. subst (λ (y : XmlText). y.at < next) last.1 below)
            (got_cases d.texts.items row k x (ap (λ l. slice_get l k) (sym texts) ∙ h));
      };
      knows = knows_same old.tables new.tables (ap (λ (x : XmlDocument). x.uris) rest) indices open_is.knows;
    }

-- the same of a text that is known
pub adds_content : (old new : TagReader) (e : OpenElement) (outer : List OpenElement) (place next : ℕ) (row : XmlText) (content : String Global) → row.content ≡ content → AreOpen old (e ∷ outer) place
    → new.tables.document ≡ record old.tables.document { texts = new.tables.document.texts } → new.tables.uris ≡ old.tables.uris → new.scopes ≡ old.scopes → new.opened ≡ old.opened
    → new.tables.document.texts.items ≡ old.tables.document.texts.items ++ row ∷ [] → row.parent ≡ e.index → place ≤ row.at → row.at < next → 0 < string_len content
    → AreOpen new (with_children e (with_characters (chars (string_bytes content)) no_nodes) ∷ outer) next
adds_content old new e outer place next row content is open_is rest indices scopes opened texts parent low below some =
    let filled : 0 < string_len row.content = subst (λ s. 0 < string_len s) (sym is) some in
    subst (λ s. AreOpen new (with_children e (with_characters (chars (string_bytes s)) no_nodes) ∷ outer) next) is
    (adds_text old new e outer place next row open_is rest indices scopes opened texts parent low below (omega (arith, row.content.bytes.ok.0)))

empty_name : is_ncname [] ≡ true → ⊥
empty_name e = let never : false ≡ true = e in cc

-- a name is written in one way
qname_same : {a b p l : List ℕ} → IsQName a p l → IsQName b p l → a ≡ b
qname_same (IsQName.unprefixed x) (IsQName.unprefixed y) = refl
qname_same (IsQName.unprefixed x) (IsQName.prefixed y z) = absurd (empty_name y)
qname_same (IsQName.prefixed x y) (IsQName.unprefixed z) = absurd (empty_name x)
qname_same (IsQName.prefixed x y) (IsQName.prefixed z w) = refl

-- the innermost element has a row
pub innermost_there : (r : TagReader) (e : OpenElement) (outer : List OpenElement) (place : ℕ) → AreOpen r (e ∷ outer) place → ((i : ℕ) → innermost r.opened.items ≡ Some i → slice_get r.tables.document.elements.items i ≡ None) → ⊥
innermost_there r e outer place open_is none =
    none-some open_is.holds.0.row (sym (none e.index (ap innermost open_is.rows ∙ innermost_last (rows_opened outer) e.index)) ∙ open_is.holds.0.there)

-- and that has its name
pub innermost_named : (r : TagReader) (e : OpenElement) (outer : List OpenElement) (place : ℕ) (row : XmlElement) → AreOpen r (e ∷ outer) place
    → (i : ℕ) × (innermost r.opened.items ≡ Some i) × (slice_get r.tables.document.elements.items i ≡ Some row) → (row.name.prefix.now ≡ e.name.prefix) × (row.name.local.now ≡ e.name.local)
innermost_named r e outer place row open_is found =
    let index : found.0 ≡ e.index = let h : Some found.0 ≡ Some e.index = sym found.1 ∙ ap innermost open_is.rows ∙ innermost_last (rows_opened outer) e.index in cc in
    let mine : XmlElement = open_is.holds.0.row in
    let is_mine : row ≡ mine = let h : Some row ≡ Some mine = sym found.2 ∙ ap (λ i. slice_get r.tables.document.elements.items i) index ∙ open_is.holds.0.there in cc in
    let names : name_of r.tables.document mine.name ≡ e.name =
    let h : node_of r.tables.document mine no_nodes ≡ element e.name e.bound e.attributes no_nodes = open_is.holds.0.is no_nodes in cc in
    (ap (λ (x : XmlElement). x.name.prefix.now) is_mine ∙ ap (λ (x : Name). x.prefix) names, ap (λ (x : XmlElement). x.name.local.now) is_mine ∙ ap (λ (x : Name). x.local) names)

-- an end tag with the name of the innermost element
pub ends_tag : (r : TagReader) (e : OpenElement) (outer : List OpenElement) (place : ℕ) (row : XmlElement) (name : QName) (tag inside rest fin after : Text) → AreOpen r (e ∷ outer) place
    → (i : ℕ) × (innermost r.opened.items ≡ Some i) × (slice_get r.tables.document.elements.items i ≡ Some row) → SplitsName (source inside) name (source rest)
    → row.name.prefix.now ≡ name.prefix.now → row.name.local.now ≡ name.local.now → chars tag ≡ 60 ∷ 47 ∷ chars inside → MaySpace (source rest) (source fin) → chars fin ≡ 62 ∷ chars after
    → IsEndTag e.qname (source tag) (source after)
ends_tag r e outer place row name tag inside rest fin after open_is found splits same_prefix same_local front space close =
    let mine = innermost_named r e outer place row open_is found in
    let prefix : name.prefix.now ≡ e.name.prefix = sym same_prefix ∙ mine.0 in
    let local : name.local.now ≡ e.name.local = sym same_local ∙ mine.1 in
    let written : IsQName splits.written (chars e.name.prefix) (chars e.name.local) =
    subst (λ p. IsQName splits.written (chars p) (chars e.name.local)) prefix (subst (λ l. IsQName splits.written (chars name.prefix.now) (chars l)) local splits.is_name) in
    let qname : splits.written ≡ e.qname = qname_same written open_is.holds.0.named.0 in
    let is_tag : source tag ≡ 60 ∷ 47 ∷ (e.qname ++ source rest) = ap lines_of front ∙ ap (λ l. 60 ∷ 47 ∷ l) (splits.splits ∙ ap (λ q. q ++ source rest) qname) in
    subst (λ l. IsEndTag e.qname l (source after)) (sym is_tag) (IsEndTag.closes (subst (MaySpace (source rest)) (ap lines_of close) space))

-- a start tag is read: its name, its attributes and its end, and its element has a row
pub opens_tag : (old r1 r2 new : TagReader) (name : QName) (opened : List OpenElement) (tag inside rest fin after : Text) (is_empty : Bool) (first uri index : ℕ) (row : XmlElement) (written : List WrittenAttribute)
    → AreOpen old opened (place_of old tag) → length after < length tag → length tag ≤ old.len → chars tag ≡ 60 ∷ chars inside → SplitsName (source inside) name (source rest) → IsUtf8 name.prefix.now → IsUtf8 name.local.now
    → AreSpacedAttributes (source rest) written (source fin) → source fin ≡ (if is_empty then 47 ∷ 62 ∷ source after else 62 ∷ source after)
    → HasAttributes old r1 (scope_of opened) first written → uri_index r1 name.prefix.now ≡ Some uri → r2.tables.document ≡ record r1.tables.document { attributes = r2.tables.document.attributes }
    → HasTag old r2 (scope_of opened) written → new.len ≡ r2.len → new.scopes ≡ r2.scopes → new.opened.items ≡ r2.opened.items ++ index ∷ []
    → new.tables.document ≡ record r2.tables.document { elements = new.tables.document.elements } → new.tables.uris ≡ r2.tables.uris → index ≡ vec_len r2.tables.document.elements
    → new.tables.document.elements.items ≡ r2.tables.document.elements.items ++ row ∷ [] → row.name.uri ≡ uri → row.name.prefix.now ≡ name.prefix.now → row.name.local.now ≡ name.local.now
    → row.at ≡ place_of old tag → row.parent ≡ parent_of opened
    → row.attributes.from ≡ vec_len old.tables.document.attributes → row.attributes.to ≡ vec_len r2.tables.document.attributes
    → row.declarations.from ≡ vec_len old.tables.document.declarations → row.declarations.to ≡ vec_len r2.tables.document.declarations
    → OpensTag old new opened tag after is_empty
opens_tag old r1 r2 new name opened tag inside rest fin after is_empty first uri index row written open_is shorter room front splits prefix_utf8 local_utf8 spaced end_is has found kept tagged len scopes opened_is document indices at elements row_uri row_prefix row_local row_at row_parent attributes_from attributes_to declarations_from declarations_to =
    let d : XmlDocument = old.tables.document in
    let m : XmlDocument = r2.tables.document in
    let n : XmlDocument = new.tables.document in
    let outer : Scope = scope_of opened in
    let bound : List Binding = bindings written in
    let named : List Attribute = map (attribute_of m) tagged.more_attributes in
    let e : OpenElement = record { qname = splits.written; name = name_of n row.name; bound = bound; attributes = named; children = no_nodes; index = index; texts = length d.texts.items } in
    let may : All MayBind (bound ++ outer) = All-append MayBind bound outer tagged.may_bind open_is.may_bind in
    let same_prefix : row.name.prefix.now ≡ encode_utf8_all (chars name.prefix.now) = row_prefix ∙ sym (encodes-chars name.prefix.now prefix_utf8) in
    let same_local : row.name.local.now ≡ encode_utf8_all (chars name.local.now) = row_local ∙ sym (encodes-chars name.local.now local_utf8) in
    let uri_is : uri_at_index r1.tables.document uri ≡ uri_at_index n row.name.uri =
    ap (uri_at_index r1.tables.document) (sym row_uri) ∙ subst (λ (x : XmlDocument). uri_at_index r1.tables.document row.name.uri ≡ uri_at_index x row.name.uri) (sym document)
    (subst (λ (x : XmlDocument). uri_at_index r1.tables.document row.name.uri ≡ uri_at_index x row.name.uri) (sym kept) refl) in
    let has_uri : uri_in (bound ++ outer) (encode_utf8_all (chars name.prefix.now)) ≡ Some (uri_at_index n row.name.uri) =
    ap (uri_in (bound ++ outer)) (encodes-chars name.prefix.now prefix_utf8)
    ∙ prefix_means r1.tables.document r1.scopes name.prefix.now (bound ++ outer) uri may has.knows.none has.knows.xml (has.denotes name.prefix.now) found ∙ ap (λ u. Some u) uri_is in
    let tag_front : IsTagFront outer (source tag) e.qname e.name e.bound e.attributes (if is_empty then 47 ∷ 62 ∷ source after else 62 ∷ source after) = record {
      prefix = chars name.prefix.now;
      local = chars name.local.now;
      behind_name = source rest;
      behind_attributes = spaced.0;
      written = written;
      opens = ap lines_of front ∙ ap (λ l. 60 ∷ l) splits.splits;
      is_name = splits.is_name;
      are_attributes = spaced.1;
      space = subst (MaySpace spaced.0) end_is spaced.2;
      declares = refl;
      may_bind = tagged.may_bind;
      distinct = tagged.distinct;
      has_prefix = same_prefix;
      has_local = same_local;
      has_uri = has_uri;
      are_named = tagged.are_named open_is.may_bind;
      unique = tagged.unique;
    } in
    let names : NamesGrow d n = record {
      more_uris = tagged.more_uris;
      uris = ap (λ (x : XmlDocument). x.uris.items) document ∙ tagged.uris;
      more_attributes = tagged.more_attributes;
      attributes = ap (λ (x : XmlDocument). x.attributes.items) document ∙ tagged.attributes;
      more_declarations = tagged.more_declarations;
      declarations = ap (λ (x : XmlDocument). x.declarations.items) document ∙ tagged.declarations;
    } in
    let elements_are : n.elements.items ≡ d.elements.items ++ row ∷ [] = elements ∙ ap (λ v. v.items ++ row ∷ []) tagged.elements in
    let texts_are : n.texts.items ≡ d.texts.items = ap (λ (x : XmlDocument). x.texts.items) document ∙ ap (λ v. v.items) tagged.texts in
    let declarations_are : rows_of row.declarations n.declarations.items ≡ tagged.more_declarations =
    ap (rows_of row.declarations) names.declarations ∙ rows_behind row.declarations d.declarations.items tagged.more_declarations (declarations_from ∙ d.declarations.ok.0)
    (declarations_to ∙ m.declarations.ok.0 ∙ ap (length {A = XmlDeclaration}) tagged.declarations) in
    let attributes_are : rows_of row.attributes n.attributes.items ≡ tagged.more_attributes =
    ap (rows_of row.attributes) names.attributes ∙ rows_behind row.attributes d.attributes.items tagged.more_attributes (attributes_from ∙ d.attributes.ok.0)
    (attributes_to ∙ m.attributes.ok.0 ∙ ap (length {A = XmlAttribute}) tagged.attributes) in
    let bound_is : map (binding_of n) (rows_of row.declarations n.declarations.items) ≡ bound =
    ap (map (binding_of n)) declarations_are ∙ subst (λ (x : XmlDocument). map (binding_of x) tagged.more_declarations ≡ bound) (sym document) tagged.are_bound in
    let named_is : map (attribute_of n) (rows_of row.attributes n.attributes.items) ≡ named =
    ap (map (attribute_of n)) attributes_are ∙ subst (λ (x : XmlDocument). map (attribute_of x) tagged.more_attributes ≡ named) (sym document) refl in
    let make : Nodes → List Binding → List Attribute → Node = λ k b a. element (name_of n row.name) b a k in
    let is : (k : Nodes) → node_of n row k ≡ element e.name e.bound e.attributes k = λ k.
    ap (λ b. make k b (map (attribute_of n) (rows_of row.attributes n.attributes.items))) bound_is ∙ ap (make k bound) named_is in
    let index_is : index ≡ length d.elements.items = at ∙ m.elements.ok.0 ∙ ap (λ v. length {A = XmlElement} v.items) tagged.elements in
    let is_named : IsQName e.qname (chars e.name.prefix) (chars e.name.local) =
    subst (λ p. IsQName splits.written (chars p) (chars row.name.local.now)) (sym row_prefix) (subst (λ l. IsQName splits.written (chars name.prefix.now) (chars l)) (sym row_local) splits.is_name) in
    let length_same : new.len ≡ old.len = len ∙ tagged.len in
    let low : place_of old tag < place_of new after = omega arith in
    record {
      e = e;
      none = refl;
      front = tag_front;
      opens = record {
        holds = open_holds d n (place_of old tag) e opened row names elements_are texts_are (omega arith) old.tables.sound open_is.placed row_parent is refl (is_named, subst IsUtf8 (sym row_prefix) prefix_utf8, subst IsUtf8 (sym row_local) local_utf8) index_is refl open_is.holds;
        rows = opened_is ∙ ap (λ v. v.items ++ index ∷ []) tagged.opened ∙ ap (λ l. l ++ index ∷ []) open_is.rows;
        denotes = λ q. subst (λ s. Denotes (binding_at n) q (bound ++ outer) (around s q)) (sym scopes)
            (subst (λ (x : XmlDocument). Denotes (binding_at x) q (bound ++ outer) (around r2.scopes q)) (sym document) (tagged.denotes q));
        may_bind = may;
        placed = record {
          elements = λ k x h. ⊎_elim
              (λ before. let here : x.at < place_of old tag = open_is.placed.elements k x before in omega arith)
              (λ last. subst (λ (y : XmlElement). y.at < place_of new after) last.1 (let here : row.at ≡ place_of old tag = row_at in omega arith))
              (got_cases d.elements.items row k x (ap (λ l. slice_get l k) (sym elements_are) ∙ h));
          texts = λ k x h. let here : x.at < place_of old tag = open_is.placed.texts k x (ap (λ l. slice_get l k) (sym texts_are) ∙ h) in omega arith;
        };
        knows = knows_same r2.tables new.tables (ap (λ (x : XmlDocument). x.uris) document) indices tagged.knows;
      };
    }

-- behind a start tag the reader reads on in its element
pub tag_reading : (cs : List ℕ) (old new : TagReader) (opened : List OpenElement) (tag after : Text) → OpensTag old new opened tag after false → TakesElement cs opened (source tag) → NeedsElement cs opened (source tag) → IsReading cs new after
tag_reading cs old new opened tag after opens takes needs =
    IsReading.within opens.e opened (tag_reads cs opens.e opened (source tag) (source after) takes opens.none opens.front) (tag_needs cs opens.e opened (source tag) (source after) needs opens.front) opens.opens

-- behind a tag without content it reads on around it
pub empty_tag_reading : (cs : List ℕ) (old mid new : TagReader) (opened : List OpenElement) (tag after : Text) → OpensTag old mid opened tag after true → TakesElement cs opened (source tag) → NeedsElement cs opened (source tag) → new.len ≡ mid.len
    → ((e : OpenElement) (outer : List OpenElement) (place : ℕ) → AreOpen mid (e ∷ outer) place → IsClosed new outer (finished e no_nodes) place) → IsReading cs new after
empty_tag_reading cs old mid new opened tag after opens takes needs len closes =
    let low : place_of mid after ≤ place_of new after = omega arith in
    closed_reading cs new opened (finished opens.e no_nodes) after (place_of mid after) low
    (empty_tag_closes cs opens.e opened (source tag) (source after) takes opens.none opens.front) (empty_tag_needs cs opens.e opened (source tag) (source after) needs opens.front) (closes opens.e opened (place_of mid after) opens.opens)

no_innermost : (ns : List ℕ) (n : ℕ) → ns ≡ [] → innermost ns ≡ Some n → ⊥
no_innermost ns n none h = none-some n (ap innermost (sym none) ∙ h)

-- no characters come before the tag
pub silent_at_tag : (cs : List ℕ) (r : TagReader) (parent : ℕ) (text tag : Text) (content : List ℕ) → content ≡ [] → IsCharacters (source text) content (source tag) → IsBare (source tag) → length tag ≤ length text
    → innermost r.opened.items ≡ Some parent → IsReading cs r text → IsAtTag cs r parent tag
silent_at_tag cs r parent text tag content silent is bare shorter last (IsReading.within e outer reads needs open_is) =
    let same : Some parent ≡ Some e.index = sym last ∙ ap innermost open_is.rows ∙ innermost_last (rows_opened outer) e.index in
    let none : IsCharacters (source text) [] (source tag) = subst (λ l. IsCharacters (source text) l (source tag)) silent is in
    record {
      e = with_children e no_nodes;
      outer = outer;
      is_parent = cc;
      opens = record {
        holds = same_holds r.tables.document e outer (length r.tables.document.elements.items) (length r.tables.document.texts.items) open_is.holds;
        rows = open_is.rows;
        denotes = open_is.denotes;
        may_bind = open_is.may_bind;
        placed = placed_later r.tables.document (place_of r text) (place_of r tag) (omega arith) open_is.placed;
        knows = open_is.knows;
      };
      takes = text_takes_element cs e outer (source text) [] (source tag) reads none;
      ends = text_takes_end cs e outer (source text) [] (source tag) reads none;
      needs = text_needs cs e outer (source text) content (source tag) needs is;
      bare = bare;
    }
silent_at_tag cs r parent text tag content silent is bare shorter last (IsReading.done rows root needs) = absurd (no_innermost r.opened.items parent rows last)

-- some do, which are added
pub text_at_tag : (cs : List ℕ) (old new : TagReader) (parent left : ℕ) (text tag : Text) (content : List ℕ) → IsCharacters (source text) content (source tag) → IsBare (source tag) → length tag < left → left ≤ length text → length text ≤ old.len
    → new.len ≡ old.len → innermost old.opened.items ≡ Some parent
    → ((e : OpenElement) (outer : List OpenElement) (place next : ℕ) → AreOpen old (e ∷ outer) place → parent ≡ e.index → place ≤ old.len - left → old.len - left < next
    → AreOpen new (with_children e (with_characters content no_nodes) ∷ outer) next) → IsReading cs old text → IsAtTag cs new parent tag
text_at_tag cs old new parent left text tag content is bare behind within room len last adds (IsReading.within e outer reads needs open_is) =
    let same : Some parent ≡ Some e.index = sym last ∙ ap innermost open_is.rows ∙ innermost_last (rows_opened outer) e.index in
    let is_parent : parent ≡ e.index = cc in
    record {
      e = with_children e (with_characters content no_nodes);
      outer = outer;
      is_parent = is_parent;
      opens = adds e outer (place_of old text) (place_of new tag) open_is is_parent (omega arith) (omega arith);
      takes = text_takes_element cs e outer (source text) content (source tag) reads is;
      ends = text_takes_end cs e outer (source text) content (source tag) reads is;
      needs = text_needs cs e outer (source text) content (source tag) needs is;
      bare = bare;
    }
text_at_tag cs old new parent left text tag content is bare behind within room len last adds (IsReading.done rows root needs) = absurd (no_innermost old.opened.items parent rows last)

-- where nothing is open any more, the root is read
pub root_read : (cs : List ℕ) (r : TagReader) (rest : Text) → innermost r.opened.items ≡ None → IsReading cs r rest → IsRootRead cs r.tables.document (source rest)
root_read cs r rest none (IsReading.within e outer reads needs open_is) =
    absurd (none-some e.index (sym none ∙ ap innermost open_is.rows ∙ innermost_last (rows_opened outer) e.index))
root_read cs r rest none (IsReading.done rows root needs) = root

-- and nothing else than that
pub root_needs : (cs : List ℕ) (r : TagReader) (rest : Text) → innermost r.opened.items ≡ None → IsReading cs r rest → Needs cs [] (source rest)
root_needs cs r rest none (IsReading.within e outer reads needs open_is) =
    absurd (none-some e.index (sym none ∙ ap innermost open_is.rows ∙ innermost_last (rows_opened outer) e.index))
root_needs cs r rest none (IsReading.done rows root needs) = needs

-- an empty text has no characters
pub no_characters : (s : String Global) → string_len s ≡ 0 → chars (string_bytes s) ≡ []
no_characters s none =
    let empty : string_bytes s ≡ [] = nil_from_length (string_bytes s) (omega (arith, s.bytes.ok.0)) in
    ap chars empty ∙ chars-nil

pub if_ok : {A E : Type 0} (r : Result A E) {P Q : A → Type 0} → IfOk r P → ((x : A) → P x → Q x) → IfOk r Q
if_ok (Ok x) p f = f x p
if_ok (Err e) p f = tt

pub is_zero : (n : ℕ) → (n == 0) ≡ true → n ≡ 0
is_zero n e = grind (arith, nat_tests)

pub is_some_more : (n : ℕ) → (n == 0) ≡ false → 0 < n
is_some_more n e = grind (arith, nat_tests)
