-- Tables of a document that get a row refer to one another.
use Rattle.std.proofs.Common.{◌≡◌, ℕ, ◌+◌, ◌<◌, ◌≤◌, Bool, List, [], ◌∷◌, ◌++◌, length, get_or, sym, ap, ◌∙◌, subst, arith, ⊎_elim, length-append}
use Rattle.std.proofs.Math.Seq.{get_or-append_seam}
use Rattle.std.proofs.lemmas.Bool.{cases_Bool, cases_lt, cond-true, cond-false}
use Rattle.std.proofs.lemmas.List.{get_or_append_left}
use Rattle.std.proofs.lemmas.List.Elements.{All-push}
use Rattle.std.specs.Prelude.{All, if◌then◌else◌, vec_len, string_len}
use Rattle.rn_xml.specs.declared.document.XmlElement.{XmlElement}
use Rattle.rn_xml.specs.declared.document.XmlAttribute.{XmlAttribute}
use Rattle.rn_xml.specs.declared.document.XmlDeclaration.{XmlDeclaration}
use Rattle.rn_xml.specs.declared.document.XmlText.{XmlText}
use Rattle.rn_xml.specs.declared.document.XmlDocument.{XmlDocument}
use Rattle.rn_xml.specs.DocumentTables.{IsElementRow, AreElementRows, AreTables}

-- a row is one in tables that are longer
row_grows : (u u' a a' n n' m m' k : ℕ) (e : XmlElement) → u ≤ u' → a ≤ a' → n ≤ n' → m ≤ m' → IsElementRow u a n m k e → IsElementRow u' a' n' m' k e
row_grows u u' a a' n n' m m' k e hu ha hn hm row = record {
  namespace = let h : e.name.uri < u = row.namespace in omega arith;
  parent = row.parent;
  root = row.root;
  has_attributes = (row.has_attributes.0, let h : e.attributes.to ≤ a = row.has_attributes.1 in omega arith);
  has_declarations = (row.has_declarations.0, let h : e.declarations.to ≤ n = row.has_declarations.1 in omega arith);
  within = row.within;
  ends = let h : e.end ≤ m = row.ends in omega arith;
}

rows_grow : (u u' a a' n n' : ℕ) (es : List XmlElement) → u ≤ u' → a ≤ a' → n ≤ n' → AreElementRows u a n es → AreElementRows u' a' n' es
rows_grow u u' a a' n n' es hu ha hn rows = λ k d h. row_grows u u' a a' n n' (length es) (length es) k (get_or es k d) hu ha hn (omega arith) (rows k d h)

attributes_grow : (u u' : ℕ) (xs : List XmlAttribute) → u ≤ u' → All (λ (x : XmlAttribute). x.name.uri < u) xs → All (λ (x : XmlAttribute). x.name.uri < u') xs
attributes_grow u u' xs more all = λ k d h. let lower : (get_or xs k d).name.uri < u = all k d h in omega arith

declarations_grow : (u u' : ℕ) (xs : List XmlDeclaration) → u ≤ u' → All (λ (x : XmlDeclaration). x.uri < u) xs → All (λ (x : XmlDeclaration). x.uri < u') xs
declarations_grow u u' xs more all = λ k d h. let lower : (get_or xs k d).uri < u = all k d h in omega arith

texts_grow : (m m' : ℕ) (xs : List XmlText) → m ≤ m' → All (λ (x : XmlText). (x.parent < m) × (0 < string_len x.content)) xs → All (λ (x : XmlText). (x.parent < m') × (0 < string_len x.content)) xs
texts_grow m m' xs more all = λ k d h. (let lower : (get_or xs k d).parent < m = (all k d h).0 in omega arith, (all k d h).1)

-- one more element
rows_push : (u a n : ℕ) (es : List XmlElement) (e : XmlElement) → AreElementRows u a n es → IsElementRow u a n (length es + 1) (length es) e → AreElementRows u a n (es ++ e ∷ [])
rows_push u a n es e rows row = λ k d h.
    let more : length (es ++ e ∷ []) ≡ length es + 1 = length-append es (e ∷ []) in
    subst (λ m. IsElementRow u a n m k (get_or (es ++ e ∷ []) k d)) (sym more)
    (⊎_elim
    (λ before. subst (λ y. IsElementRow u a n (length es + 1) k y) (sym (get_or_append_left es (e ∷ []) d k before))
    (row_grows u u a a n n (length es) (length es + 1) k (get_or es k d) (omega arith) (omega arith) (omega arith) (omega arith) (rows k d before)))
    (λ behind.
    let last : length es ≡ k = omega (arith, h, more) in
    subst (λ j. IsElementRow u a n (length es + 1) j (get_or (es ++ e ∷ []) j d)) last
    (subst (λ y. IsElementRow u a n (length es + 1) (length es) y) (sym (get_or-append_seam es e [] d)) row))
    (cases_lt k (length es)))

-- tables of which each has the rows that the old one has, and the elements are rows of them
grown : (old new : XmlDocument) → vec_len old.uris ≤ vec_len new.uris → vec_len old.elements ≤ vec_len new.elements → new.declarations.items ≡ old.declarations.items → new.texts.items ≡ old.texts.items
    → AreElementRows (vec_len new.uris) (vec_len new.attributes) (vec_len new.declarations) new.elements.items → All (λ (x : XmlAttribute). x.name.uri < vec_len new.uris) new.attributes.items
    → AreTables old → AreTables new
grown old new us es ns ts rows ats tables = record {
  reserved = let h : 2 ≤ vec_len old.uris = tables.reserved in omega arith;
  elements = rows;
  attributes = ats;
  declarations = subst (All (λ (x : XmlDeclaration). x.uri < vec_len new.uris)) (sym ns) (declarations_grow (vec_len old.uris) (vec_len new.uris) old.declarations.items us tables.declarations);
  texts = subst (All (λ (x : XmlText). (x.parent < vec_len new.elements) × (0 < string_len x.content))) (sym ts)
      (texts_grow (vec_len old.elements) (vec_len new.elements) old.texts.items es tables.texts);
}

-- one more element, or none where memory was refused
pub may_push_element : (old new : XmlDocument) (e : XmlElement) (pushed : Bool) → vec_len new.uris ≡ vec_len old.uris → new.elements.items ≡ (if pushed then old.elements.items ++ e ∷ [] else old.elements.items)
    → new.attributes.items ≡ old.attributes.items → new.declarations.items ≡ old.declarations.items → new.texts.items ≡ old.texts.items
    → IsElementRow (vec_len old.uris) (vec_len old.attributes) (vec_len old.declarations) (vec_len old.elements + 1) (vec_len old.elements) e → AreTables old → AreTables new
may_push_element old new e pushed us es ats ns ts row tables =
    let count : vec_len new.attributes ≡ vec_len old.attributes = new.attributes.ok.0 ∙ ap (length {A = XmlAttribute}) ats ∙ sym old.attributes.ok.0 in
    let declared : vec_len new.declarations ≡ vec_len old.declarations = new.declarations.ok.0 ∙ ap (length {A = XmlDeclaration}) ns ∙ sym old.declarations.ok.0 in
    let here = subst (λ m. IsElementRow (vec_len old.uris) (vec_len old.attributes) (vec_len old.declarations) (m + 1) m e) old.elements.ok.0 row in
    let attributes = subst (All (λ (x : XmlAttribute). x.name.uri < vec_len new.uris)) (sym ats) (attributes_grow (vec_len old.uris) (vec_len new.uris) old.attributes.items (omega arith) tables.attributes) in
    let grows = λ (items : List XmlElement) (rows : AreElementRows (vec_len old.uris) (vec_len old.attributes) (vec_len old.declarations) items).
    rows_grow (vec_len old.uris) (vec_len new.uris) (vec_len old.attributes) (vec_len new.attributes) (vec_len old.declarations) (vec_len new.declarations) items (omega arith) (omega arith) (omega arith) rows in
    ⊎_elim
    (λ more.
    let is : new.elements.items ≡ old.elements.items ++ e ∷ [] = es ∙ cond-true pushed (old.elements.items ++ e ∷ []) old.elements.items more in
    grown old new (omega arith) (omega (arith, new.elements.ok.0, old.elements.ok.0, ap (length {A = XmlElement}) is, length-append old.elements.items (e ∷ []))) ns ts
    (subst (AreElementRows (vec_len new.uris) (vec_len new.attributes) (vec_len new.declarations)) (sym is)
    (grows (old.elements.items ++ e ∷ []) (rows_push (vec_len old.uris) (vec_len old.attributes) (vec_len old.declarations) old.elements.items e tables.elements here)))
    attributes tables)
    (λ none.
    let is : new.elements.items ≡ old.elements.items = es ∙ cond-false pushed (old.elements.items ++ e ∷ []) old.elements.items none in
    grown old new (omega arith) (omega (arith, new.elements.ok.0, old.elements.ok.0, ap (length {A = XmlElement}) is)) ns ts
    (subst (AreElementRows (vec_len new.uris) (vec_len new.attributes) (vec_len new.declarations)) (sym is) (grows old.elements.items tables.elements))
    attributes tables)
    (cases_Bool pushed)

-- the same of an attribute
pub may_push_attribute : (old new : XmlDocument) (x : XmlAttribute) (pushed : Bool) → vec_len new.uris ≡ vec_len old.uris → new.elements.items ≡ old.elements.items
    → new.attributes.items ≡ (if pushed then old.attributes.items ++ x ∷ [] else old.attributes.items) → new.declarations.items ≡ old.declarations.items → new.texts.items ≡ old.texts.items
    → x.name.uri < vec_len old.uris → AreTables old → AreTables new
may_push_attribute old new x pushed us es ats ns ts within tables =
    let elements : vec_len new.elements ≡ vec_len old.elements = new.elements.ok.0 ∙ ap (length {A = XmlElement}) es ∙ sym old.elements.ok.0 in
    let declared : vec_len new.declarations ≡ vec_len old.declarations = new.declarations.ok.0 ∙ ap (length {A = XmlDeclaration}) ns ∙ sym old.declarations.ok.0 in
    let before : All (λ (y : XmlAttribute). y.name.uri < vec_len new.uris) old.attributes.items = attributes_grow (vec_len old.uris) (vec_len new.uris) old.attributes.items (omega arith) tables.attributes in
    let with_rows = λ (more : vec_len old.attributes ≤ vec_len new.attributes) (are : All (λ (y : XmlAttribute). y.name.uri < vec_len new.uris) new.attributes.items).
    grown old new (omega arith) (omega arith) ns ts
    (subst (AreElementRows (vec_len new.uris) (vec_len new.attributes) (vec_len new.declarations)) (sym es)
    (rows_grow (vec_len old.uris) (vec_len new.uris) (vec_len old.attributes) (vec_len new.attributes) (vec_len old.declarations) (vec_len new.declarations) old.elements.items (omega arith) more (omega arith) tables.elements))
    are tables in
    ⊎_elim
    (λ one.
    let is : new.attributes.items ≡ old.attributes.items ++ x ∷ [] = ats ∙ cond-true pushed (old.attributes.items ++ x ∷ []) old.attributes.items one in
    with_rows (omega (arith, new.attributes.ok.0, old.attributes.ok.0, ap (length {A = XmlAttribute}) is, length-append old.attributes.items (x ∷ [])))
    (subst (All (λ (y : XmlAttribute). y.name.uri < vec_len new.uris)) (sym is)
    (All-push (λ (y : XmlAttribute). y.name.uri < vec_len new.uris) old.attributes.items x before (omega arith))))
    (λ none.
    let is : new.attributes.items ≡ old.attributes.items = ats ∙ cond-false pushed (old.attributes.items ++ x ∷ []) old.attributes.items none in
    with_rows (omega (arith, new.attributes.ok.0, old.attributes.ok.0, ap (length {A = XmlAttribute}) is)) (subst (All (λ (y : XmlAttribute). y.name.uri < vec_len new.uris)) (sym is) before))
    (cases_Bool pushed)
