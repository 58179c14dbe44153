-- The root begins: all that a document holds is left.
use Rattle.std.proofs.Common.{◌≡◌, ℕ, ◌<◌, ◌≤◌, true, [], ◌∷◌, ◌++◌, length, refl, sym, ap, ◌∙◌, subst, arith, append-nil, Some}
use Rattle.std.specs.Prelude.{slice_get, codes}
use Rattle.std.proofs.lemmas.Option.{same_Some, slice_get_within}
use Rattle.rn_xml.specs.Infoset.{Node, element, Nodes}
use Rattle.rn_xml.specs.DocumentTrees.{AreChildren, HoldsRoot, name_of}
use Rattle.rn_xml.specs.declared.document.XmlElement.{XmlElement}
use Rattle.rn_xml.specs.declared.document.XmlText.{XmlText}
use Rattle.rn_xml.specs.declared.document.XmlDocument.{XmlDocument}
use Rattle.rn_translate.specs.Terms.{Namespace, inherited}
use Rattle.rn_translate.specs.SchemaElements.{holds_text, kind_of, nearest, value_of}
use Rattle.rn_translate.specs.Layouts.{Written, begins, layout}
use Rattle.rn_translate.specs.Translation.{children, default_of, outside, root_place, schema_terms, written}
use Rattle.rn_translate.specs.inside.Meanings.{AddsInScope, known, layout_meant, sign_terms, terms_meant, uri_meant}
use Rattle.rn_translate.specs.inside.UriTables.{empty_uri}
use Rattle.rn_translate.specs.inside.Walks.{IsOutside}
use Rattle.rn_translate.specs.inside.ElementsMeant.{Comes, HasInside, IsInScope, IsMeant, IsPlaced, attributes_at, declared_at}
use Rattle.rn_translate.specs.inside.OpenLevels.{AreOpen, AreSound, IsAtStart, IsLevelOf, IsWalked, OpenElement, terms_left}
use Rattle.rn_translate.specs.declared.kinds.Kind.{Kind}
use Rattle.rn_translate.specs.declared.translator.Context.{Context as CodeContext}
use Rattle.rn_translate.specs.declared.translator.Place.{Place as CodePlace}
use Rattle.rn_translate.specs.declared.translator.Level.{Level}
use Rattle.rn_translate.specs.declared.translator.Translator.{Translator}
use Rattle.rn_translate.specs.declared.uris.Uri.{Uri}
use Rattle.rn_translate.proofs.ContentTexts.{content_text}
use Rattle.rn_translate.proofs.UriMeanings.{empty_meant}
use Rattle.rn_translate.proofs.Walking.OpenSteps.{goes_on, terms_changed}
use Rattle.rn_translate.proofs.Walking.ChildSteps.{level_meant, terms_of}

-- the default namespace is the one that the root gives
pub root_default : (d : XmlDocument) (root : Node) (row : XmlElement) → HoldsRoot d root → slice_get d.elements.items 0 ≡ Some row
    → default_of root ≡ nearest inherited (value_of (codes "ns") (attributes_at d row))
root_default d root row (HoldsRoot.root {row = first} there parent end inside) here =
    ap (λ (r : XmlElement). nearest inherited (value_of (codes "ns") (attributes_at d r))) (same_Some first row (sym there ∙ here))

-- the default namespace is known, and nothing else has changed
abbrev pub with_default : Translator → Uri → Translator
with_default a default = record a { default = default }

still_in_scope : (a : Translator) (default : Uri) → IsInScope a [] → IsInScope (with_default a default) []
still_in_scope a default is = record { knows = record { table = is.knows.table; has = is.knows.has; known = is.knows.known }; declared = is.declared }

pub root_begun : (a u : Translator) (default : Uri) (level : Level) (root : Node) (row : XmlElement) (kind : Kind) (around : CodeContext) (place : CodePlace)
    → IsAtStart a → AreSound a.document.now → HoldsRoot a.document.now root → slice_get a.document.now.elements.items 0 ≡ Some row → kind_of (name_of a.document.now row.name) ≡ Some kind
    → uri_meant a.uris default ≡ Some (nearest inherited (value_of (codes "ns") (attributes_at a.document.now row)))
    → around.namespace.index ≡ 0 → around.library ≡ empty_uri → around.bare ≡ default → IsPlaced place root_place
    → ((text after : ℕ) (inside : Nodes) → holds_text kind ≡ true → AreChildren a.document.now 0 1 text inside row.«end» after → row.«end» ≤ 1)
    → ((e : Written) → Comes (with_default a default) row 0 kind around place e → AddsInScope (with_default a default) u (begins e e.kind))
    → ((e : Written) → Comes (with_default a default) row 0 kind around place e → IsMeant u row level.«open» e)
    → ((e : Written) → Comes (with_default a default) row 0 kind around place e → layout_meant level.layout ≡ layout e e.kind)
    → sign_terms level.behind ≡ [] → IsLevelOf row 0 level
    → IsWalked (with_default a default) u (level ∷ []) 1 (schema_terms root)
root_begun a u default level root row kind around place start sound holds here kind_is named namespace library bare placed alone adds means lays behind of =
    elim holds as (λ x h. IsWalked (with_default a default) u (level ∷ []) 1 (schema_terms x)) [
      | HoldsRoot.root {row = first} {inside = inside} there parent end inner ↦
          let d : XmlDocument = a.document.now in
          let s = with_default a default in
          let same : first ≡ row = same_Some first row (sym there ∙ here) in
          let ends : row.«end» ≡ length d.elements.items = ap (λ (r : XmlElement). r.«end») (sym same) ∙ end in
          let after = length d.texts.items in
          let name : Namespace = nearest inherited (value_of (codes "ns") (attributes_at d row)) in
          let within : AreChildren d 0 1 s.text inside row.«end» after = subst (λ t. AreChildren d 0 1 t inside row.«end» after) (sym start.text) (subst (λ n. AreChildren d 0 1 0 inside n after) (sym ends) inner) in
          let last : IsOutside d 0 row.«end» after = λ (x : XmlText) at from. absurd (omega (arith, slice_get_within d.texts.items after x at)) in
          let nested : 0 < row.«end» = sound.nested 0 row here in
          let e = written name (outside name) root_place kind (declared_at d row) (attributes_at d row) inside in
          let has : HasInside s row 0 kind inside = record {
            nested = sound.nested;
            after = after;
            children = within;
            text = λ is_text.
                let only : row.«end» ≡ 1 = omega (arith, alone s.text after inside is_text within, nested) in
                sym (content_text sound.nested (record {
                  children = subst (λ n. AreChildren d 0 1 s.text inside n after) only within;
                  ends = λ (x : XmlText) at is. omega (arith, last x at (omega arith), is, nested);
                }));
            distinct = sound.distinct 0 row here;
          } in
          let comes : Comes s row 0 kind around place e = record {
            default = name;
            context = outside name;
            place_meant = root_place;
            inside = inside;
            is_inherited = record {
              default = named;
              namespace = ap (λ n. uri_meant a.uris (record { index = n })) namespace;
              library = ap (uri_meant a.uris) library ∙ empty_meant start.scope.knows.table;
              bare = ap (uri_meant a.uris) bare ∙ named;
              scope = still_in_scope a default start.scope;
            };
            is_placed = placed;
            has_inside = has;
            is = refl;
          } in
          let added = adds e comes in
          let now = terms_changed s s u refl added.same in
          let text : u.text ≡ s.text = ap (λ (x : Translator). x.text) added.same in
          let meant = means e comes in
          let new : OpenElement = record { written = e; begun = 0; left = inside; behind = [] } in
          let level_is = level_meant s u row level e 0 [] now meant (lays e comes) of behind here in
          let index : level.«open».index ≡ 0 = of.opened.index_is in
          let all : begins e kind ++ terms_left (new ∷ []) ≡ schema_terms (element (name_of d row.name) (declared_at d row) (attributes_at d row) inside) =
          ap (λ ts. begins e kind ++ (children e (layout e kind) 0 inside ++ ts)) (append-nil (layout e kind).behind)
          ∙ sym (terms_of name (outside name) root_place (name_of d row.name) (declared_at d row) (attributes_at d row) inside kind kind_is) in
          let whole = schema_terms (element (name_of d first.name) (declared_at d first) (attributes_at d first) inside) in
          record {
            same = now;
            sound = sound;
            opened = new ∷ [];
            are_open = AreOpen.more refl level_is
                (subst (λ i. AreChildren d i 1 u.text inside row.«end» after) (sym index) (subst (λ t. AreChildren d 0 1 t inside row.«end» after) (sym text) within))
                (subst (λ i. IsOutside d i row.«end» after) (sym index) last) (omega (arith, index)) (omega (arith, of.begun)) refl AreOpen.none;
            scope = meant.scope;
            terms = goes_on (terms_meant s.uris s.terms.items) (terms_meant u.uris u.terms.items) (begins e kind) (terms_left (new ∷ [])) whole whole added.terms
                (all ∙ ap (λ (r : XmlElement). schema_terms (element (name_of d r.name) (declared_at d r) (attributes_at d r) inside)) (sym same))
                (ap (λ ps. terms_meant s.uris ps ++ known whole) start.terms);
          }
    ]

-- there is a first element
pub first_row : (d : XmlDocument) (root : Node) → HoldsRoot d root → (row : XmlElement) × (slice_get d.elements.items 0 ≡ Some row)
first_row d root (HoldsRoot.root {row = row} there parent end inside) = (row, there)
