-- The steps of the walk: what is left of the open elements behind each of them.
use Rattle.std.proofs.Common.{◌≡◌, ℕ, ◌+◌, ◌<◌, ◌≤◌, Bool, true, false, List, [], ◌∷◌, ◌++◌, refl, sym, ap, ◌∙◌, subst, arith, append_assoc, append-nil, Some, None}
use Rattle.std.specs.Prelude.{Option, if◌then◌else◌, nat_lt, slice_get, bytes_eq, not}
use Rattle.std.proofs.lemmas.Bool.{cond-false}
use Rattle.std.proofs.lemmas.List.{map-append, same_from_push}
use Rattle.std.proofs.lemmas.Option.{same_Some}
use Rattle.rn_xml.specs.Infoset.{Node, Nodes, more_nodes}
use Rattle.rn_xml.specs.XmlTags.{Scope}
use Rattle.rn_xml.specs.DocumentTrees.{AreChildren, name_of}
use Rattle.rn_xml.specs.declared.document.XmlElement.{XmlElement}
use Rattle.rn_xml.specs.declared.document.XmlDocument.{XmlDocument}
use Rattle.rn_translate.specs.Terms.{Term}
use Rattle.rn_translate.specs.SchemaElements.{is_foreign, is_part, kind_of, rng_uri}
use Rattle.rn_translate.specs.Layouts.{Layout, Written, layout}
use Rattle.rn_translate.specs.Translation.{children}
use Rattle.rn_translate.specs.inside.Meanings.{AddsInScope, known, layout_meant, sign_terms, terms_meant}
use Rattle.rn_translate.specs.inside.Walks.{AreTextsPassed, IsOutside, TextsSkipped, node_at}
use Rattle.rn_translate.specs.inside.ElementsMeant.{IsInScope, declared_at}
use Rattle.rn_translate.specs.inside.OpenLevels.{AreOpen, IsLevel, IsWalked, OpenElement, scope_in, terms_left}
use Rattle.rn_translate.specs.declared.translator.Level.{Level}
use Rattle.rn_translate.specs.declared.translator.Translator.{Translator}
use Rattle.rn_translate.proofs.ChildCounts.{foreign_name, none_counted, none_left}
use Rattle.rn_translate.proofs.Walking.TreeSteps.{skips_children}
use Rattle.rn_translate.proofs.Walking.TreeTexts.{child_next, child_outside, none_next}

-- ---- the innermost level

-- what is known of it and of those around it
pub record Innermost (t : Translator) (outer : List Level) (l : Level) (next text : ℕ) (os : List OpenElement) : Type 0 where
  pub row : XmlElement
  pub o : OpenElement
  pub around : List OpenElement
  pub after : ℕ
  pub is : os ≡ o ∷ around
  pub level : IsLevel t row l o.written o.begun o.behind
  pub left : AreChildren t.document.now l.«open».index next text o.left row.«end» after
  pub outside : IsOutside t.document.now l.«open».index row.«end» after
  pub below : l.«open».index < next
  pub begun : l.begun.count < next
  pub scope : o.written.context.scope ≡ declared_at t.document.now row ++ scope_in around
  pub outer_open : AreOpen t outer row.«end» after around

no_push : {X : Type 0} (xs : List X) (x : X) → [] ≡ xs ++ x ∷ [] → ⊥
no_push [] x e = cc
no_push (y ∷ ys) x e = cc

innermost_of : {t : Translator} {levels : List Level} {next text : ℕ} {os : List OpenElement} (outer : List Level) (l : Level) → AreOpen t levels next text os → levels ≡ outer ++ l ∷ []
    → Innermost t outer l next text os
innermost_of outer l AreOpen.none e = absurd (no_push outer l e)
innermost_of {t = t} {next = next} {text = text} {os = os} outer l (AreOpen.more {outer = others} {l = m} {row = row} {o = o} {around = around} {after = after} is level left outside below begun scope outer_open) e =
    let same = same_from_push others outer m l (sym is ∙ e) in
    let known : Innermost t others m next text os = record {
      row = row;
      o = o;
      around = around;
      after = after;
      is = refl;
      level = level;
      left = left;
      outside = outside;
      below = below;
      begun = begun;
      scope = scope;
      outer_open = outer_open;
    } in
    subst (λ x. Innermost t x l next text os) same.0 (subst (λ x. Innermost t others x next text os) same.1 known)

pub innermost : {t : Translator} {outer : List Level} {l : Level} {next text : ℕ} {os : List OpenElement} → AreOpen t (outer ++ l ∷ []) next text os → Innermost t outer l next text os
innermost {outer = outer} {l = l} are = innermost_of outer l are refl

-- ---- what has changed since the start

abbrev pub changed : Translator → Translator → Translator
changed s t = record s { terms = t.terms; scopes = t.scopes; text = t.text }

pub same_document : (s t : Translator) → t ≡ changed s t → t.document.now ≡ s.document.now
same_document s t same = ap (λ (x : Translator). x.document.now) same

text_changed : (s t u : Translator) → t ≡ changed s t → u ≡ record t { text = u.text } → u ≡ changed s u
text_changed s t u same new =
    new ∙ ap (λ (x : Translator). record x { text = u.text }) same
    ∙ ap (λ v. record s { terms = v; scopes = t.scopes; text = u.text }) (sym (ap (λ (x : Translator). x.terms) new))
    ∙ ap (λ v. record s { terms = u.terms; scopes = v; text = u.text }) (sym (ap (λ (x : Translator). x.scopes) new))

pub terms_changed : (s t u : Translator) → t ≡ changed s t → u ≡ record t { terms = u.terms; scopes = u.scopes } → u ≡ changed s u
terms_changed s t u same new =
    new ∙ ap (λ (x : Translator). record x { terms = u.terms; scopes = u.scopes }) same
    ∙ ap (λ v. record s { terms = u.terms; scopes = u.scopes; text = v }) (sym (ap (λ (x : Translator). x.text) new))

scope_kept : (t u : Translator) (scope : Scope) → u ≡ record t { text = u.text } → IsInScope t scope → IsInScope u scope
scope_kept t u scope new is =
    let kept : IsInScope (record t { text = u.text }) scope = record { knows = record { table = is.knows.table; has = is.knows.has; known = is.knows.known }; declared = is.declared } in
    subst (λ x. IsInScope x scope) (sym new) kept

-- the terms that are added are the first of those that were left
pub goes_on : (before now : List (Option Term)) (added left all whole : List Term) → now ≡ before ++ known added → added ++ left ≡ all → before ++ known all ≡ known whole
    → now ++ known left ≡ known whole
goes_on before now added left all whole is parts so =
    ap (λ l. l ++ known left) is ∙ append_assoc before (known added) (known left)
    ∙ ap (λ l. before ++ l) (sym (map-append (λ (x : Term). Some x) added left) ∙ ap known parts) ∙ so

stay : (t u : Translator) (left all whole : List Term) → u ≡ record t { text = u.text } → left ≡ all → terms_meant t.uris t.terms.items ++ known all ≡ known whole
    → terms_meant u.uris u.terms.items ++ known left ≡ known whole
stay t u left all whole new is so =
    ap (λ (x : Translator). terms_meant x.uris x.terms.items ++ known left) new ∙ ap (λ l. terms_meant t.uris t.terms.items ++ known l) is ∙ so

-- ---- texts are passed

pub texts_walked : (s t u : Translator) (outer : List Level) (l : Level) (next : ℕ) (whole : List Term) → IsWalked s t (outer ++ l ∷ []) next whole → u ≡ record t { text = u.text }
    → ((k : Nodes) (behind after : ℕ) → l.«open».index < next → AreChildren t.document.now l.«open».index next t.text k behind after
    → IsOutside t.document.now l.«open».index behind after → TextsSkipped t.document.now l.«open».index next u.text k behind after)
    → IsWalked s u (outer ++ l ∷ []) next whole
texts_walked s t u outer l next whole w new passes =
    let i = innermost w.are_open in
    let o = i.o in
    let f = o.written in
    let skipped = subst (λ d. AreChildren d l.«open».index next t.text o.left i.row.«end» i.after → IsOutside d l.«open».index i.row.«end» i.after
    → TextsSkipped d l.«open».index next u.text o.left i.row.«end» i.after) (same_document s t w.same) (passes o.left i.row.«end» i.after i.below) i.left i.outside in
    record {
      same = text_changed s t u w.same new;
      sound = w.sound;
      opened = record o { left = skipped.rest } ∷ i.around;
      are_open = AreOpen.more refl i.level skipped.children i.outside i.below i.begun i.scope i.outer_open;
      scope = scope_kept t u f.context.scope new (subst (λ os. IsInScope t (scope_in os)) i.is w.scope);
      terms = stay t u (terms_left (record o { left = skipped.rest } ∷ i.around)) (terms_left w.opened) whole new
          (ap (λ ts. ts ++ ((layout f f.kind).behind ++ (o.behind ++ terms_left i.around))) (sym (skips_children f (layout f f.kind) o.begun skipped.skips)) ∙ ap terms_left (sym i.is)) w.terms;
    }

-- ---- the innermost ends

pub level_ended : (s t u : Translator) (outer : List Level) (l : Level) (next : ℕ) (whole : List Term) → IsWalked s t (outer ++ l ∷ []) next whole
    → AreTextsPassed s.document.now l.«open».index next t.text → l.«open».«end» ≤ next → AddsInScope t u ((layout_meant l.layout).behind ++ sign_terms l.behind)
    → ((row : XmlElement) (scope : Scope) → slice_get t.document.now.elements.items l.«open».index ≡ Some row → IsInScope t (declared_at t.document.now row ++ scope) → IsInScope u scope)
    → IsWalked s u outer next whole
level_ended s t u outer l next whole w passed ends added leaves =
    let i = innermost w.are_open in
    let o = i.o in
    let f = o.written in
    let document = same_document s t w.same in
    let end = none_next i.left passed (subst (λ n. n ≤ next) i.level.end_is ends) in
    let here : IsInScope t (declared_at s.document.now i.row ++ scope_in i.around) = subst (λ x. IsInScope t x) i.scope (subst (λ os. IsInScope t (scope_in os)) i.is w.scope) in
    let text : u.text ≡ t.text = ap (λ (x : Translator). x.text) added.same in
    let behind : (layout_meant l.layout).behind ++ sign_terms l.behind ≡ (layout f f.kind).behind ++ o.behind =
    ap (λ (y : Layout). y.behind ++ sign_terms l.behind) i.level.layout_is ∙ ap (λ ts. (layout f f.kind).behind ++ ts) i.level.behind_is in
    let all : ((layout_meant l.layout).behind ++ sign_terms l.behind) ++ terms_left i.around ≡ terms_left w.opened =
    ap (λ ts. ts ++ terms_left i.around) behind ∙ append_assoc (layout f f.kind).behind o.behind (terms_left i.around)
    ∙ ap (λ k. children f (layout f f.kind) o.begun k ++ ((layout f f.kind).behind ++ (o.behind ++ terms_left i.around))) (sym end.0) ∙ ap terms_left (sym i.is) in
    record {
      same = terms_changed s t u w.same added.same;
      sound = w.sound;
      opened = i.around;
      are_open = subst (λ n. AreOpen s outer n u.text i.around) (sym end.1) (subst (λ x. AreOpen s outer i.row.«end» x i.around) (sym (text ∙ end.2)) i.outer_open);
      scope = leaves i.row (scope_in i.around) (ap (λ (d : XmlDocument). slice_get d.elements.items l.«open».index) document ∙ i.level.there)
          (subst (λ d. IsInScope t (declared_at d i.row ++ scope_in i.around)) (sym document) here);
      terms = goes_on (terms_meant t.uris t.terms.items) (terms_meant u.uris u.terms.items) ((layout_meant l.layout).behind ++ sign_terms l.behind) (terms_left i.around) (terms_left w.opened) whole added.terms all w.terms;
    }

-- ---- a foreign element is passed

pub foreign_passed : (s t u : Translator) (outer : List Level) (l : Level) (next behind : ℕ) (whole : List Term) (row : XmlElement) → IsWalked s t (outer ++ l ∷ []) next whole
    → AreTextsPassed s.document.now l.«open».index next t.text → next < l.«open».«end» → slice_get s.document.now.elements.items next ≡ Some row
    → is_foreign (kind_of (name_of s.document.now row.name)) ≡ true → behind ≡ row.«end» → u ≡ record t { text = u.text }
    → ((k : Nodes) (after : ℕ) → AreChildren t.document.now next (next + 1) t.text k behind after → IsOutside t.document.now next behind after → u.text ≡ after)
    → IsWalked s u (outer ++ l ∷ []) behind whole
foreign_passed s t u outer l next behind whole row w passed within there kind is new passes =
    let i = innermost w.are_open in
    let o = i.o in
    let f = o.written in
    let d : XmlDocument = s.document.now in
    let n = child_next i.left passed (subst (λ x. next < x) i.level.end_is within) in
    let same : n.row ≡ row = same_Some n.row row (sym n.there ∙ there) in
    let ends : n.row.«end» ≡ behind = ap (λ (r : XmlElement). r.«end») same ∙ sym is in
    let nested : next < n.row.«end» = w.sound.nested next n.row n.there in
    let outside : IsOutside d next n.row.«end» n.mid = child_outside i.below nested n.outer i.outside in
    let text : u.text ≡ n.mid = subst (λ x. AreChildren x next (next + 1) t.text n.inside behind n.mid → IsOutside x next behind n.mid → u.text ≡ n.mid) (same_document s t w.same) (passes n.inside n.mid)
    (subst (λ x. AreChildren d next (next + 1) t.text n.inside x n.mid) ends n.inner) (subst (λ x. IsOutside d next x n.mid) ends outside) in
    let no_part : is_part (node_at d n.row n.inside) ≡ false = foreign_part (bytes_eq (name_of d n.row.name).uri rng_uri)
    (ap (λ (r : XmlElement). is_foreign (kind_of (name_of d r.name))) same ∙ kind) (foreign_name (name_of d n.row.name)) in
    let skipped : children f (layout f f.kind) o.begun n.rest ≡ children f (layout f f.kind) o.begun o.left =
    sym (ap (children f (layout f f.kind) o.begun) n.is ∙ part_skipped f (layout f f.kind) o.begun (node_at d n.row n.inside) n.rest no_part) in
    record {
      same = text_changed s t u w.same new;
      sound = w.sound;
      opened = record o { left = n.rest } ∷ i.around;
      are_open = AreOpen.more refl i.level
          (subst (λ x. AreChildren d l.«open».index x u.text n.rest i.row.«end» i.after) ends (subst (λ x. AreChildren d l.«open».index n.row.«end» x n.rest i.row.«end» i.after) (sym text) n.outer))
          i.outside (omega (arith, i.below, nested, ends)) (omega (arith, i.begun, nested, ends)) i.scope i.outer_open;
      scope = scope_kept t u f.context.scope new (subst (λ os. IsInScope t (scope_in os)) i.is w.scope);
      terms = stay t u (terms_left (record o { left = n.rest } ∷ i.around)) (terms_left w.opened) whole new
          (ap (λ ts. ts ++ ((layout f f.kind).behind ++ (o.behind ++ terms_left i.around))) skipped ∙ ap terms_left (sym i.is)) w.terms;
    }
  where
    foreign_part : (b : Bool) {x : Bool} → x ≡ true → x ≡ not b → b ≡ false
    foreign_part true so is = sym so ∙ is
    foreign_part false so is = refl

    part_skipped : (f : Written) (y : Layout) (m : ℕ) (x : Node) (xs : Nodes) → is_part x ≡ false → children f y m (more_nodes x xs) ≡ children f y m xs
    part_skipped f y m x xs none = cond-false (is_part x) _ (children f y m xs) none

-- where no child comes next, the level's element ends
pub none_left_of : (s t : Translator) (outer : List Level) (l : Level) (next : ℕ) (whole : List Term) → IsWalked s t (outer ++ l ∷ []) next whole
    → None ≡ (if nat_lt next l.«open».«end» then slice_get s.document.now.elements.items next else None) → l.«open».«end» ≤ next
none_left_of s t outer l next whole w none =
    let i = innermost w.are_open in
    subst (λ n. n ≤ next) (sym i.level.end_is)
    (none_left (none_counted i.left) (subst (λ n. None ≡ (if nat_lt next n then slice_get s.document.now.elements.items next else None)) i.level.end_is none))

-- where no level is left, the terms are the whole
none_open : {t : Translator} {levels : List Level} {next text : ℕ} {os : List OpenElement} → AreOpen t levels next text os → levels ≡ [] → os ≡ []
none_open AreOpen.none none = refl
none_open (AreOpen.more {outer = outer} {l = l} is level left outside below begun scope outer_open) none = absurd (no_push outer l (sym none ∙ is))

pub whole_walked : (s t : Translator) (levels : List Level) (next : ℕ) (whole : List Term) → IsWalked s t levels next whole → levels ≡ [] → terms_meant t.uris t.terms.items ≡ known whole
whole_walked s t levels next whole w none =
    let left : known (terms_left w.opened) ≡ [] = ap (λ os. known (terms_left os)) (none_open w.are_open none) in
    sym (append-nil (terms_meant t.uris t.terms.items)) ∙ ap (λ l. terms_meant t.uris t.terms.items ++ l) (sym left) ∙ w.terms
