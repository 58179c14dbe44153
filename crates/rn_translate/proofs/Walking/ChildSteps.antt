-- A child begins: its terms, and those that are left behind it.
use Rattle.std.proofs.Common.{◌≡◌, ℕ, ◌+◌, ◌<◌, ◌≤◌, ◌^◌, Bool, true, false, List, [], ◌∷◌, ◌++◌, refl, sym, ap, ◌∙◌, subst, arith, append_assoc, Some, None}
use Rattle.std.specs.Prelude.{Option, slice_get, unwrap_or, bytes_eq, not, codes}
use Rattle.std.proofs.lemmas.Bool.{cond-true}
use Rattle.std.proofs.lemmas.Option.{same_Some}
use Rattle.rn_text.specs.Texts.{Text}
use Rattle.rn_xml.specs.Infoset.{Name, Attribute, Binding, Node, element, Nodes, more_nodes}
use Rattle.rn_xml.specs.DocumentTrees.{AreChildren, name_of}
use Rattle.rn_xml.specs.declared.document.XmlElement.{XmlElement}
use Rattle.rn_xml.specs.declared.document.XmlText.{XmlText}
use Rattle.rn_xml.specs.declared.document.XmlDocument.{XmlDocument}
use Rattle.rn_translate.specs.Terms.{Namespace, Term}
use Rattle.rn_translate.specs.SchemaElements.{Context, holds_text, is_foreign, is_part, kind_of, rng_uri, value_of}
use Rattle.rn_translate.specs.Layouts.{Layout, Place, Written, begins, layout, named}
use Rattle.rn_translate.specs.Translation.{before_child, behind_child, children, place_of, terms, written}
use Rattle.rn_translate.specs.inside.Meanings.{AddsInScope, layout_meant, sign_terms, terms_meant}
use Rattle.rn_translate.specs.inside.Walks.{AreTextsPassed, IsOutside, content_at, node_at}
use Rattle.rn_translate.specs.inside.ElementsMeant.{HasInside, IsChildOf, IsInScope, IsMeant, attributes_at, declared_at}
use Rattle.rn_translate.specs.inside.OpenLevels.{AreOpen, IsLevel, IsLevelOf, IsWalked, OpenElement, scope_in, terms_left}
use Rattle.rn_translate.specs.declared.kinds.Kind.{Kind}
use Rattle.rn_translate.specs.declared.kinds.Kind.TheVariants as k
use Rattle.rn_translate.specs.declared.translator.Level.{Level}
use Rattle.rn_translate.specs.declared.translator.Translator.{Translator}
use Rattle.rn_translate.proofs.ChildCounts.{foreign_name}
use Rattle.rn_translate.proofs.ContentTexts.{content_text}
use Rattle.rn_translate.proofs.Walking.TreeTexts.{child_next, child_outside}
use Rattle.rn_translate.proofs.Walking.OpenSteps.{changed, goes_on, innermost, same_document, terms_changed}

-- ---- how children are written doesn't depend on the text that an element begins with

named_of : (f : Written) (x : Text) (name : Option Text) → named (record f { text = x }) name ≡ named f name
named_of f x None = refl
named_of f x (Some name) = refl

layout_of : (f : Written) (x : Text) (kind : Kind) → layout (record f { text = x }) kind ≡ layout f kind
layout_of f x k.Element = named_of f x (value_of (codes "name") f.attributes)
layout_of f x k.Attribute = named_of f x (value_of (codes "name") f.attributes)
layout_of f x k.Group = refl
layout_of f x k.Interleave = refl
layout_of f x k.Choice = refl
layout_of f x k.Optional = refl
layout_of f x k.ZeroOrMore = refl
layout_of f x k.OneOrMore = refl
layout_of f x k.List = refl
layout_of f x k.Mixed = refl
layout_of f x k.Ref = refl
layout_of f x k.ParentRef = refl
layout_of f x k.Empty = refl
layout_of f x k.Text = refl
layout_of f x k.Value = refl
layout_of f x k.Data = refl
layout_of f x k.NotAllowed = refl
layout_of f x k.ExternalRef = refl
layout_of f x k.Grammar = refl
layout_of f x k.Param = refl
layout_of f x k.Except = refl
layout_of f x k.Start = refl
layout_of f x k.Define = refl
layout_of f x k.Div = refl
layout_of f x k.Include = refl
layout_of f x k.Name = refl
layout_of f x k.AnyName = refl
layout_of f x k.NsName = refl
layout_of f x k.Foreign = refl

-- ---- an open element of the code

module _ (s t : Translator) (row : XmlElement) (l : Level) where
  around_meant : (e : Written) (begun : ℕ) (behind : List Term) → IsLevel s row l e begun behind → t ≡ changed s t → IsInScope t e.context.scope
      → IsMeant (changed s t) row l.«open» (record e { text = content_at s.document.now t.text l.«open».index })
  around_meant e begun behind is same scope = record {
    kind = is.kind;
    named = is.named;
    attributes = is.attributes;
    text = λ holds. refl;
    count = is.count;
    except = is.except;
    standing = is.standing;
    is_first = is.is_first;
    is_last = is.is_last;
    is_root = is.is_root;
    default = is.default;
    namespace = is.namespace;
    library = is.library;
    bare = is.bare;
    scope = subst (λ x. IsInScope x e.context.scope) same scope;
  }

  pub level_meant : (e : Written) (index : ℕ) (behind : List Term) → t ≡ changed s t → IsMeant t row l.«open» e → layout_meant l.layout ≡ layout e e.kind → IsLevelOf row index l
      → sign_terms l.behind ≡ behind → slice_get s.document.now.elements.items index ≡ Some row → IsLevel s row l e 0 behind
  level_meant e index behind same is layout_is of behind_is there =
      let m : IsMeant (changed s t) row l.«open» e = subst (λ x. IsMeant x row l.«open» e) same is in
      record {
        there = ap (slice_get s.document.now.elements.items) of.opened.index_is ∙ there;
        end_is = of.opened.end_is;
        kind = m.kind;
        named = m.named;
        attributes = m.attributes;
        count = m.count;
        except = m.except;
        standing = m.standing;
        is_first = m.is_first;
        is_last = m.is_last;
        is_root = m.is_root;
        default = m.default;
        namespace = m.namespace;
        library = m.library;
        bare = m.bare;
        layout_is = layout_is;
        begun_is = of.begun;
        behind_is = behind_is;
      }

  one_more : (m : Level) (e : Written) (begun : ℕ) (behind : List Term) → m ≡ record l { begun = m.begun } → m.begun.count ≡ l.begun.count + 1 → IsLevel s row l e begun behind
      → IsLevel s row m e (begun + 1) behind
  one_more m e begun behind same count is =
      let kept : IsLevel s row (record l { begun = m.begun }) e (begun + 1) behind = record {
        there = is.there;
        end_is = is.end_is;
        kind = is.kind;
        named = is.named;
        attributes = is.attributes;
        count = is.count;
        except = is.except;
        standing = is.standing;
        is_first = is.is_first;
        is_last = is.is_last;
        is_root = is.is_root;
        default = is.default;
        namespace = is.namespace;
        library = is.library;
        bare = is.bare;
        layout_is = is.layout_is;
        begun_is = count ∙ ap (λ n. n + 1) is.begun_is;
        behind_is = is.behind_is;
      } in
      subst (λ x. IsLevel s row x e (begun + 1) behind) (sym same) kept

-- ---- the terms of a child

pub terms_of : (default : Namespace) (c : Context) (place : Place) (n : Name) (bound : List Binding) (attributes : List Attribute) (inside : Nodes) (kind : Kind) → kind_of n ≡ Some kind
    → terms default c place (element n bound attributes inside)
    ≡ begins (written default c place kind bound attributes inside) kind
    ++ (children (written default c place kind bound attributes inside) (layout (written default c place kind bound attributes inside) kind) 0 inside
    ++ (layout (written default c place kind bound attributes inside) kind).behind)
terms_of default c place n bound attributes inside kind is = ap (λ o. begins (written default c place (unwrap_or o k.Foreign) bound attributes inside) (unwrap_or o k.Foreign)
    ++ (children (written default c place (unwrap_or o k.Foreign) bound attributes inside) (layout (written default c place (unwrap_or o k.Foreign) bound attributes inside) (unwrap_or o k.Foreign)) 0 inside
    ++ (layout (written default c place (unwrap_or o k.Foreign) bound attributes inside) (unwrap_or o k.Foreign)).behind)) is

part_first : (f : Written) (y : Layout) (m : ℕ) (x : Node) (xs : Nodes) → is_part x ≡ true → children f y m (more_nodes x xs)
    ≡ before_child y.class y.separator m ++ (terms f.default f.context (place_of f y m) x ++ (behind_child y.class m ++ children f y (m + 1) xs))
part_first f y m x xs so = cond-true (is_part x) _ (children f y m xs) so

regrouped : {X : Type 0} (a b c d e f z : List X) → (a ++ b) ++ (c ++ (d ++ (e ++ (f ++ z)))) ≡ (a ++ ((b ++ (c ++ d)) ++ (e ++ f))) ++ z
regrouped a b c d e f z =
    append_assoc a b (c ++ (d ++ (e ++ (f ++ z))))
    ∙ ap (λ l. a ++ (b ++ l)) (sym (append_assoc c d (e ++ (f ++ z))))
    ∙ ap (λ l. a ++ l) (sym (append_assoc b (c ++ d) (e ++ (f ++ z))))
    ∙ ap (λ l. a ++ ((b ++ (c ++ d)) ++ l)) (sym (append_assoc e f z))
    ∙ ap (λ l. a ++ l) (sym (append_assoc (b ++ (c ++ d)) (e ++ f) z))
    ∙ sym (append_assoc a ((b ++ (c ++ d)) ++ (e ++ f)) z)

is_rng : (b : Bool) {x : Bool} → x ≡ false → x ≡ not b → b ≡ true
is_rng true so is = refl
is_rng false so is = sym so ∙ is

-- ---- the step

pub child_begun : (s t u : Translator) (outer : List Level) (l m level : Level) (index : ℕ) (whole : List Term) (child : XmlElement) (kind : Kind)
    → IsWalked s t (outer ++ l ∷ []) index whole → AreTextsPassed s.document.now l.«open».index index t.text → index < l.«open».«end»
    → slice_get s.document.now.elements.items index ≡ Some child → kind_of (name_of s.document.now child.name) ≡ Some kind → is_foreign (Some kind) ≡ false
    → ((text after : ℕ) (inside : Nodes) → holds_text kind ≡ true → AreChildren s.document.now index (index + 1) text inside child.«end» after → child.«end» ≤ index + 1)
    → ((row : XmlElement) (f e : Written) → IsChildOf t row l child index kind f e
    → AddsInScope t u (before_child (layout f f.kind).class (layout f f.kind).separator l.begun.count ++ begins e e.kind))
    → ((row : XmlElement) (f e : Written) → IsChildOf t row l child index kind f e → IsMeant u child level.«open» e)
    → ((row : XmlElement) (f e : Written) → IsChildOf t row l child index kind f e → layout_meant level.layout ≡ layout e e.kind)
    → sign_terms level.behind ≡ behind_child (layout_meant l.layout).class l.begun.count → IsLevelOf child index level
    → m ≡ record l { begun = m.begun } → (l.begun.count + 1 < 2 ^ 64 → m.begun.count ≡ l.begun.count + 1) → index + 1 < 2 ^ 64
    → IsWalked s u ((outer ++ m ∷ []) ++ level ∷ []) (index + 1) whole
child_begun s t u outer l m level index whole child kind w passed within there kind_is part alone adds means lays behind of with counted bound =
    let i = innermost w.are_open in
    let o = i.o in
    let f = o.written in
    let y = layout f f.kind in
    let d : XmlDocument = s.document.now in
    let n = child_next i.left passed (subst (λ x. index < x) i.level.end_is within) in
    let same : n.row ≡ child = same_Some n.row child (sym n.there ∙ there) in
    let inner : AreChildren d index (index + 1) t.text n.inside child.«end» n.mid = subst (λ (r : XmlElement). AreChildren d index (index + 1) t.text n.inside r.«end» n.mid) same n.inner in
    let rest : AreChildren d l.«open».index child.«end» n.mid n.rest i.row.«end» i.after = subst (λ (r : XmlElement). AreChildren d l.«open».index r.«end» n.mid n.rest i.row.«end» i.after) same n.outer in
    let nested : index < child.«end» = w.sound.nested index child there in
    let outside : IsOutside d index child.«end» n.mid = child_outside i.below nested rest i.outside in
    let e = written f.default f.context (place_of f y o.begun) kind (declared_at d child) (attributes_at d child) n.inside in
    let g = record f { text = content_at d t.text l.«open».index } in
    let laid : layout g g.kind ≡ y = layout_of f (content_at d t.text l.«open».index) f.kind in
    let scope : IsInScope t f.context.scope = subst (λ os. IsInScope t (scope_in os)) i.is w.scope in
    let has : HasInside (changed s t) child index kind n.inside = record {
      nested = w.sound.nested;
      after = n.mid;
      children = inner;
      text = λ holds.
          let end : child.«end» ≡ index + 1 = omega (arith, alone t.text n.mid n.inside holds inner, nested) in
          sym (content_text w.sound.nested (record {
            children = subst (λ x. AreChildren d index (index + 1) t.text n.inside x n.mid) end inner;
            ends = λ (row : XmlText) here is. omega (arith, outside row here (omega (arith, is)), is, nested);
          }));
      distinct = w.sound.distinct index child there;
    } in
    let is_child : IsChildOf t i.row l child index kind g e = subst (λ x. IsChildOf x i.row l child index kind g e) (sym w.same) (record {
      around = around_meant s t i.row l f o.begun o.behind i.level w.same scope;
      layout_is = i.level.layout_is ∙ sym laid;
      inside = n.inside;
      has_inside = has;
      is = ap (λ c. written f.default f.context (place_of f y c) kind (declared_at d child) (attributes_at d child) n.inside) (sym i.level.begun_is)
          ∙ ap (λ z. written f.default f.context (place_of f z l.begun.count) kind (declared_at d child) (attributes_at d child) n.inside) (sym laid);
    }) in
    let added = adds i.row g e is_child in
    let now : u ≡ changed s u = terms_changed s t u w.same added.same in
    let text : u.text ≡ t.text = ap (λ (x : Translator). x.text) added.same in
    let document = same_document s t w.same in
    let meant = means i.row g e is_child in
    let level_behind : sign_terms level.behind ≡ behind_child y.class o.begun = behind ∙ ap (λ z. behind_child z.class l.begun.count) i.level.layout_is ∙ ap (behind_child y.class) i.level.begun_is in
    let new : OpenElement = record { written = e; begun = 0; left = n.inside; behind = behind_child y.class o.begun } in
    let old : OpenElement = record o { begun = o.begun + 1; left = n.rest } in
    let count : m.begun.count ≡ l.begun.count + 1 = counted (omega (arith, i.begun, bound)) in
    let below : l.«open».index < child.«end» = omega (arith, i.below, nested) in
    let level_is = level_meant s u child level e index (behind_child y.class o.begun) now meant (lays i.row g e is_child) of level_behind there in
    let old_is = one_more s t i.row l m f o.begun o.behind with count i.level in
    let old_index : m.«open».index ≡ l.«open».index = ap (λ (x : Level). x.«open».index) with in
    let outer_open : AreOpen s (outer ++ m ∷ []) child.«end» n.mid (old ∷ i.around) = AreOpen.more refl old_is
    (subst (λ x. AreChildren d x child.«end» n.mid n.rest i.row.«end» i.after) (sym old_index) rest)
    (subst (λ x. IsOutside d x i.row.«end» i.after) (sym old_index) i.outside)
    (omega (arith, old_index, below)) (omega (arith, count, i.begun, nested)) i.scope i.outer_open in
    let inner_index : level.«open».index ≡ index = of.opened.index_is in
    let inner_open : AreOpen s ((outer ++ m ∷ []) ++ level ∷ []) (index + 1) u.text (new ∷ old ∷ i.around) = AreOpen.more refl level_is
    (subst (λ x. AreChildren d x (index + 1) u.text n.inside child.«end» n.mid) (sym inner_index) (subst (λ x. AreChildren d index (index + 1) x n.inside child.«end» n.mid) (sym text) inner))
    (subst (λ x. IsOutside d x child.«end» n.mid) (sym inner_index) outside)
    (omega (arith, inner_index)) (omega (arith, of.begun)) refl outer_open in
    let is_rng_child : is_part (node_at d child n.inside) ≡ true = is_rng (bytes_eq (name_of d child.name).uri rng_uri) (ap is_foreign kind_is ∙ part) (foreign_name (name_of d child.name)) in
    let first : children f y o.begun o.left ≡ before_child y.class y.separator o.begun ++ ((begins e kind ++ (children e (layout e kind) 0 n.inside ++ (layout e kind).behind))
    ++ (behind_child y.class o.begun ++ children f y (o.begun + 1) n.rest)) =
    ap (children f y o.begun) n.is ∙ ap (λ (r : XmlElement). children f y o.begun (more_nodes (node_at d r n.inside) n.rest)) same
    ∙ part_first f y o.begun (node_at d child n.inside) n.rest is_rng_child
    ∙ ap (λ ts. before_child y.class y.separator o.begun ++ (ts ++ (behind_child y.class o.begun ++ children f y (o.begun + 1) n.rest)))
    (terms_of f.default f.context (place_of f y o.begun) (name_of d child.name) (declared_at d child) (attributes_at d child) n.inside kind kind_is) in
    let behind_all = y.behind ++ (o.behind ++ terms_left i.around) in
    let front : before_child (layout g g.kind).class (layout g g.kind).separator l.begun.count ≡ before_child y.class y.separator o.begun =
    ap (λ z. before_child z.class z.separator l.begun.count) laid ∙ ap (before_child y.class y.separator) i.level.begun_is in
    let all : (before_child (layout g g.kind).class (layout g g.kind).separator l.begun.count ++ begins e kind) ++ terms_left (new ∷ old ∷ i.around) ≡ terms_left w.opened =
    ap (λ ts. (ts ++ begins e kind) ++ terms_left (new ∷ old ∷ i.around)) front
    ∙ regrouped (before_child y.class y.separator o.begun) (begins e kind) (children e (layout e kind) 0 n.inside) (layout e kind).behind (behind_child y.class o.begun)
    (children f y (o.begun + 1) n.rest) behind_all
    ∙ ap (λ ts. ts ++ behind_all) (sym first) ∙ ap terms_left (sym i.is) in
    record {
      same = now;
      sound = w.sound;
      opened = new ∷ old ∷ i.around;
      are_open = inner_open;
      scope = meant.scope;
      terms = goes_on (terms_meant t.uris t.terms.items) (terms_meant u.uris u.terms.items) (before_child (layout g g.kind).class (layout g g.kind).separator l.begun.count ++ begins e kind) (terms_left (new ∷ old ∷ i.around)) (terms_left w.opened) whole added.terms all w.terms;
    }
