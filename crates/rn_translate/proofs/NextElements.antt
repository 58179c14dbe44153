-- The element that comes next, by the one around it.
use Rattle.std.proofs.Common.{◌≡◌, ℕ, ◌+◌, ◌==◌, false, List, sym, ap, ◌∙◌, subst}
use Rattle.std.specs.Prelude.{nat_le, if◌then◌else◌}
use Rattle.rn_xml.specs.declared.document.XmlElement.{XmlElement}
use Rattle.rn_translate.specs.Terms.{Term}
use Rattle.rn_translate.specs.Layouts.{Written, layout}
use Rattle.rn_translate.specs.inside.Meanings.{Adds, class_meant}
use Rattle.rn_translate.specs.Translation.{place_of, standing_of}
use Rattle.rn_translate.specs.inside.ElementsMeant.{Comes, IsChildOf}
use Rattle.rn_translate.specs.declared.kinds.Kind.{Kind}
use Rattle.rn_translate.specs.declared.translator.Context.{Context as CodeContext}
use Rattle.rn_translate.specs.declared.translator.Level.{Level}
use Rattle.rn_translate.specs.declared.translator.Place.{Place as CodePlace}
use Rattle.rn_translate.specs.declared.translator.Translator.{Translator}
use Rattle.rn_translate.proofs.AddedTerms.{scope_in}

-- where the next child is
pub record IsNextPlace (level : Level) (place : CodePlace) : Type 0 where
  pub standing : place.standing ≡ standing_of (class_meant level.layout.class) level.layout.standing level.begun.count
  pub first : place.is_first ≡ (level.begun.count == 0)
  pub last : place.is_last ≡ nat_le level.«open».children.count (level.begun.count + 1 + (if level.«open».children.has_except then 1 else 0))
  pub root : place.is_root ≡ false

child_comes : (a : Translator) (row child : XmlElement) (level : Level) (index : ℕ) (kind : Kind) (f e : Written) (place : CodePlace) → IsChildOf a row level child index kind f e
    → IsNextPlace level place → Comes a child index kind level.«open».context place e
child_comes a row child level index kind f e place h next = record {
  default = f.default;
  context = f.context;
  place_meant = place_of f (layout f f.kind) level.begun.count;
  inside = h.inside;
  is_inherited = record { default = h.around.default; namespace = h.around.namespace; library = h.around.library; bare = h.around.bare; scope = h.around.scope };
  is_placed = record {
    standing = next.standing ∙ ap (λ l. standing_of l.class l.standing level.begun.count) h.layout_is;
    is_first = next.first;
    is_last = next.last ∙ ap (λ n. nat_le n (level.begun.count + 1 + (if level.«open».children.has_except then 1 else 0))) h.around.count
        ∙ ap (λ b. nat_le f.count (level.begun.count + 1 + (if b then 1 else 0))) h.around.except;
    is_root = next.root;
  };
  has_inside = h.has_inside;
  is = h.is;
}

-- it still comes once terms are added
comes_after : (a b : Translator) (ts : List Term) (child : XmlElement) (index : ℕ) (kind : Kind) (around : CodeContext) (place : CodePlace) (e : Written) → Adds a b ts
    → Comes a child index kind around place e → Comes b child index kind around place e
comes_after a b ts child index kind around place e h comes =
    let inherited = comes.is_inherited in
    let inside = comes.has_inside in
    let kept : Comes (record a { terms = b.terms }) child index kind around place e = record {
      default = comes.default;
      context = comes.context;
      place_meant = comes.place_meant;
      inside = comes.inside;
      is_inherited = record {
        default = inherited.default;
        namespace = inherited.namespace;
        library = inherited.library;
        bare = inherited.bare;
        scope = scope_in a b comes.context.scope inherited.scope;
      };
      is_placed = comes.is_placed;
      has_inside = record { nested = inside.nested; after = inside.after; children = inside.children; text = inside.text; distinct = inside.distinct };
      is = comes.is;
    } in
    subst (λ t. Comes t child index kind around place e) (sym h.same) kept

pub next_after : (a b : Translator) (ts : List Term) (row child : XmlElement) (level : Level) (index : ℕ) (kind : Kind) (f e : Written) (place : CodePlace) → Adds a b ts
    → IsChildOf a row level child index kind f e → IsNextPlace level place → Comes b child index kind level.«open».context place e
next_after a b ts row child level index kind f e place h of next =
    comes_after a b ts child index kind level.«open».context place e h (child_comes a row child level index kind f e place of next)
