-- That of the context, but for an attribute that gives none itself.
use Rattle.std.proofs.Common.{◌≡◌, [], sym, ap, ◌∙◌, refl, Some}
use Rattle.std.specs.Prelude.{codes, is_some, if◌then◌else◌, Option}
use Rattle.rn_text.specs.Texts.{Text}
use Rattle.rn_translate.specs.Terms.{uri}
use Rattle.rn_translate.specs.SchemaElements.{value_of}
use Rattle.rn_translate.specs.Layouts.{Written, unprefixed_in}
use Rattle.rn_translate.specs.declared.kinds.Kind.{Kind}
use Rattle.rn_translate.specs.declared.kinds.Kind.TheVariants as k
use Rattle.rn_translate.proofs.UriMeanings.{empty_meant}
use Rattle.rn_translate.proofs.translator.Translator.unprefixed_in.Goals as goal

-- an attribute has a namespace of its own
of_attribute : (e : Written) → (given : Option Text) → value_of (codes "ns") e.attributes ≡ given → k.Attribute ≡ e.kind
    → (if is_some given then e.context.namespace else uri []) ≡ unprefixed_in e e.kind
of_attribute e given is attribute =
    ap (λ o. if is_some o then e.context.namespace else uri []) (sym is) ∙ ap (unprefixed_in e) attribute

-- what is no attribute is in the namespace of the context
of_others : (e : Written) (kind : Kind) → ¬ (kind ≡ k.Attribute) → e.context.namespace ≡ unprefixed_in e kind
of_others e k.Attribute other = absurd (other refl)
of_others e _ other = refl

pub returns-in-Some : goal.returns-in-Some
returns-in-Some c = λ e m.
    let given = rw c.in-Some.is at c.attribute.ensures in
    m.namespace ∙ ap (λ n. Some n) (of_attribute e _ (ap (value_of (codes "ns")) m.attributes ∙ sym given) (sym c.in-Attribute.is ∙ m.kind))

pub returns-in-None : goal.returns-in-None
returns-in-None c = λ e m.
    let given = rw c.in-None.is at c.attribute.ensures in
    empty_meant m.scope.knows.table ∙ ap (λ n. Some n) (of_attribute e _ (ap (value_of (codes "ns")) m.attributes ∙ sym given) (sym c.in-Attribute.is ∙ m.kind))

pub returns-in_default : goal.returns-in_default
returns-in_default c = λ e m.
    m.namespace ∙ ap (λ n. Some n) (of_others e e.kind (λ is. c.in_default.not-Attribute (m.kind ∙ is)))
