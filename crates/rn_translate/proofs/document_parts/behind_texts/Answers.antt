-- The texts that are passed are those of the element and of the elements in it.
use Rattle.std.proofs.Common.{◌≡◌, sym, ap, ◌∙◌, arith, Some}
use Rattle.std.specs.Prelude.{slice_get}
use Rattle.std.proofs.lemmas.Option.{none-some, same_Some}
use Rattle.rn_xml.specs.declared.document.XmlText.{XmlText}
use Rattle.rn_translate.proofs.Walking.TreeTexts.{foreign_texts, more_foreign, no_foreign}
use Rattle.rn_translate.proofs.document_parts.behind_texts.Goals as goal
use Rattle.rn_translate.proofs.document_parts.behind_texts.Goals.{then-passed-index-via-then-passed-index, then-passed-index-via-else-passed-index+then-passed-end}

pub texts-init : goal.texts-init
texts-init c = λ k after are outside. (omega arith, foreign_texts are)

pub texts-preserved : goal.texts-preserved
texts-preserved c = λ k after are outside.
    let before = c.texts.invariant k after are outside in
    let more = more_foreign c.in-Some.passed.now c.texts.next are outside before.1 (sym c.in-Some.ensures.text) (omega (arith, c.if-passed-index.false)) (omega (arith, c.if-passed-end.false)) in
    (omega (arith, before.0), more)

pub returns-then-passed-index : goal.returns-then-passed-index
returns-then-passed-index c = λ k after are outside.
    let before = c.texts.invariant k after are outside in
    let this : (row : XmlText) → slice_get c.args.document.now.texts.items c.texts.next ≡ Some row → row.parent ≡ c.in-Some.passed.now.parent =
    λ row here. ap (λ (x : XmlText). x.parent) (same_Some row c.in-Some.passed.now (sym here ∙ sym c.in-Some.ensures.text)) in
    elim c.then-passed-index.branch [
      | then-passed-index-via-then-passed-index w ↦ no_foreign c.texts.next are before.0 before.1 (λ (row : XmlText) here from. absurd (omega (arith, this row here, from, w.if-passed-index.true)))
      | then-passed-index-via-else-passed-index+then-passed-end w ↦ no_foreign c.texts.next are before.0 before.1 (λ (row : XmlText) here from. omega (arith, this row here, w.if-passed-end.true))
    ]

pub returns-in_default : goal.returns-in_default
returns-in_default c = λ k after are outside.
    let before = c.texts.invariant k after are outside in
    no_foreign c.texts.next are before.0 before.1 (λ (row : XmlText) here from. absurd (none-some row (c.in_default.ensures.text ∙ here)))
