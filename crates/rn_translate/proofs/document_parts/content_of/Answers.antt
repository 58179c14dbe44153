-- The next text, if it is the element's.
use Rattle.std.proofs.Common.{◌≡◌, sym, ◌∙◌, Some, None}
use Rattle.std.specs.Prelude.{slice_get}
use Rattle.rn_translate.proofs.ContentTexts.{content_text, no_content, other_content, this_content}
use Rattle.rn_translate.proofs.document_parts.content_of.Goals as goal
use Rattle.rn_translate.proofs.document_parts.content_of.Goals.{in_default-via-in-Some+else-first-index, in_default-via-in_default}

pub returns-in-Some-clause-text : goal.returns-in-Some-clause-text
returns-in-Some-clause-text c = λ k after nested is.
    let d = c.args.document.now in
    let there : slice_get d.texts.items c.args.text ≡ Some c.in-Some.first.now = sym c.in-Some.ensures.text in
    c.as_str.ensures.value ∙ sym (this_content d c.args.text c.args.index c.in-Some.first.now there c.if-first-index.true) ∙ content_text nested is

pub returns-in_default-clause-at : goal.returns-in_default-clause-at
returns-in_default-clause-at c =
    let d = c.args.document.now in
    let t = c.args.text in
    elim c.in_default.branch [
      | in_default-via-in-Some+else-first-index w ↦
          let there : slice_get d.texts.items t ≡ Some w.in-Some.first.now = sym w.in-Some.ensures.text in
          sym (other_content d t c.args.index w.in-Some.first.now there w.if-first-index.false)
      | in_default-via-in_default w ↦
          let none : slice_get d.texts.items t ≡ None = sym w.in_default.ensures.text in
          sym (no_content d t c.args.index none)
    ]

pub returns-in_default-clause-text : goal.returns-in_default-clause-text
returns-in_default-clause-text c = λ k after nested is. returns-in_default-clause-at c ∙ content_text nested is
