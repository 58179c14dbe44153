-- The texts that are passed are the element's, and come before the next element in it.
use Rattle.std.proofs.Common.{◌≡◌, ◌+◌, ◌<◌, true, false, refl, sym, ap, ◌∙◌, subst}
use Rattle.std.specs.Prelude.{slice_get, IfSome, nat_lt}
use Rattle.std.specs.Option.{option_map_or}
use Rattle.std.proofs.lemmas.Option.{none-some, same_Some}
use Rattle.rn_xml.specs.declared.document.XmlElement.{XmlElement}
use Rattle.rn_xml.specs.declared.document.XmlText.{XmlText}
use Rattle.rn_xml.specs.declared.document.XmlDocument.{XmlDocument}
use Rattle.rn_translate.specs.declared.translator.Translator.{Translator}
use Rattle.rn_translate.proofs.Walking.TreeTexts.{before_element, none_skipped, not_before, one_skipped}
use Rattle.rn_translate.proofs.translator.Translator.pass_texts.Goals as goal
use Rattle.rn_translate.proofs.translator.Translator.pass_texts.Goals.{in-Some+then-text-open, then-text-open-via-then-text-open, then-text-open-via-else-text-open+then-not-comes_before, in_default}

pub texts-init : goal.texts-init
texts-init c = record { same = refl; left = λ k behind after below are outside. none_skipped are }

pub texts-preserved : goal.texts-preserved
texts-preserved c =
    let a = c.args.self.now in
    let document : c.texts.self.document.now ≡ a.document.now = ap (λ (t : Translator). t.document.now) c.texts.invariant.same in
    record {
      same = ap {A = Translator} (λ t. record t { text = c.texts.self.text + 1 }) c.texts.invariant.same;
      left = λ k behind after below are outside.
          let so : option_map_or (λ (x : XmlElement). nat_lt c.in-Some.text.now.at x.at) (slice_get c.texts.self.document.now.elements.items c.args.next) true ≡ true =
          sym c.comes_before.ensures ∙ c.if-not-comes_before.false in
          let first = before_element c.in-Some.text.now.at (slice_get a.document.now.elements.items c.args.next)
          (subst (λ (d : XmlDocument). option_map_or (λ (x : XmlElement). nat_lt c.in-Some.text.now.at x.at) (slice_get d.elements.items c.args.next) true ≡ true) document so) in
          one_skipped c.in-Some.text.now (c.texts.invariant.left k behind after below are outside) below outside (sym c.in-Some.ensures.text) c.if-text-open.false first;
    }

pub returns-clause-passed : goal.returns-clause-passed
returns-clause-passed c = λ (row : XmlText) here is before.
    let a = c.args.self.now in
    let document : c.texts.self.document.now ≡ a.document.now = ap (λ (t : Translator). t.document.now) c.texts.invariant.same in
    elim c.match-text_at.branch [
      | in-Some+then-text-open w ↦
          let same : row ≡ w.in-Some.text.now = same_Some row w.in-Some.text.now (sym here ∙ sym w.in-Some.ensures.text) in
          elim w.then-text-open.branch [
            | then-text-open-via-then-text-open x ↦ x.if-text-open.true (ap (λ (r : XmlText). r.parent) (sym same) ∙ is)
            | then-text-open-via-else-text-open+then-not-comes_before x ↦
                let so : option_map_or (λ (e : XmlElement). nat_lt w.in-Some.text.now.at e.at) (slice_get c.texts.self.document.now.elements.items c.args.next) true ≡ false =
                sym x.comes_before.ensures ∙ x.if-not-comes_before.true in
                not_before w.in-Some.text.now.at (slice_get a.document.now.elements.items c.args.next)
                (subst (λ (d : XmlDocument). option_map_or (λ (e : XmlElement). nat_lt w.in-Some.text.now.at e.at) (slice_get d.elements.items c.args.next) true ≡ false) document so)
                (subst (λ (r : XmlText). IfSome (slice_get a.document.now.elements.items c.args.next) (λ (e : XmlElement). r.at < e.at)) same before)
          ]
      | in_default w ↦ absurd (none-some row (w.in_default.ensures.text ∙ here))
    ]

pub returns-clause-left : goal.returns-clause-left
returns-clause-left c = c.texts.invariant.left

pub returns-clause-same : goal.returns-clause-same
returns-clause-same c = c.texts.invariant.same
