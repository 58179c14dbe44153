-- The innermost level ends, or its next child begins.
use Rattle.std.proofs.Common.{◌≡◌, sym, ap, ◌∙◌, subst, arith, None}
use Rattle.std.specs.Prelude.{if◌then◌else◌, slice_get, nat_lt}
use Rattle.std.proofs.lemmas.Bool.Decides.{nat_tests}
use Rattle.rn_xml.specs.declared.document.XmlDocument.{XmlDocument}
use Rattle.rn_translate.specs.inside.Walks.{AreTextsPassed}
use Rattle.rn_translate.proofs.ChildCounts.{child_there}
use Rattle.rn_translate.proofs.Walking.OpenSteps.{level_ended, none_left_of, same_document, texts_walked}
use Rattle.rn_translate.proofs.translator.Translator.step.Goals as goal

pub returns-in_default-clause-walked : goal.returns-in_default-clause-walked
returns-in_default-clause-walked c = λ start whole document w.
    let a = c.args.self.now in
    let b = c.pass_texts.new.self in
    let texts = texts_walked start a b c.args.levels.now.items c.args.level c.args.next whole w c.in_ok-pass_texts.ensures.same c.in_ok-pass_texts.ensures.left in
    let passed = subst (λ d. AreTextsPassed d c.args.level.«open».index c.args.next b.text) (same_document start a w.same) c.in_ok-pass_texts.ensures.passed in
    level_ended start b c.end.new.self c.args.levels.now.items c.args.level c.args.next whole texts passed
    (none_left_of start b c.args.levels.now.items c.args.level c.args.next whole texts
    (subst (λ (d : XmlDocument). None ≡ (if nat_lt c.args.next c.args.level.«open».«end» then slice_get d.elements.items c.args.next else None)) document c.in_default.ensures.child))
    c.in_ok-end.ensures.added c.in_ok-end.ensures.scope

pub returns-clause-walked : goal.returns-clause-walked
returns-clause-walked c = λ start whole document w.
    let a = c.args.self.now in
    let b = c.pass_texts.new.self in
    let texts = texts_walked start a b c.args.levels.now.items c.args.level c.args.next whole w c.in_ok-pass_texts.ensures.same c.in_ok-pass_texts.ensures.left in
    let passed = subst (λ d. AreTextsPassed d c.args.level.«open».index c.args.next b.text) (same_document start a w.same) c.in_ok-pass_texts.ensures.passed in
    let at = child_there (nat_lt c.args.next c.args.level.«open».«end») (slice_get c.args.document.now.elements.items c.args.next) c.in-Some.child.now c.in-Some.ensures.child in
    c.enter.ensures.walked start whole texts passed (grind (arith, nat_tests)) (ap (λ (d : XmlDocument). slice_get d.elements.items c.args.next) (sym document) ∙ at.1)
