-- A foreign element is passed, or the child begins.
use Rattle.std.proofs.Common.{◌≡◌, true, ◌+◌, sym, ap, refl, ◌∙◌, subst, Some, ◌++◌, ◌∷◌, []}
use Rattle.rn_xml.specs.DocumentTrees.{AreChildren, name_of}
use Rattle.rn_xml.specs.declared.document.XmlDocument.{XmlDocument}
use Rattle.rn_translate.specs.SchemaElements.{is_foreign, kind_of}
use Rattle.rn_translate.specs.inside.OpenLevels.{IsWalked}
use Rattle.rn_translate.proofs.Walking.OpenSteps.{foreign_passed, same_document}
use Rattle.rn_translate.proofs.Walking.ChildSteps.{child_begun}
use Rattle.rn_translate.proofs.translator.Translator.enter.Goals as goal

pub returns-then-is_foreign-clause-walked : goal.returns-then-is_foreign-clause-walked
returns-then-is_foreign-clause-walked c = λ start whole w passed within there.
    let a = c.args.self.now in
    let d : XmlDocument = start.document.now in
    let kind : is_foreign (kind_of (name_of d c.args.child.now.name)) ≡ true =
    ap (λ (x : XmlDocument). is_foreign (kind_of (name_of x c.args.child.now.name))) (sym (same_document start a w.same)) ∙ ap is_foreign c.in_ok-kind.ensures
    ∙ sym c.is_foreign.ensures ∙ c.if-is_foreign.true in
    subst (λ ls. IsWalked start (record a { text = c.behind_texts-self.result }) ls c.behind-behind.result whole) (sym c.in_ok-push.ensures.items)
    (foreign_passed start a (record a { text = c.behind_texts-self.result }) c.args.levels.now.items c.args.around c.args.index c.behind-behind.result whole c.args.child.now w passed within there kind
    (c.behind-behind.ensures.end (w.sound.nested c.args.index c.args.child.now there)) refl c.behind_texts-self.ensures)

pub returns-clause-walked : goal.returns-clause-walked
returns-clause-walked c = λ start whole w passed within there.
    let a = c.args.self.now in
    let d : XmlDocument = start.document.now in
    let document = same_document start a w.same in
    let kind : kind_of (name_of d c.args.child.now.name) ≡ Some c.in_ok-kind.kind =
    ap (λ (x : XmlDocument). kind_of (name_of x c.args.child.now.name)) (sym document) ∙ c.in_ok-kind.ensures in
    let items : c.push-3.new.self.items ≡ (c.args.levels.now.items ++ c.with.result ∷ []) ++ c.in_ok-level.level ∷ [] =
    c.in_ok-push-3.ensures.items ∙ ap (λ ls. ls ++ c.in_ok-level.level ∷ []) c.in_ok-push-2.ensures.items in
    subst (λ ls. IsWalked start c.begin_child.new.self ls (c.args.index + 1) whole) (sym items)
    (child_begun start a c.begin_child.new.self c.args.levels.now.items c.args.around c.with.result c.in_ok-level.level c.args.index whole c.args.child.now c.in_ok-kind.kind w passed within there kind
    (sym c.is_foreign.ensures ∙ c.if-is_foreign.false)
    (λ text after inside holds are. c.in_ok-check_text_alone.ensures text after inside holds
    (subst (λ (x : XmlDocument). AreChildren x c.args.index (c.args.index + 1) text inside c.args.child.now.«end» after) (sym document) are))
    c.in_ok-level.ensures.added c.in_ok-level.ensures.meant c.in_ok-level.ensures.layout c.in_ok-level.ensures.behind c.in_ok-level.ensures.of
    c.with.ensures.same c.with.ensures.begun c.requires)
