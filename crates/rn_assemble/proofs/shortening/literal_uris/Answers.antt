use Rattle.std.proofs.Common.{List, [], ◌++◌, map, take, sym, ap, ◌∙◌, subst}
use Rattle.rn_syntax.specs.View.{declaration_view}
use Rattle.rn_syntax.specs.declared.tree.Declaration.{Declaration}
use Rattle.rn_text.specs.Texts.{Text}
use Rattle.rn_assemble.specs.Components.{NamedModule}
use Rattle.rn_assemble.specs.ShortTexts.{declared_uris, module_uris, special_uris}
use Rattle.rn_assemble.specs.inside.GatheredUris.{AreGathered}
use Rattle.rn_assemble.specs.inside.Views.{modules_view, named_module_view, texts_of}
use Rattle.rn_assemble.proofs.Renaming.DeclaredUris.{found_more}
use Rattle.rn_assemble.proofs.shortening.literal_uris.Goals as goal

pub loop-module-init : goal.loop-module-init
loop-module-init c = c.in_ok-add_special.ensures [] (ap texts_of c.new-uris.ensures.empty)

pub loop-module-preserved : goal.loop-module-preserved
loop-module-preserved c =
    let ms = c.args.modules.now in
    let i = c.loop-module.module-index in
    let before = module_uris (modules_view (take i ms)) in
    let more = found_more (λ (m : NamedModule). declared_uris m.tree.declarations) named_module_view ms i c.module-item.result c.loop-module-test.true c.module-item.is in
    let found = ap (λ (ds : List Declaration). declared_uris (map declaration_view ds)) c.deref.ensures.value in
    subst (λ (us : List Text). AreGathered (special_uris ++ us) c.add_literals.new.uris) (ap (λ us. before ++ us) found ∙ sym more)
    (c.in_ok-add_literals.ensures (special_uris ++ before) c.loop-module.invariant)
