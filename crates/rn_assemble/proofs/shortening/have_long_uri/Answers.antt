use Rattle.std.proofs.Common.{map, sym, ap, ◌∙◌}
use Rattle.std.specs.List.{list_any}
use Rattle.rn_syntax.specs.View.{declaration_view}
use Rattle.rn_assemble.specs.Components.{NamedModule}
use Rattle.rn_assemble.specs.ShortTexts.{declared_uris, is_long}
use Rattle.rn_assemble.specs.inside.Views.{named_module_view}
use Rattle.rn_assemble.proofs.Renaming.DeclaredUris.{found_in}
use Rattle.rn_assemble.proofs.shortening.have_long_uri.Goals as goal

pub returns-then-has_long_uri : goal.returns-then-has_long_uri
returns-then-has_long_uri c = sym (found_in (λ (m : NamedModule). declared_uris m.tree.declarations) named_module_view is_long c.args.modules.now
    c.loop-module.module-index c.module-item.result c.loop-module-test.true c.module-item.is
    (ap (λ ds. list_any is_long (declared_uris (map declaration_view ds))) (sym c.deref.ensures.value) ∙ sym c.if-has_long_uri.ensures))
