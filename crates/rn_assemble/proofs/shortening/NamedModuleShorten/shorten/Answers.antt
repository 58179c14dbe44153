-- The declarations of the module are those again from which their short ones came.
use Rattle.rn_syntax.specs.View.{declaration_view}
use Rattle.rn_assemble.specs.ShortTexts.{IsKnown, long_uri, short_texts}
use Rattle.rn_assemble.specs.inside.Covered.{IsCovered}
use Rattle.rn_assemble.specs.inside.RenamedModules.{renamed_declaration, DeclaresKnown}
use Rattle.rn_assemble.specs.inside.Views.{named_module_view}
use Rattle.rn_assemble.proofs.Renaming.ReplacedOneByOne.{made_again, of_a_kind, of_views}
use Rattle.rn_assemble.proofs.shortening.NamedModuleShorten.shorten.Goals as goal

pub shorten_each-requires-clause-covered : goal.shorten_each-requires-clause-covered
shorten_each-requires-clause-covered c = of_views (IsCovered (short_texts c.args.uris.now)) declaration_view c.args.self.tree.decls.items c.requires.covered

pub returns : goal.returns
returns c =
    let es = short_texts c.args.uris.now in
    let m = named_module_view c.args.self in
    let old = c.args.self.tree.decls.items in
    let new = c.in_ok-decls.decls.items in
    let again = made_again declaration_view (renamed_declaration (long_uri es)) (DeclaresKnown (IsKnown es)) old new c.in_ok-decls.ensures in (
      λ i. record { name = m.name; tree = record { declarations = again i; items = m.tree.items } },
      of_a_kind declaration_view (renamed_declaration (long_uri es)) (DeclaresKnown (IsKnown es)) old new c.in_ok-decls.ensures,
    )
