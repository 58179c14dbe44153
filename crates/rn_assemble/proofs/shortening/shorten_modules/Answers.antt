-- Without short texts the modules stay. Otherwise each has its short texts.
use Rattle.std.proofs.Common.{◌≡◌, false, true, inl, inr, refl, subst, sym}
use Rattle.std.specs.List.{AllByRecursion}
use Rattle.std.proofs.lemmas.Result.{IfOk-weaker}
use Rattle.rn_assemble.specs.Components as view
use Rattle.rn_assemble.specs.inside.RenamedModules.{renamed_module, renamed_modules, DeclareKnown, DeclaresKnown}
use Rattle.rn_assemble.specs.ShortTexts.{IsKnown, ShortTexts, long_uri, short_texts}
use Rattle.rn_assemble.specs.inside.Covered.{IsCovered}
use Rattle.rn_assemble.specs.inside.Views.{modules_view, named_module_view}
use Rattle.rn_assemble.proofs.Renaming.ReplacedOneByOne.{made_again, of_a_kind, of_views}
use Rattle.rn_assemble.proofs.Renaming.ShortModules.{modules_known, same_modules}
use Rattle.rn_assemble.proofs.shortening.shorten_modules.Goals as goal

abbrev HasCovered : ShortTexts → view.NamedModule → Type 0
HasCovered es m = AllByRecursion (IsCovered es) m.tree.declarations

abbrev HasKnown : ShortTexts → view.NamedModule → Type 0
HasKnown es m = AllByRecursion (DeclaresKnown (IsKnown es)) m.tree.declarations

pub returns-then-is_empty-clause-modules : goal.returns-then-is_empty-clause-modules
returns-then-is_empty-clause-modules c =
    let ms = modules_view c.args.modules.items in
    subst (λ (es : ShortTexts). renamed_modules (long_uri es) ms ≡ ms) (sym (c.if-is_empty.ensures.0 refl)) (same_modules ms)

pub returns-then-is_empty-clause-known : goal.returns-then-is_empty-clause-known
returns-then-is_empty-clause-known c =
    let ms = modules_view c.args.modules.items in
    subst (λ (es : ShortTexts). DeclareKnown (IsKnown es) ms) (sym (c.if-is_empty.ensures.0 refl)) (modules_known ms)

pub shorten_each-requires-clause-covered : goal.shorten_each-requires-clause-covered
shorten_each-requires-clause-covered c = elim c.requires.covered [
  | inl e ↦ let none : false ≡ true = c.if-is_empty.ensures.1 e in cc
  | inr h ↦ of_views (HasCovered (short_texts c.args.uris.now)) named_module_view c.args.modules.items h
]

pub returns-clause-modules : goal.returns-clause-modules
returns-clause-modules c =
    let es = short_texts c.args.uris.now in
    IfOk-weaker c.shorten_each.result _ _ (λ short stand. made_again named_module_view (renamed_module (long_uri es)) (HasKnown es) c.args.modules.items short.items stand) c.shorten_each.ensures

pub returns-clause-known : goal.returns-clause-known
returns-clause-known c =
    let es = short_texts c.args.uris.now in
    IfOk-weaker c.shorten_each.result _ _ (λ short stand. of_a_kind named_module_view (renamed_module (long_uri es)) (HasKnown es) c.args.modules.items short.items stand) c.shorten_each.ensures
