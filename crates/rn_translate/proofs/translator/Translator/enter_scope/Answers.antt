-- One more declaration is entered; at the end all are.
use Rattle.std.proofs.Common.{◌≡◌, ◌+◌, [], ◌++◌, get_or, take, refl, sym, ap, ◌∙◌, subst, arith, Some}
use Rattle.std.specs.Prelude.{map, slice_get}
use Rattle.std.proofs.lemmas.Option.{slice_get-get_or, slice_get_within}
use Rattle.std.proofs.lemmas.List.{take_all}
use Rattle.rn_xml.specs.DocumentTrees.{binding_of}
use Rattle.rn_xml.specs.XmlTags.{AreDistinct}
use Rattle.rn_xml.specs.declared.document.XmlDeclaration.{XmlDeclaration}
use Rattle.rn_translate.specs.inside.ElementsMeant.{IsInScope}
use Rattle.rn_translate.specs.declared.translator.Translator.{Translator}
use Rattle.rn_translate.proofs.EnteredScopes.{row_at, entered}
use Rattle.rn_translate.proofs.translator.Translator.enter_scope.Goals as goal

-- what stands for a declaration that isn't there
abbrev nothing : XmlDeclaration
nothing = record { prefix = record { ref_ptr = (0, 0); now = [] }; uri = 0; at = 0 }

pub declarations-preserved : goal.declarations-preserved
declarations-preserved c =
    let rows = c.declarations_of-declaration-items.result.now in
    let i = c.declarations.before in
    let table = c.args.self.now.document.now.declarations in
    let r = get_or rows i nothing in
    let old = c.declarations.self in
    let there : slice_get table.items (c.args.element.now.declarations.from + i) ≡ Some r =
    row_at c.args.element.now.declarations table.items i r (ap (λ xs. slice_get xs i) (sym c.declarations_of-declaration-items.ensures) ∙ slice_get-get_or rows i nothing c.declarations-test.true) in
    let short = slice_get_within table.items (c.args.element.now.declarations.from + i) r there in
    let index : c.saturating_add.result ≡ c.args.element.now.declarations.from + i = omega (arith, c.saturating_add.ensures, short, table.small) in
    let same = c.declarations.invariant.same in
    record {
      same = ap (λ (t : Translator). record t { scopes = c.enter.new.self }) same;
      scope = λ s is distinct. subst (λ t. IsInScope t (map (binding_of c.args.self.now.document.now) (take (i + 1) rows) ++ s)) (sym (ap (λ (t : Translator). record t { scopes = c.enter.new.self }) same))
          (entered c.args.self.now old.scopes c.enter.new.self rows i c.saturating_add.result r nothing c.in_ok-enter.ensures.ok c.declarations-test.true refl (ap (slice_get table.items) index ∙ there) s distinct
          (subst (λ t. IsInScope t (map (binding_of c.args.self.now.document.now) (take i rows) ++ s)) same (c.declarations.invariant.scope s is distinct)));
    }

pub returns-clause-scope : goal.returns-clause-scope
returns-clause-scope c = λ s is distinct.
    let d = c.args.self.now.document.now in
    let rows = c.declarations_of-declaration-items.result.now in
    let all = take_all c.declarations.before rows c.declarations-test.false ∙ c.declarations_of-declaration-items.ensures in
    subst (λ xs. IsInScope c.declarations.self (map (binding_of d) xs ++ s)) all
    (c.declarations.invariant.scope s is (subst (λ xs. AreDistinct (map (binding_of d) xs)) (sym c.declarations_of-declaration-items.ensures) distinct))
