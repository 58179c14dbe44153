-- The innermost declaration of the prefix, and its namespace.
use Rattle.std.proofs.Common.{◌≡◌, sym, ap, ◌∙◌, Some, None}
use Rattle.std.specs.Prelude.{slice_get}
use Rattle.rn_text.specs.Texts.{Text}
use Rattle.rn_xml.specs.PrefixScopes.{around, innermost}
use Rattle.rn_translate.specs.Terms.{uri}
use Rattle.rn_translate.specs.inside.Meanings.{uri_meant}
use Rattle.rn_translate.proofs.NamesInScope.{declared_means, given_at, given_meant}
use Rattle.rn_translate.proofs.UriMeanings.{empty_meant}
use Rattle.rn_translate.proofs.translator.Translator.bound_namespace.Goals as goal

pub returns-in-Some : goal.returns-in-Some
returns-in-Some c = λ scope is other.
    let t = c.args.self.now in
    let d = t.document.now in
    let found : innermost (around t.scopes c.args.prefix.now) ≡ Some c.in-Some.index = cc (c.find.ensures, c.in-Some.is) in
    ap (uri_meant t.uris) c.declared_namespace.ensures ∙ given_meant t is.knows (slice_get d.declarations.items c.in-Some.index)
    ∙ ap (λ (x : Text). Some (uri x)) (sym (ap (given_at d) found) ∙ declared_means d other (is.declared c.args.prefix.now))

pub returns-in-None : goal.returns-in-None
returns-in-None c = λ scope is other.
    let t = c.args.self.now in
    let d = t.document.now in
    let none : innermost (around t.scopes c.args.prefix.now) ≡ None = cc (c.find.ensures, c.in-None.is) in
    empty_meant is.knows.table ∙ ap (λ (x : Text). Some (uri x)) (sym (ap (given_at d) none) ∙ declared_means d other (is.declared c.args.prefix.now))
