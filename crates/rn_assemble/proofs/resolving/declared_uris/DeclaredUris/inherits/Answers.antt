-- Where the default namespace is declared, and no URI is the inherited one, all are the same under any.
use Rattle.std.proofs.Common.{◌≡◌, ◌||◌, List, [], ◌∷◌, map, refl, sym, ap, subst, ◌∙◌}
use Rattle.std.specs.Prelude.{option_map}
use Rattle.std.specs.List.{list_any}
use Rattle.rn_syntax.specs.BindingDeclarations.{bound}
use Rattle.rn_syntax.specs.Places.{uri_at}
use Rattle.rn_syntax.specs.Tree.{Declaration}
use Rattle.rn_assemble.specs.declared.resolving.declared_uris.SharedUri.{SharedUri}
use Rattle.rn_assemble.specs.inside.ContextBindings.{AgreeUnder, binds_are}
use Rattle.rn_assemble.specs.inside.Shared.{is_inherited, shared_uri}
use Rattle.rn_assemble.proofs.Expansion.SameNamespaces.{agree_without}
use Rattle.rn_assemble.proofs.resolving.declared_uris.DeclaredUris.inherits.Goals as goal

-- the URIs of the code are asked as those that they stand for
asked : (us : List SharedUri) → list_any is_inherited (map shared_uri us) ≡ list_any (λ (x : SharedUri). is_inherited (shared_uri x)) us
asked [] = refl
asked (x ∷ us) = ap (λ b. is_inherited (shared_uri x) || b) (asked us)

pub returns-in-Some : goal.returns-in-Some
returns-in-Some c = λ ds u v binds none.
    let b = c.args.self.now in
    let seen = c.has_inherited.ensures ∙ ap (list_any (λ (x : SharedUri). is_inherited (shared_uri x))) c.deref.ensures.value in
    subst (λ (es : List Declaration). AgreeUnder es u v) (binds_are b ds binds)
    (agree_without u v (bound b.numbers) (uri_at (bound b.numbers) c.in-Some.field-0)
    (ap (list_any is_inherited) (sym b.uris_are) ∙ asked b.uris.items ∙ sym seen ∙ none)
    (c.default.ensures.uri ∙ ap (option_map (uri_at (bound b.numbers))) c.in-Some.is))
