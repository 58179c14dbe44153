-- The element that opens means what comes next.
use Rattle.std.proofs.Common.{◌≡◌, refl, sym, ap, ◌∙◌, subst, Some, None}
use Rattle.std.specs.Prelude.{Option, option_map, is_some, codes, ◌++◌}
use Rattle.rn_translate.specs.SchemaElements.{bare_in, nearest, value_of}
use Rattle.rn_translate.specs.Layouts.{Written}
use Rattle.rn_translate.specs.inside.Meanings.{uri_meant}
use Rattle.rn_translate.specs.inside.ElementsMeant.{IsInScope, IsMeant, KnowsUris, attributes_at, declared_at}
use Rattle.rn_xml.specs.declared.document.XmlElement.{XmlElement}
use Rattle.rn_translate.specs.declared.translator.Open.{Open}
use Rattle.rn_translate.specs.declared.translator.Translator.{Translator}
use Rattle.rn_translate.proofs.translator.Translator.opened.Goals as goal

is_some_map : {A B : Type 0} (f : A → B) (o : Option A) → is_some (option_map f o) ≡ is_some o
is_some_map f None = refl
is_some_map f (Some x) = refl

-- the URIs are known in whatever scope
knows_in : (a : Translator) (b : Translator) → KnowsUris a → KnowsUris (record a { scopes = b.scopes })
knows_in a b k = record { table = k.table; has = k.has; known = k.known }

finish : (a b : Translator) (row : XmlElement) (o : Open) (e w : Written) → b ≡ record a { scopes = b.scopes } → e ≡ w → IsMeant (record a { scopes = b.scopes }) row o w → IsMeant b row o e
finish a b row o e w same is m = subst (λ t. IsMeant t row o e) (sym same) (subst (λ x. IsMeant (record a { scopes = b.scopes }) row o x) (sym is) m)

pub returns-clause-meant : goal.returns-clause-meant
returns-clause-meant c = λ e comes.
    let a = c.args.self.now in
    let b = c.enter_scope.new.self in
    let row = c.args.element.now in
    let kind = c.args.kind in
    let same = c.in_ok-enter_scope.ensures.same in
    let now : Translator = record a { scopes = b.scopes } in
    let context = comes.context in
    let inherited = comes.is_inherited in
    let knows = knows_in a b inherited.scope.knows in
    let inside = comes.has_inside in
    let namespace = subst (λ t. KnowsUris t → uri_meant t.uris c.args.around.namespace ≡ Some context.namespace
    → uri_meant t.uris c.namespace_at.result ≡ Some (nearest context.namespace (value_of (codes "ns") (attributes_at t.document.now row)))) same (c.namespace_at.ensures context.namespace) in
    let library = subst (λ t. KnowsUris t → uri_meant t.uris c.args.around.library ≡ Some context.library
    → uri_meant t.uris c.library_at.result ≡ Some (nearest context.library (value_of (codes "datatypeLibrary") (attributes_at t.document.now row)))) same (c.library_at.ensures context.library) in
    let bare = subst (λ t. KnowsUris t → uri_meant t.uris t.default ≡ Some comes.default → uri_meant t.uris c.args.around.bare ≡ Some context.bare
    → uri_meant t.uris c.bare_in.result ≡ Some (bare_in comes.default context.bare kind)) same (c.bare_in.ensures comes.default context.bare) in
    let scope = subst (λ t. IsInScope t (declared_at a.document.now row ++ context.scope)) same (c.in_ok-enter_scope.ensures.scope context.scope inherited.scope inside.distinct) in
    finish a b row _ e _ same comes.is (record {
      kind = refl;
      named = c.is_some.ensures ∙ sym (is_some_map _ c.attribute.result) ∙ ap (λ o. is_some o) c.attribute.ensures;
      attributes = refl;
      text = inside.text;
      count = c.children_of-children.ensures.count a.text inside.after comes.inside inside.nested inside.children;
      except = c.children_of-children.ensures.except a.text inside.after comes.inside inside.nested inside.children;
      standing = comes.is_placed.standing;
      is_first = comes.is_placed.is_first;
      is_last = comes.is_placed.is_last;
      is_root = comes.is_placed.is_root;
      default = inherited.default;
      namespace = namespace knows inherited.namespace;
      library = library knows inherited.library;
      bare = bare knows inherited.default inherited.bare;
      scope = scope;
    })
