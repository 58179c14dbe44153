-- What is printed is the schema that the root is.
use Rattle.std.proofs.Common.{◌≡◌, sym, ap, ◌∙◌, subst}
use Rattle.rn_xml.specs.DocumentTrees.{HoldsRoot}
use Rattle.rn_translate.specs.inside.OpenLevels.{AreSound}
use Rattle.rn_translate.specs.Translation.{default_of, schema_terms}
use Rattle.rn_translate.specs.inside.Meanings.{terms_meant, uri_meant}
use Rattle.rn_translate.specs.inside.UriTables.{IsTable}
use Rattle.rn_translate.specs.inside.NeededPrefixes.{AreBound, each_once, needed_libraries, needed_namespaces}
use Rattle.rn_translate.specs.declared.translator.Translator.{Translator}
use Rattle.rn_translate.specs.declared.uris.Uris.{Uris}
use Rattle.rn_translate.proofs.translation.whole_text.Goals as goal

pub returns-clause-meant : goal.returns-clause-meant
returns-clause-meant c = λ root sound holds.
    let a : Translator = c.in_ok-translator.translator in
    let b : Translator = c.walk.new.self in
    let start = c.in_ok-translator.ensures.start.1 in
    let document = c.in_ok-translator.ensures.start.0 in
    let sound_here = subst AreSound (sym document) sound in
    let holds_here = subst (λ d. HoldsRoot d root) (sym document) holds in
    let uris : c.in_ok-declared.declared.uris.now ≡ b.uris = c.in_ok-declared.ensures.uris in
    let default = c.in_ok-walk.ensures.default root start sound_here holds_here in
    let terms = c.in_ok-walk.ensures.meant root start sound_here holds_here in
    let slices : c.as_slice.result.now ≡ c.as_slice-2.result.now = c.as_slice.ensures.value ∙ sym c.as_slice-2.ensures.value in
    c.print.ensures.meant (default_of root) (schema_terms root) (record {
      table = subst IsTable (sym (uris ∙ c.in_ok-walk.ensures.uris root start sound_here holds_here)) start.scope.knows.table;
      default = ap (λ (u : Uris). uri_meant u c.in_ok-declared.declared.default) uris ∙ ap (uri_meant b.uris) c.in_ok-declared.ensures.default ∙ default;
      namespaces = subst (λ ps. AreBound c.in_ok-declared.declared.namespaces (each_once (needed_namespaces ps))) slices c.in_ok-declared.ensures.namespaces;
      libraries = subst (λ ps. AreBound c.in_ok-declared.declared.libraries (each_once (needed_libraries ps))) slices c.in_ok-declared.ensures.libraries;
      terms = ap (λ (u : Uris). terms_meant u c.as_slice-2.result.now) uris ∙ ap (terms_meant b.uris) c.as_slice-2.ensures.value ∙ terms;
    })
