-- The root begins, and all that is left behind it is walked.
use Rattle.std.proofs.Common.{refl, sym, ap, ◌∙◌, Some}
use Rattle.std.proofs.lemmas.Option.{none-some}
use Rattle.std.proofs.lemmas.Result.{on_ok_weaker}
use Rattle.rn_translate.specs.Terms.{inherited}
use Rattle.rn_translate.specs.Translation.{schema_terms}
use Rattle.rn_translate.specs.inside.Meanings.{sign_terms, uri_meant}
use Rattle.rn_translate.specs.declared.translator.Translator.{Translator}
use Rattle.rn_translate.proofs.Walking.RootSteps.{first_row, root_begun, root_default, with_default}
use Rattle.rn_translate.proofs.translator.Translator.walk.Goals as goal

pub returns-in_default-clause-meant : goal.returns-in_default-clause-meant
returns-in_default-clause-meant c = λ root start sound holds.
    let first = first_row c.args.self.now.document.now root holds in
    absurd (none-some first.0 (c.in_default.ensures.element ∙ first.1))

pub returns-clause-meant : goal.returns-clause-meant
returns-clause-meant c = λ root start sound holds.
    let a = c.args.self.now in
    let walked = root_begun a c.begin.new.self c.namespace_at-self.result c.in_ok-level.level root c.in-Some.root.now c.in_ok-kind.kind _ _ start sound holds
    (sym c.in-Some.ensures.element) c.in_ok-kind.ensures (c.namespace_at-self.ensures inherited start.scope.knows refl) refl refl refl
    (record { standing = refl; is_first = refl; is_last = refl; is_root = refl }) c.in_ok-check_text_alone.ensures
    c.in_ok-level.ensures.added c.in_ok-level.ensures.meant c.in_ok-level.ensures.layout (ap sign_terms c.in_ok-level.ensures.behind) c.in_ok-level.ensures.of in
    c.walk_from.ensures.meant (with_default a c.namespace_at-self.result) (schema_terms root) refl walked

pub returns-clause-default : goal.returns-clause-default
returns-clause-default c = λ root start sound holds.
    let a = c.args.self.now in
    let walked = root_begun a c.begin.new.self c.namespace_at-self.result c.in_ok-level.level root c.in-Some.root.now c.in_ok-kind.kind _ _ start sound holds
    (sym c.in-Some.ensures.element) c.in_ok-kind.ensures (c.namespace_at-self.ensures inherited start.scope.knows refl) refl refl refl
    (record { standing = refl; is_first = refl; is_last = refl; is_root = refl }) c.in_ok-check_text_alone.ensures
    c.in_ok-level.ensures.added c.in_ok-level.ensures.meant c.in_ok-level.ensures.layout (ap sign_terms c.in_ok-level.ensures.behind) c.in_ok-level.ensures.of in
    on_ok_weaker c.walk_from.result
    (λ same. ap (λ (t : Translator). uri_meant t.uris t.default) same ∙ c.namespace_at-self.ensures inherited start.scope.knows refl
    ∙ ap (λ n. Some n) (sym (root_default a.document.now root c.in-Some.root.now holds (sym c.in-Some.ensures.element))))
    (c.walk_from.ensures.same (with_default a c.namespace_at-self.result) (schema_terms root) refl walked)

pub returns-clause-uris : goal.returns-clause-uris
returns-clause-uris c = λ root start sound holds.
    let a = c.args.self.now in
    let walked = root_begun a c.begin.new.self c.namespace_at-self.result c.in_ok-level.level root c.in-Some.root.now c.in_ok-kind.kind _ _ start sound holds
    (sym c.in-Some.ensures.element) c.in_ok-kind.ensures (c.namespace_at-self.ensures inherited start.scope.knows refl) refl refl refl
    (record { standing = refl; is_first = refl; is_last = refl; is_root = refl }) c.in_ok-check_text_alone.ensures
    c.in_ok-level.ensures.added c.in_ok-level.ensures.meant c.in_ok-level.ensures.layout (ap sign_terms c.in_ok-level.ensures.behind) c.in_ok-level.ensures.of in
    on_ok_weaker c.walk_from.result (λ same. ap (λ (t : Translator). t.uris) same) (c.walk_from.ensures.same (with_default a c.namespace_at-self.result) (schema_terms root) refl walked)
