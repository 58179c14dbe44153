-- Where no URI is long there are no texts; else they are those of all URIs.
use Rattle.std.proofs.Common.{◌≡◌, ◌<◌, ◌^◌, ◌++◌, length, inr, cond, sym, ap, ◌∙◌, subst, [], List}
use Rattle.std.specs.Prelude.{IfOk, Result, Ok, Err}
use Rattle.std.proofs.lemmas.Result.{IfOk-weaker}
use Rattle.rn_text.specs.Texts.{Text, text_cmp}
use Rattle.rn_pattern.specs.Canonical.{sorted_once}
use Rattle.rn_assemble.specs.ShortTexts.{IsTable, ShortTexts, module_uris, short_list, special_uris}
use Rattle.rn_assemble.specs.inside.Covered.{AreCovered}
use Rattle.rn_assemble.specs.inside.Views.{modules_view}
use Rattle.rn_assemble.proofs.Renaming.DeclaredTables.{declared_covered, declared_table}
use Rattle.rn_assemble.proofs.Renaming.ShortTables.{empty_table}
use Rattle.rn_assemble.proofs.shortening.short_uris_of.Goals as goal

pub returns-then-not-have_long_uri-clause-texts : goal.returns-then-not-have_long_uri-clause-texts
returns-then-not-have_long_uri-clause-texts c =
    let ms = modules_view c.args.modules.now in
    c.none.ensures ∙ ap (λ b. cond b (short_list 0 (sorted_once text_cmp (special_uris ++ module_uris ms))) []) c.if-not-have_long_uri.ensures

pub returns-then-not-have_long_uri-clause-table : goal.returns-then-not-have_long_uri-clause-table
returns-then-not-have_long_uri-clause-table c = subst IsTable (sym c.none.ensures) empty_table

-- the texts are those of all URIs that are gathered
texts_are : {s : ShortTexts} {ks us : List Text} → s ≡ short_list 0 ks → ks ≡ us → s ≡ short_list 0 us
texts_are e g = e ∙ ap (short_list 0) g

both_ok : {A E : Type 0} (r : Result A E) {P Q R : A → Type 0} → ((x : A) → P x → Q x → R x) → IfOk r P → IfOk r Q → IfOk r R
both_ok (Ok x) f p q = f x p q
both_ok (Err e) f p q = tt

pub returns-clause-table : goal.returns-clause-table
returns-clause-table c =
    let ms = modules_view c.args.modules.now in
    both_ok c.of.result
    (λ s e few. let is = texts_are e c.in_ok-literal_uris.ensures in subst IsTable (sym is) (declared_table ms (subst (λ es. length es < 2 ^ 64) is few)))
    c.of.ensures.texts c.of.ensures.few

pub returns-clause-covered : goal.returns-clause-covered
returns-clause-covered c =
    let ms = modules_view c.args.modules.now in
    IfOk-weaker c.of.result _ _
    (λ s e. inr (subst (λ (es : ShortTexts). AreCovered es ms) (sym (texts_are e c.in_ok-literal_uris.ensures)) (declared_covered ms)))
    c.of.ensures.texts
