use Rattle.std.proofs.Common.{List, subst, sym, ap, ◌∙◌}
use Rattle.std.specs.List.{AllByRecursion}
use Rattle.rn_assemble.specs.declared.reading.named_modules.NamedModule as code_module
use Rattle.rn_assemble.specs.Components.{NamedModule}
use Rattle.rn_assemble.specs.GrammarView.{grammar_view}
use Rattle.rn_assemble.specs.Refused.{IsFirstRefusal}
use Rattle.rn_assemble.specs.ShortTexts.{long_uri, short_texts, short_texts_of}
use Rattle.rn_assemble.specs.inside.Contained.{AreFlat}
use Rattle.rn_assemble.specs.inside.Views.{modules_view}
use Rattle.rn_assemble.proofs.Answering.SetRefusal.{first_of_modules, set_kept}
use Rattle.rn_assemble.proofs.Answering.ShortenedSets.{first_before, flat_before, kept_before, short_in_order, shortened_of}
use Rattle.rn_assemble.proofs.Answering.RefusedResults.{refused_at}
use Rattle.rn_assemble.proofs.WellFormed.FlatModules.{modules_flat}
use Rattle.rn_assemble.proofs.assembly.assemble_short.Goals as goal

pub join_modules-requires-clause-in_order : goal.join_modules-requires-clause-in_order
join_modules-requires-clause-in_order c =
    let long = long_uri (short_texts c.in_ok-uris.uris) in
    short_in_order long c.in_ok-modules.modules.items c.in_ok-modules-2.modules.items c.in_ok-modules-2.ensures.modules c.in_ok-modules.ensures.in_order

pub join_modules-requires-clause-flat : goal.join_modules-requires-clause-flat
join_modules-requires-clause-flat c =
    let long = long_uri (short_texts c.in_ok-uris.uris) in
    let flat = modules_flat c.args.set.now (modules_view c.in_ok-modules.modules.items) c.in_ok-modules.ensures.ok in
    flat_before long (modules_view c.in_ok-modules-2.modules.items) (subst (AllByRecursion (λ (m : NamedModule). AreFlat m.tree.items)) (sym c.in_ok-modules-2.ensures.modules) flat)

pub join_modules-requires-clause-kept : goal.join_modules-requires-clause-kept
join_modules-requires-clause-kept c =
    let es = short_texts c.in_ok-uris.uris in
    let ms = modules_view c.in_ok-modules.modules.items in
    let short = modules_view c.in_ok-modules-2.modules.items in
    kept_before es c.in_ok-uris.ensures.table ms short c.in_ok-modules-2.ensures.modules c.in_ok-modules-2.ensures.known (set_kept c.args.set.now ms c.in_ok-modules.ensures.ok)

pub returns-in_err-grammar : goal.returns-in_err-grammar
returns-in_err-grammar c =
    let s = c.args.set.now in
    let es = short_texts c.in_ok-uris.uris in
    let ms = modules_view c.in_ok-modules.modules.items in
    let short = modules_view c.in_ok-modules-2.modules.items in
    let q = c.in_err-grammar.field-0.0 in
    refused_at _ (IsFirstRefusal s) c.from_residual-in_err-grammar.result q c.from_residual-in_err-grammar.ensures.1
    (first_of_modules s ms c.in_ok-modules.ensures.ok q (first_before es c.in_ok-uris.ensures.table ms short c.in_ok-modules-2.ensures.modules c.in_ok-modules-2.ensures.known q c.in_err-grammar.ensures))

pub returns : goal.returns
returns c =
    let es = short_texts c.in_ok-uris.uris in
    let ms = modules_view c.in_ok-modules.modules.items in
    let short = modules_view c.in_ok-modules-2.modules.items in
    let texts = c.in_ok-uris.ensures.texts ∙ ap (λ (xs : List code_module.NamedModule). short_texts_of (modules_view xs)) c.as_slice.ensures.value in
    shortened_of es c.in_ok-uris.ensures.table ms short c.in_ok-modules-2.ensures.modules c.in_ok-modules-2.ensures.known texts c.args.set.now c.in_ok-modules.ensures.ok (grammar_view c.in_ok-grammar.grammar) c.in_ok-grammar.ensures
