use Rattle.std.proofs.Common.{◌<◌, length, get_or, ap, sym, ◌∙◌, rules}
use Rattle.std.specs.Option.{option_map_or}
use Rattle.std.proofs.lemmas.List.{get_or_default}
use Rattle.rn_simplify.specs.declared.form_kind.FormKind.{FormKind}
use Rattle.rn_simplify.proofs.Simplified.DefinitionNumbers.{number_is}
use Rattle.rn_simplify.proofs.settled_definitions.SettledDefinitions.kind_of.Goals as goal

pub returns-in-Some : goal.returns-in-Some
returns-in-Some c =
    let kinds = c.args.self.now.kinds.items in
    let es = c.args.self.now.definitions.now.entries in
    let within : c.in-Some.index < length kinds = search rules in
    c.index.ensures ∙ get_or_default kinds c.in-Some.index c.index.result.now FormKind.Other within
    ∙ ap (λ o. option_map_or (λ k. get_or kinds k FormKind.Other) o FormKind.Other) (sym c.in-Some.is ∙ c.get_index_of.ensures.index ∙ number_is es c.args.name.now)

pub returns-in-None : goal.returns-in-None
returns-in-None c =
    let es = c.args.self.now.definitions.now.entries in
    ap (λ o. option_map_or (λ k. get_or c.args.self.now.kinds.items k FormKind.Other) o FormKind.Other) (sym c.in-None.is ∙ c.get_index_of.ensures.index ∙ number_is es c.args.name.now)
