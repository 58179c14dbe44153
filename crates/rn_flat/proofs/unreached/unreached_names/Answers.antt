use Rattle.std.proofs.Common.{◌≡◌, IfOk, length, map, string_bytes, sym, ap, subst, ◌∙◌}
use Rattle.rn_assemble.specs.GrammarView.{definitions_view, grammar_view}
use Rattle.rn_flat.specs.UnreachedNames.{names_of_definitions, unmarked}
use Rattle.rn_flat.proofs.ReachedMarks.{as_unreached}
use Rattle.rn_flat.proofs.unreached.unreached_names.Goals as goal

pub unmarked_names-requires : goal.unmarked_names-requires
unmarked_names-requires c = ap length c.as_slice.ensures.value ∙ c.in_ok-reached.ensures.size ∙ sym (ap length c.defs-defs.ensures)

pub returns : goal.returns
returns c =
    let names = names_of_definitions (definitions_view c.defs-defs.result.now.entries) in
    as_unreached c.unmarked_names.result (λ v. map string_bytes v.items) (grammar_view c.args.grammar.now) c.in_ok-reached.reached.items names c.in_ok-reached.ensures (ap names_of_definitions c.defs-defs.ensures)
    (subst (λ ms. IfOk c.unmarked_names.result (λ v. map string_bytes v.items ≡ unmarked ms names)) c.as_slice.ensures.value c.unmarked_names.ensures)
