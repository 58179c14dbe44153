use Rattle.std.proofs.Common.{length, sym, ap, ◌∙◌, subst, get_or, set, arith}
use Rattle.rn_assemble.specs.Firsts.{AreFirsts, joined_members}
use Rattle.rn_assemble.specs.GrammarView.{definitions_view}
use Rattle.rn_simplify.specs.inside.FormKinds.{tree_kind, kind_at}
use Rattle.rn_simplify.proofs.Simplified.FormKinds.{evaluated_is}
use Rattle.rn_simplify.proofs.Simplified.DefinitionNumbers.{size_of_view}
use Rattle.rn_simplify.proofs.Simplified.ReferenceGraph.{nothing}
use Rattle.rn_simplify.proofs.evaluation.settle_definition.Goals as goal

pub evaluate_body-requires : goal.evaluate_body-requires
evaluate_body-requires c =
    let n = c.args.id.0 in
    subst (λ p. AreFirsts c.firsts.result.now (joined_members p)) (sym (c.body_of-body.ensures nothing ∙ ap (λ ds. (get_or ds n nothing).1) c.requires.of))
    (c.firsts.ensures nothing (omega (arith, c.requires.within, ap length c.requires.of, size_of_view c.args.settled.now.definitions.now.entries)))

pub returns-clause-settled : goal.returns-clause-settled
returns-clause-settled c = λ d.
    let ds = definitions_view c.args.settled.now.definitions.now.entries in
    let kinds = c.args.settled.now.kinds.items in
    c.set.ensures.kinds ∙ ap (set kinds c.args.id.0) (c.in_ok-kind.ensures ∙ ap (tree_kind (kind_at ds kinds)) (c.body_of-body.ensures d) ∙ sym (evaluated_is (kind_at ds kinds) (get_or ds c.args.id.0 d).1))
