use Rattle.std.proofs.Common.{◌<◌, length, map, sym, ap, ◌∙◌, subst, arith}
use Rattle.std.proofs.lemmas.List.{get_or-map}
use Rattle.std.proofs.lemmas.Result.{IfOk-weaker}
use Rattle.std.specs.Prelude.{IsTrue}
use Rattle.rn_pattern.specs.View.{pattern_view, shared_view}
use Rattle.rn_simplify.specs.inside.FormKinds.{settled_form}
use Rattle.rn_simplify.proofs.Simplified.Repeats.{first_stands, ids_size}
use Rattle.rn_simplify.proofs.joined_bodies.id_at.Goals as goal

pub returns-then-first-index-clause-made : goal.returns-then-first-index-clause-made
returns-then-first-index-clause-made g c = λ p.
    let at = g.P.Patterns.tree_of c.args.store.now in
    let f = settled_form c.args.settled.now in
    let ids = c.args.ids.now in
    let first = c.first_of-first.result in
    let id = c.index-ids-first.result in
    let there : first < length ids = omega (arith, ids_size at f ids c.args.members.now c.args.index c.requires.within c.requires.before) in (
      subst (λ i. IsTrue (g.P.Patterns.knows c.args.store.now i)) (sym c.index-ids-first.is) (c.requires.known first id there),
      first_stands at f ids c.args.members.now c.args.index c.requires.within c.requires.before first id p (omega arith) c.index-ids-first.is
          (λ q e. c.first_of-first.ensures (map shared_view c.args.members.now) q c.requires.firsts e),
    )

pub returns-else-first-index-clause-made : goal.returns-else-first-index-clause-made
returns-else-first-index-clause-made g c =
    let f = settled_form c.args.settled.now in
    let members = c.args.members.now in
    let r = c.index-members-index.result in
    IfOk-weaker c.canonical_form.result _ _
    (λ id h p. (h.0, h.1 ∙ ap f (ap pattern_view c.deref.ensures ∙ ap shared_view c.index-members-index.is ∙ sym (get_or-map shared_view members c.args.index r p c.requires.within))))
    c.canonical_form.ensures.made
