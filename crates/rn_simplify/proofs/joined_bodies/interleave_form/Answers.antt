use Rattle.std.proofs.Common.{map, sym, ap, ◌∙◌, subst, IfOk}
use Rattle.rn_pattern.specs.Canonical.{interleave_step}
use Rattle.rn_pattern.specs.Store.{StandsFor}
use Rattle.rn_pattern.specs.Tree.{Tree}
use Rattle.rn_pattern.specs.View.{shared_view}
use Rattle.rn_simplify.specs.inside.FormKinds.{becomes}
use Rattle.rn_simplify.proofs.Simplified.StoreIds.{then_kept}
use Rattle.rn_simplify.proofs.Simplified.Repeats.{all_canonical}
use Rattle.rn_simplify.proofs.joined_bodies.interleave_form.Goals as goal

pub returns-clause-made : goal.returns-clause-made
returns-clause-made g c =
    let s = becomes c.args.settled.now in
    let new = c.ileave.new.self in
    subst (λ (u : Tree). IfOk c.ileave.result (StandsFor (g.P.Patterns.knows new) (g.P.Patterns.tree_of new) u))
    (ap interleave_step (ap (map (g.P.Patterns.tree_of c.member_ids.new.store)) c.deref.ensures.value ∙ c.in_ok-ids.ensures.made ∙ sym (all_canonical s (map shared_view c.args.members.now))))
    c.ileave.ensures.made

pub returns-clause-kept : goal.returns-clause-kept
returns-clause-kept g c =
    then_kept g.P.Patterns.knows g.P.Patterns.tree_of c.args.store.now c.member_ids.new.store c.ileave.new.self c.member_ids.ensures.kept c.ileave.ensures.kept.0
