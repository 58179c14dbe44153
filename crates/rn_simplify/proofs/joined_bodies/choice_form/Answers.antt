use Rattle.std.proofs.Common.{map, ap, ◌∙◌, subst, IfOk}
use Rattle.rn_pattern.specs.Canonical.{canonical_all, choice_step}
use Rattle.rn_pattern.specs.Store.{StandsFor}
use Rattle.rn_pattern.specs.Tree.{Tree}
use Rattle.rn_pattern.specs.View.{shared_view, shared_trees}
use Rattle.rn_simplify.specs.inside.FormKinds.{becomes}
use Rattle.rn_simplify.proofs.Simplified.Repeats.{choice_same}
use Rattle.rn_simplify.proofs.joined_bodies.choice_form.Goals as goal

pub returns-clause-made : goal.returns-clause-made
returns-clause-made g c =
    let s = becomes c.args.settled.now in
    let new = c.list_form.new.store in
    subst (λ (u : Tree). IfOk c.list_form.result (StandsFor (g.P.Patterns.knows new) (g.P.Patterns.tree_of new) u))
    (ap (λ xs. choice_step (canonical_all s (shared_trees xs))) c.deref.ensures.value
    ∙ choice_same s (map shared_view c.in_ok-members.members.items) (map shared_view c.args.members.now) c.in_ok-members.ensures)
    c.list_form.ensures.made
