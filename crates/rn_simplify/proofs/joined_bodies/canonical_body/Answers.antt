use Rattle.std.proofs.Common.{sym, ap, ◌∙◌, subst, IfOk}
use Rattle.rn_assemble.specs.Firsts.{AreFirsts}
use Rattle.rn_pattern.specs.Canonical.{canonical, canonical_all, choice_step, interleave_step}
use Rattle.rn_pattern.specs.Store.{StandsFor}
use Rattle.rn_pattern.specs.Tree.{Tree}
use Rattle.rn_pattern.specs.View.{pattern_view, shared_trees}
use Rattle.rn_pattern.proofs.Ordered.PatternKinds.{choice_seen, interleave_seen}
use Rattle.rn_simplify.specs.inside.FormKinds.{becomes}
use Rattle.rn_simplify.proofs.Simplified.Repeats.{choice_members, interleave_members}
use Rattle.rn_simplify.proofs.joined_bodies.canonical_body.Goals as goal

pub choice_form-requires : goal.choice_form-requires
choice_form-requires g c =
    subst (AreFirsts c.args.firsts.now) (choice_members c.args.body.now c.in-Choice.members c.deref.result.now c.deref.ensures.value c.in-Choice.is) c.requires

pub interleave_form-requires : goal.interleave_form-requires
interleave_form-requires g c =
    subst (AreFirsts c.args.firsts.now) (interleave_members c.args.body.now c.in-Interleave.members c.deref-in-Interleave.result.now c.deref-in-Interleave.ensures.value c.in-Interleave.is) c.requires

pub returns-in-Choice-clause-made : goal.returns-in-Choice-clause-made
returns-in-Choice-clause-made g c =
    let s = becomes c.args.settled.now in
    let new = c.choice_form.new.store in
    subst (λ (u : Tree). IfOk c.choice_form.result (StandsFor (g.P.Patterns.knows new) (g.P.Patterns.tree_of new) u))
    (ap (λ xs. choice_step (canonical_all s (shared_trees xs))) c.deref.ensures.value
    ∙ sym (ap (λ p. canonical s (pattern_view p)) c.in-Choice.is ∙ ap (canonical s) (choice_seen c.in-Choice.members)))
    c.choice_form.ensures.made

pub returns-in-Interleave-clause-made : goal.returns-in-Interleave-clause-made
returns-in-Interleave-clause-made g c =
    let s = becomes c.args.settled.now in
    let new = c.interleave_form.new.store in
    subst (λ (u : Tree). IfOk c.interleave_form.result (StandsFor (g.P.Patterns.knows new) (g.P.Patterns.tree_of new) u))
    (ap (λ xs. interleave_step (canonical_all s (shared_trees xs))) c.deref-in-Interleave.ensures.value
    ∙ sym (ap (λ p. canonical s (pattern_view p)) c.in-Interleave.is ∙ ap (canonical s) (interleave_seen c.in-Interleave.members)))
    c.interleave_form.ensures.made
