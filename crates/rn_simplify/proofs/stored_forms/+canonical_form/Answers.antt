use Rattle.std.proofs.Common.{◌≡◌, List, [], ◌∷◌, ◌++◌, IfOk, OnOk, Some, map, refl, sym, ap, subst, ◌∙◌}
use Rattle.std.specs.Option.{option_map}
use Rattle.std.proofs.lemmas.List.{append-nil, map-append}
use Rattle.rn_assemble.specs.GrammarView.{definitions_view}
use Rattle.rn_pattern.specs.Canonical.{canonical, canonical_all, choice_step, group_step, interleave_step}
use Rattle.rn_pattern.specs.Store.{StandsFor}
use Rattle.rn_pattern.specs.Tree.{Tree}
use Rattle.rn_pattern.specs.View.{pattern_view, shared_trees}
use Rattle.rn_pattern.proofs.Ordered.PatternKinds.{group_seen, interleave_seen, choice_seen}
use Rattle.rn_simplify.specs.inside.ListParts.{members_step, parts, parts_of}
use Rattle.rn_simplify.specs.inside.FormKinds.{becomes, becomes_by, settled_form}
use Rattle.rn_simplify.proofs.Simplified.Contents.{content_seen, named_content_seen}
use Rattle.rn_simplify.proofs.Simplified.FormKinds.{settled_canonical}
use Rattle.rn_simplify.proofs.Simplified.StoreIds.{keeps_then, then_kept, trees_still}
use Rattle.rn_simplify.proofs.Simplified.ListParts.{choice_parts, group_parts, interleave_parts, parts_more, parts_same}
use Rattle.rn_simplify.proofs.stored_forms.+canonical_form.Goals as goal

-- ---- the patterns over patterns

pub canonical_form-returns-in_ok-content-in-List-clause-kept : goal.canonical_form-returns-in_ok-content-in-List-clause-kept
canonical_form-returns-in_ok-content-in-List-clause-kept g t c =
    then_kept g.P.Patterns.knows g.P.Patterns.tree_of c.args.store.now c.canonical_form-in-List.new.store c.form_over_content-in-List.new.store c.canonical_form-in-List.ensures.kept c.form_over_content-in-List.ensures.kept

pub canonical_form-returns-in_ok-content-in-List-clause-made : goal.canonical_form-returns-in_ok-content-in-List-clause-made
canonical_form-returns-in_ok-content-in-List-clause-made g t c =
    let s = becomes c.args.settled.now in
    c.form_over_content-in-List.ensures.made s
    (ap (option_map (canonical s)) (content_seen c.args.pattern.now c.in-List.content c.in-List.is)
    ∙ ap Some (ap (λ p. canonical s (pattern_view p)) (sym c.deref-in-List.ensures) ∙ sym c.in_ok-content-in-List.ensures.made.1))

pub canonical_form-returns-in_ok-content-in-Attribute-clause-kept : goal.canonical_form-returns-in_ok-content-in-Attribute-clause-kept
canonical_form-returns-in_ok-content-in-Attribute-clause-kept g t c =
    then_kept g.P.Patterns.knows g.P.Patterns.tree_of c.args.store.now c.canonical_form-in-Attribute.new.store c.form_over_content.new.store c.canonical_form-in-Attribute.ensures.kept c.form_over_content.ensures.kept

pub canonical_form-returns-in_ok-content-in-Attribute-clause-made : goal.canonical_form-returns-in_ok-content-in-Attribute-clause-made
canonical_form-returns-in_ok-content-in-Attribute-clause-made g t c =
    let s = becomes c.args.settled.now in
    c.form_over_content.ensures.made s
    (ap (option_map (canonical s)) (named_content_seen c.args.pattern.now c.in-Attribute.named c.in-Attribute.is)
    ∙ ap Some (ap (λ n. canonical s (pattern_view n.content)) (sym c.deref-in-Attribute.ensures) ∙ sym c.in_ok-content-in-Attribute.ensures.made.1))

pub canonical_form-returns-in-Group-clause-made : goal.canonical_form-returns-in-Group-clause-made
canonical_form-returns-in-Group-clause-made g t c =
    let s = becomes c.args.settled.now in
    let new = c.list_form.new.store in
    subst (λ (u : Tree). IfOk c.list_form.result (StandsFor (g.P.Patterns.knows new) (g.P.Patterns.tree_of new) u))
    (ap (λ xs. group_step (canonical_all s (shared_trees xs))) c.deref-in-Group.ensures.value
    ∙ sym (ap (λ p. canonical s (pattern_view p)) c.in-Group.is ∙ ap (canonical s) (group_seen c.in-Group.members)))
    c.list_form.ensures.made

pub canonical_form-returns-in-Interleave-clause-made : goal.canonical_form-returns-in-Interleave-clause-made
canonical_form-returns-in-Interleave-clause-made g t c =
    let s = becomes c.args.settled.now in
    let new = c.list_form-in-Interleave.new.store in
    subst (λ (u : Tree). IfOk c.list_form-in-Interleave.result (StandsFor (g.P.Patterns.knows new) (g.P.Patterns.tree_of new) u))
    (ap (λ xs. interleave_step (canonical_all s (shared_trees xs))) c.deref-in-Interleave.ensures.value
    ∙ sym (ap (λ p. canonical s (pattern_view p)) c.in-Interleave.is ∙ ap (canonical s) (interleave_seen c.in-Interleave.members)))
    c.list_form-in-Interleave.ensures.made

pub canonical_form-returns-in-Choice-clause-made : goal.canonical_form-returns-in-Choice-clause-made
canonical_form-returns-in-Choice-clause-made g t c =
    let s = becomes c.args.settled.now in
    let new = c.list_form-in-Choice.new.store in
    subst (λ (u : Tree). IfOk c.list_form-in-Choice.result (StandsFor (g.P.Patterns.knows new) (g.P.Patterns.tree_of new) u))
    (ap (λ xs. choice_step (canonical_all s (shared_trees xs))) c.deref-in-Choice.ensures.value
    ∙ sym (ap (λ p. canonical s (pattern_view p)) c.in-Choice.is ∙ ap (canonical s) (choice_seen c.in-Choice.members)))
    c.list_form-in-Choice.ensures.made

-- ---- lists

pub list_form-returns-clause-made : goal.list_form-returns-clause-made
list_form-returns-clause-made g t c =
    let ds = definitions_view c.args.settled.now.definitions.now.entries in
    let kinds = c.args.settled.now.kinds.items in
    let s = becomes_by ds kinds in
    let kind = c.args.kind in
    let ps = shared_trees c.args.members.now in
    let at = g.P.Patterns.tree_of c.push_parts.new.store in
    let new = c.form_over.new.store in
    let parts_are : map at c.deref.result.now ≡ map (canonical s) (parts kind ps) =
    ap (map at) c.deref.ensures.value ∙ c.in_ok-push_parts.ensures.made
    ∙ ap (λ is. map (g.P.Patterns.tree_of c.args.store.now) is ++ map (canonical s) (parts kind ps)) c.in_ok-ids.ensures.items in
    subst (λ (u : Tree). IfOk c.form_over.result (StandsFor (g.P.Patterns.knows new) (g.P.Patterns.tree_of new) u))
    (ap (members_step kind) parts_are ∙ parts_same s (settled_canonical ds kinds) kind ps)
    c.form_over.ensures.made

pub list_form-returns-clause-kept : goal.list_form-returns-clause-kept
list_form-returns-clause-kept g t c =
    then_kept g.P.Patterns.knows g.P.Patterns.tree_of c.args.store.now c.push_parts.new.store c.form_over.new.store c.push_parts.ensures.kept c.form_over.ensures.kept

pub push_parts-loop-member-init : goal.push_parts-loop-member-init
push_parts-loop-member-init g t c = record {
  kept = λ i h. (h, refl);
  known = c.requires;
  made = sym (append-nil (map (g.P.Patterns.tree_of c.args.store.now) c.args.ids.now.items));
}

pub push_parts-loop-member-preserved : goal.push_parts-loop-member-preserved
push_parts-loop-member-preserved g t c =
    let k = g.P.Patterns.knows in
    let r = g.P.Patterns.tree_of in
    let a = c.args.store.now in
    let old = c.loop-member.store in
    let new = c.push_part.new.store in
    let inv = c.loop-member.invariant in
    let f = settled_form c.args.settled.now in
    let now = map (r old) c.loop-member.ids.items in
    record {
      kept = keeps_then (k a) (k old) (k new) (r a) (r old) (r new) inv.kept c.push_part.ensures.kept;
      known = c.in_ok-push_part.ensures.known;
      made = parts_more f c.args.kind c.args.members.now c.loop-member.member-index c.member-item.result (map (r a) c.args.ids.now.items) now (map (r new) c.push_part.new.ids.items)
          c.loop-member-test.true c.member-item.is inv.made (c.in_ok-push_part.ensures.made ∙ ap (λ p. now ++ map f (parts_of c.args.kind (pattern_view p))) c.deref.ensures);
    }

pub push_part-returns-in-Group-pattern-clause-made : goal.push_part-returns-in-Group-pattern-clause-made
push_part-returns-in-Group-pattern-clause-made g t c =
    let r = g.P.Patterns.tree_of in
    let f = settled_form c.args.settled.now in
    let new = c.push_parts.new in
    subst (λ (ps : List Tree). OnOk c.push_parts.result (map (r new.store) new.ids.items ≡ map (r c.args.store.now) c.args.ids.now.items ++ map f ps))
    (group_parts c.args.kind c.args.pattern.now c.in-Group-pattern.members c.deref.result.now c.deref.ensures.value c.in-Group.is c.in-Group-pattern.is)
    c.push_parts.ensures.made

pub push_part-returns-in-Interleave-pattern-clause-made : goal.push_part-returns-in-Interleave-pattern-clause-made
push_part-returns-in-Interleave-pattern-clause-made g t c =
    let r = g.P.Patterns.tree_of in
    let f = settled_form c.args.settled.now in
    let new = c.push_parts-in-Interleave-pattern.new in
    subst (λ (ps : List Tree). OnOk c.push_parts-in-Interleave-pattern.result (map (r new.store) new.ids.items ≡ map (r c.args.store.now) c.args.ids.now.items ++ map f ps))
    (interleave_parts c.args.kind c.args.pattern.now c.in-Interleave-pattern.members c.deref-in-Interleave-pattern.result.now c.deref-in-Interleave-pattern.ensures.value c.in-Interleave.is c.in-Interleave-pattern.is)
    c.push_parts-in-Interleave-pattern.ensures.made

pub push_part-returns-in-Choice-pattern-clause-made : goal.push_part-returns-in-Choice-pattern-clause-made
push_part-returns-in-Choice-pattern-clause-made g t c =
    let r = g.P.Patterns.tree_of in
    let f = settled_form c.args.settled.now in
    let new = c.push_parts-in-Choice-pattern.new in
    subst (λ (ps : List Tree). OnOk c.push_parts-in-Choice-pattern.result (map (r new.store) new.ids.items ≡ map (r c.args.store.now) c.args.ids.now.items ++ map f ps))
    (choice_parts c.args.kind c.args.pattern.now c.in-Choice-pattern.members c.deref-in-Choice-pattern.result.now c.deref-in-Choice-pattern.ensures.value c.in-Choice.is c.in-Choice-pattern.is)
    c.push_parts-in-Choice-pattern.ensures.made

pub push_whole-returns-clause-made : goal.push_whole-returns-clause-made
push_whole-returns-clause-made g t c =
    let k = g.P.Patterns.knows in
    let r = g.P.Patterns.tree_of in
    let old = c.args.store.now in
    let new = c.canonical_form.new.store in
    let ids = c.args.ids.now.items in
    ap (map (r new)) c.in_ok-push.ensures.items ∙ map-append (r new) ids (c.in_ok-id.id ∷ [])
    ∙ (λ i. trees_still (k old) (k new) (r old) (r new) c.canonical_form.ensures.kept ids c.requires i ++ c.in_ok-id.ensures.made.1 i ∷ [])
