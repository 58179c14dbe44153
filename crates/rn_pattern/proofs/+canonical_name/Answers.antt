-- A name class rebuilt from the canonical forms of its parts.
use Rattle.std.proofs.Common.{◌≡◌, IfOk, [], ◌∷◌, ◌++◌, map, sym, ap, subst, ◌∙◌, arith}
use Rattle.std.proofs.lemmas.List.{append-nil, map-append, take_all}
use Rattle.rn_pattern.specs.Tree as tree
use Rattle.rn_pattern.specs.Canonical.{canonical_name, name_class_of, sorted_once}
use Rattle.rn_pattern.specs.inside.NameParts.{name_parts, name_parts_of}
use Rattle.rn_pattern.specs.Order.{name_cmp}
use Rattle.rn_pattern.specs.Tree.{name_trees_of}
use Rattle.rn_pattern.specs.View.{name_class_view}
use Rattle.rn_pattern.specs.declared.tree.NameClass.TheViews as class
use Rattle.rn_pattern.proofs.CanonicalForms.NamesTogether.{lone_part, parts_more, parts_together}
use Rattle.rn_pattern.proofs.Stores.ClassTrees.{any_name_but_seen, choice_seen, ns_name_but_seen}
use Rattle.rn_pattern.proofs.+canonical_name.Goals as goal
use Rattle.rn_pattern.proofs.+canonical_name.Goals.{name_class::push_parts-in-Choice+in_ok-push_parts-in-Choice, name_class::push_parts-in_default+in_ok-canonical-in_default+in_ok-push-in_default}

pub name_class::push_parts-returns : goal.name_class::push_parts-returns
name_class::push_parts-returns t c =
    c.loop-member.invariant
    ∙ ap (λ cs. map name_class_view c.args.parts.now.items ++ name_parts (name_trees_of (map name_class_view cs))) (take_all c.loop-member.member-index c.args.members.now (omega arith))

pub tree::NameClass::canonical-returns-in_ok-new-in-Some : goal.tree::NameClass::canonical-returns-in_ok-new-in-Some
tree::NameClass::canonical-returns-in_ok-new-in-Some t c =
    any_name_but_seen c.in_ok-new-in-Some.field-0
    ∙ ap tree.any_name_but (ap name_class_view c.in_ok-new-in-Some.ensures.ok ∙ c.in_ok-except-in-Some.ensures ∙ ap (λ n. canonical_name (name_class_view n)) c.deref.ensures)
    ∙ sym (ap (λ n. canonical_name (name_class_view n)) (c.in-AnyName.is ∙ ap class.AnyName c.in-Some.is) ∙ ap canonical_name (any_name_but_seen c.in-Some.except))

pub tree::NameClass::canonical-returns-in_ok-new-in-Some-except : goal.tree::NameClass::canonical-returns-in_ok-new-in-Some-except
tree::NameClass::canonical-returns-in_ok-new-in-Some-except t c =
    let inner = ap name_class_view c.in_ok-new-in-Some-except.ensures.ok ∙ c.in_ok-except-in-Some-except.ensures ∙ ap (λ n. canonical_name (name_class_view n)) c.deref-in-Some-except.ensures in
    ns_name_but_seen c.in_ok-clone-in-Some-except.field-0 c.in_ok-new-in-Some-except.field-0
    ∙ (λ i. tree.ns_name_but (c.in_ok-clone-in-Some-except.ensures.cases i) (inner i))
    ∙ sym (ap (λ n. canonical_name (name_class_view n)) (c.in-NsName.is ∙ ap (class.NsName c.in-NsName.uri) c.in-Some-except.is) ∙ ap canonical_name (ns_name_but_seen c.in-NsName.uri c.in-Some-except.except))

pub name_class::push_parts-loop-member-preserved : goal.name_class::push_parts-loop-member-preserved
name_class::push_parts-loop-member-preserved t c =
    let r = c.member-item.result in
    let now = map name_class_view c.loop-member.parts.items in
    let after : map name_class_view c.match-member.parts.items ≡ now ++ name_parts_of (name_class_view r) =
    elim c.match-member.branch [
      | name_class::push_parts-in-Choice+in_ok-push_parts-in-Choice w ↦
          ap (λ p. map name_class_view p.items) w.parts-is ∙ w.in_ok-push_parts-in-Choice.ensures
          ∙ ap (λ xs. now ++ xs) (ap (λ cs. name_parts (name_trees_of (map name_class_view cs))) w.deref.ensures.value
          ∙ sym (ap (λ k. name_parts_of (name_class_view k)) w.in-Choice.is ∙ ap name_parts_of (choice_seen w.in-Choice.within)))
      | name_class::push_parts-in_default+in_ok-canonical-in_default+in_ok-push-in_default w ↦
          ap (λ p. map name_class_view p.items) w.parts-is ∙ ap (map name_class_view) w.in_ok-push-in_default.ensures.items
          ∙ map-append name_class_view c.loop-member.parts.items (w.in_ok-canonical-in_default.field-0 ∷ [])
          ∙ ap (λ xs. now ++ xs) (ap (λ n. n ∷ []) w.in_ok-canonical-in_default.ensures ∙ sym (lone_part r w.in_default.not-Choice))
    ] in
    parts_more c.args.members.now c.loop-member.member-index r (map name_class_view c.args.parts.now.items) now (map name_class_view c.match-member.parts.items)
    c.loop-member-test.true c.member-item.is c.loop-member.invariant after

pub name_class::push_parts-loop-member-init : goal.name_class::push_parts-loop-member-init
name_class::push_parts-loop-member-init t c = sym (append-nil (map name_class_view c.args.parts.now.items))

pub tree::NameClass::canonical-returns-in_ok-push_parts-in-Choice : goal.tree::NameClass::canonical-returns-in_ok-push_parts-in-Choice
tree::NameClass::canonical-returns-in_ok-push_parts-in-Choice t c =
    let members = c.in-Choice.members in
    let pushed : map name_class_view c.push_parts.new.parts.items ≡ name_parts (name_trees_of (map name_class_view members.items)) =
    c.in_ok-push_parts-in-Choice.ensures ∙ (λ i. map name_class_view (c.new-parts.ensures.items i) ++ name_parts (name_trees_of (map name_class_view (c.deref-in-Choice.ensures.value i)))) in
    let seen : canonical_name (name_class_view c.args.self.now) ≡ canonical_name (tree.name_choice (name_trees_of (map name_class_view members.items))) =
    ap (λ k. canonical_name (name_class_view k)) c.in-Choice.is ∙ ap canonical_name (choice_seen members) in
    subst (λ n. IfOk c.choice_of.result (λ k. name_class_view k ≡ n))
    (ap (λ xs. name_class_of (sorted_once name_cmp xs)) pushed ∙ ap name_class_of (parts_together (name_trees_of (map name_class_view members.items))) ∙ sym seen)
    c.choice_of.ensures
