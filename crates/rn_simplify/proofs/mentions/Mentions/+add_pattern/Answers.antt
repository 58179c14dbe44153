use Rattle.std.proofs.Common.{◌≡◌, ◌∷◌, [], ◌++◌, ◌+◌, map, take, sym, ap, ◌∙◌, subst}
use Rattle.std.specs.Prelude.{OnOk}
use Rattle.std.proofs.lemmas.List.{take_more, map-append}
use Rattle.std.specs.Rc.{rc_str_bytes}
use Rattle.rn_pattern.specs.Tree.{trees_of}
use Rattle.rn_pattern.specs.declared.tree.Data.{Data}
use Rattle.rn_pattern.specs.View.{name_class_view, pattern_view, shared_view, shared_trees}
use Rattle.rn_simplify.specs.inside.Gathers.{Gathers, mentioned_by_both, by_library, by_name, by_tree, by_trees}
use Rattle.rn_simplify.proofs.Texts.GatheredTexts.{gathers_unless, gathers_one_tree, in_list, named, with_library}
use Rattle.rn_simplify.proofs.mentions.Mentions.+add_pattern.Goals as goal

pub add_pattern-returns-in-Some : goal.add_pattern-returns-in-Some
add_pattern-returns-in-Some t c =
    let d = c.in-Datum.«data» in
    let l = c.deref-in-Datum-2.result.now in
    let p = c.deref-in-Some.result.now in
    let r = c.add_pattern.result in
    let z = c.add_pattern.new.self in
    let library : l ≡ rc_str_bytes d.value.library = c.deref-in-Datum-2.ensures.value ∙ ap (λ (x : Data). rc_str_bytes x.library) c.deref-in-Datum.ensures in
    let e = with_library c.args.pattern.now d c.in-Datum.except c.in-Some.except c.in-Datum.is c.in-Some.is ∙ sym (λ i. mentioned_by_both (by_library (library i)) (by_tree (pattern_view (c.deref-in-Some.ensures i)))) in
    subst (λ m. OnOk r (Gathers m c.args.self.now z)) (sym e)
    (gathers_unless r (by_library l) (by_tree (pattern_view p)) z c.in_ok-add_library-in-Datum.ensures c.add_pattern.ensures)

pub add_pattern-returns-in-Group : goal.add_pattern-returns-in-Group
add_pattern-returns-in-Group t c =
    let e = in_list c.args.pattern.now c.in-Group.members c.in-Group.is ∙ ap (λ ps. by_trees (shared_trees ps)) (sym c.deref-in-Group.ensures.value) in
    subst (λ m. OnOk c.add_patterns.result (Gathers m c.args.self.now c.add_patterns.new.self)) (sym e) c.add_patterns.ensures

pub add_pattern-returns-in_ok-add_class-in-Attribute : goal.add_pattern-returns-in_ok-add_class-in-Attribute
add_pattern-returns-in_ok-add_class-in-Attribute t c =
    let n = c.deref-in-Attribute.result.now.class in
    let p = c.deref-in-Attribute-2.result.now.content in
    let r = c.add_pattern-in-Attribute.result in
    let z = c.add_pattern-in-Attribute.new.self in
    let e = named c.args.pattern.now c.in-Attribute.named c.in-Attribute.is
    ∙ sym (λ i. mentioned_by_both (by_name (name_class_view (c.deref-in-Attribute.ensures i).class)) (by_tree (pattern_view (c.deref-in-Attribute-2.ensures i).content))) in
    subst (λ m. OnOk r (Gathers m c.args.self.now z)) (sym e)
    (gathers_unless r (by_name (name_class_view n)) (by_tree (pattern_view p)) z c.in_ok-add_class-in-Attribute.ensures c.add_pattern-in-Attribute.ensures)

pub add_patterns-loop-member-preserved : goal.add_patterns-loop-member-preserved
add_patterns-loop-member-preserved t c =
    let xs = c.args.members.now in
    let i = c.loop-member.member-index in
    let x = c.member-item.result in
    let p = c.deref.result.now in
    let e : take (i + 1) xs ≡ take i xs ++ x ∷ [] = take_more xs i x c.loop-member-test.true ∙ ap (λ y. take i xs ++ y ∷ []) (sym c.member-item.is) in
    let v : map shared_view (take (i + 1) xs) ≡ map shared_view (take i xs) ++ pattern_view p ∷ [] =
    ap (map shared_view) e ∙ map-append shared_view (take i xs) (x ∷ []) ∙ ap (λ y. map shared_view (take i xs) ++ pattern_view y ∷ []) (sym c.deref.ensures) in
    subst (λ ps. Gathers (by_trees (trees_of ps)) c.args.self.now c.add_pattern.new.self) (sym v)
    (gathers_one_tree (map shared_view (take i xs)) (pattern_view p) c.loop-member.invariant c.in_ok-add_pattern.ensures)
