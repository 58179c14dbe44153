use Rattle.std.proofs.Common.{rules, ◌≡◌, ◌∷◌, [], ◌++◌, ◌+◌, map, take, sym, ap, ◌∙◌, subst}
use Rattle.std.specs.Prelude.{OnOk}
use Rattle.std.proofs.lemmas.List.{take_more, take_all, map-append}
use Rattle.rn_pattern.specs.Tree.{NameTree, ns_name_but, name_trees_of}
use Rattle.rn_pattern.specs.declared.tree.NameClass.TheFolds.{fold_out-NameClass, fold-roll-NameClass}
use Rattle.rn_pattern.specs.declared.tree.NameClass.TheViews.{the_lemmas}
use Rattle.rn_pattern.specs.View.{name_class_view, name_class_step}
use Rattle.rn_simplify.specs.inside.Gathers.{Gathers, by_ns_name, by_name, by_names}
use Rattle.rn_simplify.proofs.Texts.GatheredTexts.{gathers_nothing, gathers_unless, gathers_one_name}
use Rattle.rn_simplify.proofs.mentions.Mentions.+add_class.Goals as goal

pub add_class-returns-in_ok-add_ns_name-in-NsName-default-Some : goal.add_class-returns-in_ok-add_ns_name-in-NsName-default-Some
add_class-returns-in_ok-add_ns_name-in-NsName-default-Some t c =
    let u = c.deref-in-NsName-default-Some.result.now in
    let n = name_class_view c.deref-in-NsName-default-Some-2.result.now in
    let r = c.add_class-in-NsName-default-Some.result in
    let e : name_class_view c.args.class.now ≡ ns_name_but u n = search (rules, the_lemmas, fold_out-NameClass NameTree name_class_step, fold-roll-NameClass NameTree name_class_step) in
    subst (λ m. OnOk r (Gathers (by_name m) c.args.self.now c.add_class-in-NsName-default-Some.new.self)) (sym e)
    (gathers_unless r (by_ns_name u) (by_name n) c.add_class-in-NsName-default-Some.new.self c.in_ok-add_ns_name-in-NsName-default-Some.ensures c.add_class-in-NsName-default-Some.ensures)

pub add_classes-loop-member-init : goal.add_classes-loop-member-init
add_classes-loop-member-init t c = gathers_nothing c.args.self.now

pub add_classes-loop-member-preserved : goal.add_classes-loop-member-preserved
add_classes-loop-member-preserved t c =
    let xs = c.args.members.now in
    let i = c.loop-member.member-index in
    let x = c.member-item.result in
    let e : take (i + 1) xs ≡ take i xs ++ x ∷ [] = take_more xs i x c.loop-member-test.true ∙ ap (λ y. take i xs ++ y ∷ []) (sym c.member-item.is) in
    let v : map name_class_view (take (i + 1) xs) ≡ map name_class_view (take i xs) ++ name_class_view x ∷ [] = ap (map name_class_view) e ∙ map-append name_class_view (take i xs) (x ∷ []) in
    subst (λ cs. Gathers (by_names (name_trees_of cs)) c.args.self.now c.add_class.new.self) (sym v)
    (gathers_one_name (map name_class_view (take i xs)) (name_class_view x) c.loop-member.invariant c.in_ok-add_class.ensures)

pub add_classes-returns : goal.add_classes-returns
add_classes-returns t c =
    subst (λ cs. Gathers (by_names (name_trees_of (map name_class_view cs))) c.args.self.now c.loop-member.self) (take_all c.loop-member.member-index c.args.members.now c.loop-member-test.false) c.loop-member.invariant
