use Rattle.std.proofs.Common.{◌≡◌, ◌∷◌, [], ◌++◌, take, sym, ap, ◌∙◌, ◌+◌, subst, rules, arith}
use Rattle.std.specs.Prelude.{codes}
use Rattle.std.proofs.lemmas.List.{take_more, take_all}
use Rattle.rn_pattern.specs.declared.tree.NameClass.{NameClass}
use Rattle.rn_pattern.specs.declared.tree.NameClass.TheFolds.{fold_out-NameClass, fold-roll-NameClass}
use Rattle.rn_pattern.specs.declared.tree.NameClass.TheViews.{the_lemmas}
use Rattle.rn_pattern.specs.Tree.{NameTree, any_name, any_name_but, ns_name_but}
use Rattle.rn_simplify.specs.Spelling.{NodeText, written_name, infix_of, chain}
use Rattle.rn_pattern.specs.View.{name_class_view, name_class_step}
use Rattle.rn_simplify.specs.inside.Writes.{prefixes_view, Writes}
use Rattle.rn_simplify.proofs.Texts.Writing.{writes_nil, writes_as}
use Rattle.rn_simplify.proofs.Texts.PartTexts.{writes_bar, writes_any_but, writes_ns_but, writes_parenthesized, operand_chained}
use Rattle.rn_simplify.proofs.ReadBack.Chains.{row, before, class_rows, writes_row_more, before_none, before_some}
use Rattle.rn_simplify.proofs.Texts.NodeTexts.{writes_star}
use Rattle.rn_simplify.proofs.class_text.+name_class.Goals as goal
use Rattle.rn_simplify.proofs.class_text.+name_class.Goals.{write_class_choice-then-i-gt0, write_class_choice-else-i-gt0}

pub write_class-returns-in-AnyName-None : goal.write_class-returns-in-AnyName-None
write_class-returns-in-AnyName-None t c =
    let f = prefixes_view c.args.prefixes.now in
    let e : name_class_view c.args.class.now ≡ any_name = search (rules, the_lemmas, fold_out-NameClass NameTree name_class_step, fold-roll-NameClass NameTree name_class_step) in
    subst (λ m. Writes (written_name f m).pieces c.args.writer.now c.put.new.self) (sym e) (writes_star c.put.ensures)

pub write_class-returns-in-AnyName-Some : goal.write_class-returns-in-AnyName-Some
write_class-returns-in-AnyName-Some t c =
    let f = prefixes_view c.args.prefixes.now in
    let n = name_class_view c.deref.result.now in
    let e : name_class_view c.args.class.now ≡ any_name_but n = search (rules, the_lemmas, fold_out-NameClass NameTree name_class_step, fold-roll-NameClass NameTree name_class_step) in
    subst (λ m. Writes (written_name f m).pieces c.args.writer.now c.write_class_operand.new.writer) (sym e) (writes_any_but f n c.put-in-AnyName-Some.ensures c.write_class_operand.ensures)

pub write_class-returns-in-NsName-default-Some : goal.write_class-returns-in-NsName-default-Some
write_class-returns-in-NsName-default-Some t c =
    let f = prefixes_view c.args.prefixes.now in
    let u = c.deref-in-NsName-default-Some.result.now in
    let n = name_class_view c.deref-in-NsName-default-Some-2.result.now in
    let e : name_class_view c.args.class.now ≡ ns_name_but u n = search (rules, the_lemmas, fold_out-NameClass NameTree name_class_step, fold-roll-NameClass NameTree name_class_step) in
    subst (λ m. Writes (written_name f m).pieces c.args.writer.now c.write_class_operand-in-NsName-default-Some.new.writer) (sym e) (writes_ns_but f u n c.write_ns_name-in-NsName-default-Some.ensures c.put-in-NsName-default-Some.ensures c.write_class_operand-in-NsName-default-Some.ensures)

pub write_class_operand-returns-in-Chained : goal.write_class_operand-returns-in-Chained
write_class_operand-returns-in-Chained t c =
    let f = prefixes_view c.args.prefixes.now in
    let w = written_name f (name_class_view c.args.class.now) in
    writes_as (sym (operand_chained w (c.in-Chained.ensures f))) (writes_parenthesized w.pieces c.open_bracket.ensures c.write_class.ensures c.close_bracket.ensures)

pub write_class_choice-loop-i-init : goal.write_class_choice-loop-i-init
write_class_choice-loop-i-init t c = writes_nil c.args.writer.now

pub write_class_choice-loop-i-preserved : goal.write_class_choice-loop-i-preserved
write_class_choice-loop-i-preserved t c =
    let f = prefixes_view c.args.prefixes.now in
    let g : NameClass → NodeText = λ m. written_name f (name_class_view m) in
    let s = infix_of (codes "|") in
    let xs = c.args.members.now in
    let x = c.index-members-i.result in
    let e : take (c.loop-i.i + 1) xs ≡ take c.loop-i.i xs ++ x ∷ [] = take_more xs c.loop-i.i x c.loop-i-test.true ∙ ap (λ y. take c.loop-i.i xs ++ y ∷ []) (sym c.index-members-i.is) in
    let j : Writes (before (take c.loop-i.i xs) s) c.loop-i.writer c.if-i-gt0.writer =
    elim c.if-i-gt0.branch [
      | write_class_choice-then-i-gt0 w ↦ before_some xs c.loop-i.i s w.if-i-gt0.true c.loop-i-test.true (subst (λ y. Writes s c.loop-i.writer y) (sym w.writer-is) (writes_bar w.put.ensures))
      | write_class_choice-else-i-gt0 w ↦ subst (λ y. Writes (before (take c.loop-i.i xs) s) c.loop-i.writer y) (sym w.writer-is) (before_none xs c.loop-i.i s (omega (arith, w.if-i-gt0.false)))
    ] in
    subst (λ y. Writes (row g s y) c.args.writer.now c.write_class_operand.new.writer) (sym e) (writes_row_more g s (take c.loop-i.i xs) x c.loop-i.invariant j c.write_class_operand.ensures)

pub write_class_choice-returns : goal.write_class_choice-returns
write_class_choice-returns t c =
    let f = prefixes_view c.args.prefixes.now in
    let g : NameClass → NodeText = λ m. written_name f (name_class_view m) in
    let s = infix_of (codes "|") in
    let xs = c.args.members.now in
    let e : take c.loop-i.i xs ≡ xs = take_all c.loop-i.i xs c.loop-i-test.false in
    writes_as (ap (row g s) e ∙ ap (chain s) (sym (class_rows f xs))) c.loop-i.invariant
