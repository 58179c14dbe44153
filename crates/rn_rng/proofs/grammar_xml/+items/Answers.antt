use Rattle.std.proofs.Common.{◌≡◌, [], rules, refl, sym, ap, ◌∙◌, subst, length, nat_eq, true, false}
use Rattle.std.specs.Prelude.{codes}
use Rattle.rn_pattern.specs.Document.{Items}
use Rattle.rn_syntax.specs.declared.tree.Item.{Item, the_lemmas}
use Rattle.rn_syntax.specs.Tree as tree
use Rattle.rn_syntax.specs.Tree.{includes, item_includes}
use Rattle.rn_syntax.specs.View.{item_view, items_view, pattern_view}
use Rattle.rn_rng.specs.Layout.{item_text, items_text}
use Rattle.rn_rng.specs.Translation.{element, item_xml, items_xml}
use Rattle.rn_rng.specs.inside.Views.{given}
use Rattle.rn_rng.specs.inside.Writes.{Writes}
use Rattle.rn_rng.proofs.Elements.{div_items, no_div_items}
use Rattle.rn_rng.proofs.Rows.{item_flat, item_rows}
use Rattle.rn_rng.proofs.Views.{view-Include}
use Rattle.rn_rng.proofs.Writing.{writes_all, writes_as, writes_element, writes_leaf, writes_more, writes_nil, writes_one}
use Rattle.rn_rng.proofs.grammar_xml.+items.Goals as goal

pub write_items-loop-item-init : goal.write_items-loop-item-init
write_items-loop-item-init t c = λ n. writes_nil c.args.writer.now

pub write_items-loop-item-preserved : goal.write_items-loop-item-preserved
write_items-loop-item-preserved t c = λ n.
    let f = λ (x : Item). items_text c.args.level (item_xml (given c.args.namespaces.now) (item_view x)) in
    writes_more f c.args.items.now c.loop-item.item-index c.item-item.result c.loop-item-test.true c.item-item.is (c.loop-item.invariant n)
    (c.write_item.ensures (item_flat c.args.items.now c.loop-item.item-index c.item-item.result n c.loop-item-test.true c.item-item.is))

pub write_items-returns : goal.write_items-returns
write_items-returns t c = λ n.
    let ds = given c.args.namespaces.now in
    let f = λ (x : Item). items_text c.args.level (item_xml ds (item_view x)) in
    writes_as (item_rows ds c.args.level c.args.items.now) (writes_all f c.args.items.now c.loop-item.item-index c.loop-item-test.false (c.loop-item.invariant n))

pub write_item-returns-in-Define : goal.write_item-returns-in-Define
write_item-returns-in-Define t c = λ n.
    let e : item_view c.args.item.now ≡ tree.define c.in-Define.name.now c.in-Define.method (pattern_view c.in-Define.body.value) = search (rules, the_lemmas) in
    subst (λ (x : tree.Item). Writes (items_text c.args.level (item_xml (given c.args.namespaces.now) x)) c.args.writer.now c.write_definition.new.writer) (sym e)
    (writes_as (ap (λ b. items_text c.args.level (item_xml (given c.args.namespaces.now) (tree.define c.in-Define.name.now c.in-Define.method (pattern_view b)))) c.deref.ensures) c.write_definition.ensures)

pub write_item-returns-in-Start : goal.write_item-returns-in-Start
write_item-returns-in-Start t c = λ n.
    let e : item_view c.args.item.now ≡ tree.start c.in-Start.method (pattern_view c.in-Start.body.value) = search (rules, the_lemmas) in
    subst (λ (x : tree.Item). Writes (items_text c.args.level (item_xml (given c.args.namespaces.now) x)) c.args.writer.now c.write_start.new.writer) (sym e)
    (writes_as (ap (λ b. items_text c.args.level (item_xml (given c.args.namespaces.now) (tree.start c.in-Start.method (pattern_view b)))) c.deref-in-Start.ensures) c.write_start.ensures)

pub write_item-returns-in-Div : goal.write_item-returns-in-Div
write_item-returns-in-Div t c = λ n.
    let e : item_view c.args.item.now ≡ tree.div (items_view c.in-Div.items.items) = search (rules, the_lemmas) in
    subst (λ (x : tree.Item). Writes (items_text c.args.level (item_xml (given c.args.namespaces.now) x)) c.args.writer.now c.write_div.new.writer) (sym e)
    (writes_as (ap (λ xs. items_text c.args.level (item_xml (given c.args.namespaces.now) (tree.div (items_view xs)))) c.deref-in-Div.ensures.value)
    (c.write_div.ensures (ap (λ xs. includes (items_view xs)) c.deref-in-Div.ensures.value ∙ sym (ap item_includes e) ∙ n)))

pub write_div-returns-then-is_empty : goal.write_div-returns-then-is_empty
write_div-returns-then-is_empty t c = λ flat.
    let ds = given c.args.namespaces.now in
    let n = c.args.level in
    let xs = c.args.items.now in
    let e : nat_eq (length xs) 0 ≡ true = search rules in
    let leaf = writes_leaf n (codes "div") [] refl c.empty_bare.ensures in
    writes_one n (element (codes "div") [] (items_xml ds (items_view xs)))
    (subst (λ (k : Items). Writes (item_text n (element (codes "div") [] k)) c.args.writer.now c.empty_bare.new.self) (sym (no_div_items ds xs e)) leaf)

pub write_div-returns-else-is_empty : goal.write_div-returns-else-is_empty
write_div-returns-else-is_empty t c = λ flat.
    let ds = given c.args.namespaces.now in
    let n = c.args.level in
    let xs = c.args.items.now in
    let e : nat_eq (length xs) 0 ≡ false = search rules in
    let inner = writes_as (ap (λ m. items_text m (items_xml ds (items_view xs))) c.deeper.ensures) (c.write_items.ensures flat) in
    writes_one n (element (codes "div") [] (items_xml ds (items_view xs)))
    (writes_element n (codes "div") [] (items_xml ds (items_view xs)) refl (div_items ds xs flat e) c.open_bare.ensures inner c.close.ensures)

pub write_item-returns-in-Include : goal.write_item-returns-in-Include
write_item-returns-in-Include t c = λ n. absurd (let x = sym (ap (λ x. item_includes (item_view x)) c.in-Include.is ∙ ap item_includes (view-Include c.in-Include.field-0)) ∙ n in cc)
