use Rattle.std.proofs.Common.{◌≡◌, ◌++◌, [], ◌∷◌, Some, None, rules, refl, sym, ap, ◌∙◌, subst, length, nat_eq, true, false}
use Rattle.std.specs.Prelude.{codes, cond}
use Rattle.std.specs.Cow.{cow_str_bytes}
use Rattle.rn_pattern.specs.Document.{no_items}
use Rattle.rn_syntax.specs.declared.tree.Operator.TheVariants as o
use Rattle.rn_syntax.specs.declared.tree.Pat.{Pat}
use Rattle.rn_syntax.specs.Tree as tree
use Rattle.rn_syntax.specs.Tree.{Pattern}
use Rattle.rn_syntax.specs.View.{class_view, datatype_view, params_view, pattern_view, patterns_view, type_view}
use Rattle.rn_syntax.proofs.ProductionsRead.PatternViews.{view-Attribute, view-DatumBut, view-Element, view-Empty, view-NotAllowed, view-Ref, view-Repeated, view-Text}
use Rattle.rn_assemble.specs.Resolve.{default_of, type_library}
use Rattle.rn_rng.specs.declared.element_context.ElementContext.{ElementContext}
use Rattle.rn_rng.specs.Layout.{deeper, end_tag, holds_text, indent, item_text, items_text, tag_front}
use Rattle.rn_rng.specs.Translation.{attribute, attribute_content, class_attributes, class_inside, class_items, element, except_element, grouped, is_text, items_then, one_item, params_xml, pattern_xml, patterns_xml, repetition_local, text_items, type_attributes, unwrapped, value_attributes}
use Rattle.rn_rng.specs.inside.Views.{given, pattern_at, patterns_at, placed, uri_of}
use Rattle.rn_rng.specs.inside.Writes.{Writes}
use Rattle.rn_rng.proofs.Elements.{no_patterns, nonempty_patterns, repetition_plain, written_empty, written_kept, written_spliced}
use Rattle.rn_rng.proofs.Rows.{pattern_rows}
use Rattle.rn_rng.proofs.Views.{view-Chain, view-Datum, view-List, view-Mixed, view-Value}
use Rattle.rn_rng.proofs.Writing.{has_items-unwrapped, items_then-none, writes_all, writes_alone, writes_as, writes_element, writes_headed, writes_more, writes_nil, writes_one}
use Rattle.rn_rng.proofs.pattern_xml.+pattern.Goals as goal

pub write_pattern-returns-in-Element : goal.write_pattern-returns-in-Element
write_pattern-returns-in-Element t c =
    let N = c.args.namespaces.now in
    let P = c.args.context in
    let k = class_view c.deref.result.now.class in
    let p = pattern_view c.deref.result.now.content in
    let e : pattern_view c.args.pattern.now ≡ tree.element k p = ap pattern_view c.in-Element.is ∙ view-Element c.in-Element.named ∙ (λ i. tree.element (class_view (sym c.deref.ensures i).class) (pattern_view (sym c.deref.ensures i).content)) in
    let ns = uri_of N P.namespace in
    let own = default_of [] (given N) in
    let inside = pattern_xml (given N) (class_inside (given N) ns ns own k) (uri_of N P.library) p in
    subst (λ (x : Pattern). Writes (pattern_at N P x) c.args.writer.now c.write_element.new.writer) (sym e)
    (writes_alone P.wrapper P.level (codes "element") (class_attributes (given N) ns own k) (items_then (class_items (given N) ns own k) (grouped inside)) refl refl refl c.write_element.ensures)

pub write_pattern-returns-in-Attribute : goal.write_pattern-returns-in-Attribute
write_pattern-returns-in-Attribute t c =
    let N = c.args.namespaces.now in
    let P = c.args.context in
    let k = class_view c.deref-in-Attribute.result.now.class in
    let p = pattern_view c.deref-in-Attribute.result.now.content in
    let e : pattern_view c.args.pattern.now ≡ tree.attribute k p = ap pattern_view c.in-Attribute.is ∙ view-Attribute c.in-Attribute.named ∙ (λ i. tree.attribute (class_view (sym c.deref-in-Attribute.ensures i).class) (pattern_view (sym c.deref-in-Attribute.ensures i).content)) in
    let ns = uri_of N P.namespace in
    let inside = pattern_xml (given N) (class_inside (given N) ns [] [] k) (uri_of N P.library) p in
    subst (λ (x : Pattern). Writes (pattern_at N P x) c.args.writer.now c.write_attribute.new.writer) (sym e)
    (writes_alone P.wrapper P.level (codes "attribute") (class_attributes (given N) [] [] k) (items_then (class_items (given N) ns [] k) (attribute_content p inside)) refl refl refl c.write_attribute.ensures)

pub write_pattern-returns-in-List : goal.write_pattern-returns-in-List
write_pattern-returns-in-List t c =
    let N = c.args.namespaces.now in
    let P = c.args.context in
    let p = pattern_view c.deref-in-List.result.now in
    let e : pattern_view c.args.pattern.now ≡ tree.list p = ap pattern_view c.in-List.is ∙ view-List c.in-List.content ∙ ap (λ x. tree.list (pattern_view x)) (sym c.deref-in-List.ensures) in
    subst (λ (x : Pattern). Writes (pattern_at N P x) c.args.writer.now c.write_around.new.writer) (sym e)
    (writes_alone P.wrapper P.level (codes "list") [] (grouped (pattern_xml (given N) (uri_of N P.namespace) (uri_of N P.library) p)) refl refl refl c.write_around.ensures)

pub write_pattern-returns-in-Mixed : goal.write_pattern-returns-in-Mixed
write_pattern-returns-in-Mixed t c =
    let N = c.args.namespaces.now in
    let P = c.args.context in
    let p = pattern_view c.deref-in-Mixed.result.now in
    let e : pattern_view c.args.pattern.now ≡ tree.mixed p = ap pattern_view c.in-Mixed.is ∙ view-Mixed c.in-Mixed.content ∙ ap (λ x. tree.mixed (pattern_view x)) (sym c.deref-in-Mixed.ensures) in
    subst (λ (x : Pattern). Writes (pattern_at N P x) c.args.writer.now c.write_around-in-Mixed.new.writer) (sym e)
    (writes_alone P.wrapper P.level (codes "mixed") [] (grouped (pattern_xml (given N) (uri_of N P.namespace) (uri_of N P.library) p)) refl refl refl c.write_around-in-Mixed.ensures)

pub write_pattern-returns-in-Empty : goal.write_pattern-returns-in-Empty
write_pattern-returns-in-Empty t c =
    let P = c.args.context in
    let e : pattern_view c.args.pattern.now ≡ tree.empty = ap pattern_view c.in-Empty.is ∙ view-Empty in
    subst (λ (x : Pattern). Writes (pattern_at c.args.namespaces.now P x) c.args.writer.now c.write_empty.new.writer) (sym e)
    (writes_alone P.wrapper P.level (codes "empty") [] no_items refl refl refl c.write_empty.ensures)

pub write_pattern-returns-in-NotAllowed : goal.write_pattern-returns-in-NotAllowed
write_pattern-returns-in-NotAllowed t c =
    let P = c.args.context in
    let e : pattern_view c.args.pattern.now ≡ tree.not_allowed = ap pattern_view c.in-NotAllowed.is ∙ view-NotAllowed in
    subst (λ (x : Pattern). Writes (pattern_at c.args.namespaces.now P x) c.args.writer.now c.write_empty-in-NotAllowed.new.writer) (sym e)
    (writes_alone P.wrapper P.level (codes "notAllowed") [] no_items refl refl refl c.write_empty-in-NotAllowed.ensures)

pub write_pattern-returns-in-Text : goal.write_pattern-returns-in-Text
write_pattern-returns-in-Text t c =
    let P = c.args.context in
    let e : pattern_view c.args.pattern.now ≡ tree.text = ap pattern_view c.in-Text.is ∙ view-Text in
    subst (λ (x : Pattern). Writes (pattern_at c.args.namespaces.now P x) c.args.writer.now c.write_empty-in-Text.new.writer) (sym e)
    (writes_alone P.wrapper P.level (codes "text") [] no_items refl refl refl c.write_empty-in-Text.ensures)

pub write_pattern-returns-in-Ref : goal.write_pattern-returns-in-Ref
write_pattern-returns-in-Ref t c =
    let P = c.args.context in
    let x = c.in-Ref.name.now in
    let e : pattern_view c.args.pattern.now ≡ tree.ref x = ap pattern_view c.in-Ref.is ∙ view-Ref c.in-Ref.name in
    subst (λ (y : Pattern). Writes (pattern_at c.args.namespaces.now P y) c.args.writer.now c.write_ref.new.writer) (sym e)
    (writes_alone P.wrapper P.level (codes "ref") (attribute (codes "name") x ∷ []) no_items refl refl refl c.write_ref.ensures)

pub write_pattern-returns-in-Value : goal.write_pattern-returns-in-Value
write_pattern-returns-in-Value t c =
    let N = c.args.namespaces.now in
    let P = c.args.context in
    let v = c.deref-in-Value.result.now in
    let e : pattern_view c.args.pattern.now ≡ tree.value (type_view v.datatype) (cow_str_bytes v.text) = ap pattern_view c.in-Value.is ∙ view-Value c.in-Value.value ∙ (λ i. tree.value (type_view (sym c.deref-in-Value.ensures i).datatype) (cow_str_bytes (sym c.deref-in-Value.ensures i).text)) in
    subst (λ (x : Pattern). Writes (pattern_at N P x) c.args.writer.now c.write_value.new.writer) (sym e)
    (writes_alone P.wrapper P.level (codes "value") (value_attributes (given N) (uri_of N P.library) (type_view v.datatype)) (text_items (cow_str_bytes v.text)) refl refl refl c.write_value.ensures)

pub write_pattern-returns-in-Datum : goal.write_pattern-returns-in-Datum
write_pattern-returns-in-Datum t c =
    let N = c.args.namespaces.now in
    let P = c.args.context in
    let d = c.deref-in-Datum.result.now in
    let e : pattern_view c.args.pattern.now ≡ tree.datum (datatype_view d.datatype) (params_view d.params.items) = ap pattern_view c.in-Datum.is ∙ view-Datum c.in-Datum.«data» ∙ (λ i. tree.datum (datatype_view (sym c.deref-in-Datum.ensures i).datatype) (params_view (sym c.deref-in-Datum.ensures i).params.items)) in
    subst (λ (x : Pattern). Writes (pattern_at N P x) c.args.writer.now c.write_data.new.writer) (sym e)
    (writes_alone P.wrapper P.level (codes "data") (type_attributes (given N) (uri_of N P.library) (datatype_view d.datatype)) (params_xml (params_view d.params.items)) refl refl refl c.write_data.ensures)

pub write_pattern-returns-in-DatumBut : goal.write_pattern-returns-in-DatumBut
write_pattern-returns-in-DatumBut t c =
    let N = c.args.namespaces.now in
    let P = c.args.context in
    let d = c.deref-in-DatumBut.result.now in
    let i = c.in-DatumBut.field-1 in
    let p = pattern_view c.deref-in-DatumBut-2.result.now in
    let e : pattern_view c.args.pattern.now ≡ tree.datum_but (datatype_view d.datatype) (params_view d.params.items) i p = ap pattern_view c.in-DatumBut.is ∙ view-DatumBut c.in-DatumBut.«data» i c.in-DatumBut.except ∙ (λ j. tree.datum_but (datatype_view (sym c.deref-in-DatumBut.ensures j).datatype) (params_view (sym c.deref-in-DatumBut.ensures j).params.items) i (pattern_view (sym c.deref-in-DatumBut-2.ensures j))) in
    let l = uri_of N P.library in
    let inner = pattern_xml (given N) (uri_of N P.namespace) (type_library [] (given N) (datatype_view d.datatype)) p in
    subst (λ (x : Pattern). Writes (pattern_at N P x) c.args.writer.now c.write_data_but.new.writer) (sym e)
    (writes_alone P.wrapper P.level (codes "data") (type_attributes (given N) l (datatype_view d.datatype)) (items_then (params_xml (params_view d.params.items)) (one_item (except_element inner))) refl refl refl (c.write_data_but.ensures i))

pub write_pattern-returns-in-Repeated : goal.write_pattern-returns-in-Repeated
write_pattern-returns-in-Repeated t c =
    let N = c.args.namespaces.now in
    let P = c.args.context in
    let r = c.in-Repeated.postfix in
    let p = pattern_view c.deref-in-Repeated.result.now in
    let e : pattern_view c.args.pattern.now ≡ tree.repeated r p = ap pattern_view c.in-Repeated.is ∙ view-Repeated r c.in-Repeated.content ∙ ap (λ x. tree.repeated r (pattern_view x)) (sym c.deref-in-Repeated.ensures) in
    let plain = repetition_plain r in
    let around = subst (λ l. Writes (item_text P.level (element l [] (grouped (pattern_xml (given N) (uri_of N P.namespace) (uri_of N P.library) p)))) c.args.writer.now c.write_around-in-Repeated.new.writer) c.repetition.ensures c.write_around-in-Repeated.ensures in
    subst (λ (x : Pattern). Writes (pattern_at N P x) c.args.writer.now c.write_around-in-Repeated.new.writer) (sym e)
    (writes_alone P.wrapper P.level (repetition_local r) [] (grouped (pattern_xml (given N) (uri_of N P.namespace) (uri_of N P.library) p)) plain.no_group plain.no_interleave plain.no_choice around)

pub write_pattern-returns-in-Chain : goal.write_pattern-returns-in-Chain
write_pattern-returns-in-Chain t c =
    let e : pattern_view c.args.pattern.now ≡ tree.chain c.in-Chain.operator (patterns_view c.deref-in-Chain.result.now) = ap pattern_view c.in-Chain.is ∙ view-Chain c.in-Chain.operator c.in-Chain.members ∙ ap (λ ps. tree.chain c.in-Chain.operator (patterns_view ps)) (sym c.deref-in-Chain.ensures.value) in
    subst (λ (x : Pattern). Writes (pattern_at c.args.namespaces.now c.args.context x) c.args.writer.now c.write_chain.new.writer) (sym e) c.write_chain.ensures

pub write_element-returns : goal.write_element-returns
write_element-returns t c =
    let N = c.args.namespaces.now in
    let ds = given N in
    let P = c.args.context in
    let n = P.level in
    let ns = uri_of N P.namespace in
    let named = c.default_namespace-own.ensures in
    let own = default_of [] ds in
    let k = class_view c.args.named.now.class in
    let p = pattern_view c.args.named.now.content in
    let R = c.open_head-inside.result in
    let head = writes_as (λ i. tag_front n (codes "element") (class_attributes ds ns (named i) k) ++ (codes ">\n" ++ items_text (deeper n) (class_items ds ns (named i) k))) c.open_head-inside.ensures.written in
    let namespace = c.open_head-inside.ensures.namespace ∙ ap (λ u. class_inside ds ns ns u k) named in
    let library = ap (uri_of N) c.open_head-inside.ensures.library in
    let inner = subst (λ (x : ElementContext). Writes (pattern_at N x p) c.open_head-inside.new.writer c.write_pattern.new.writer) c.wrapped-inside.ensures c.write_pattern.ensures in
    let content = writes_as (λ i. items_text (c.open_head-inside.ensures.level i) (grouped (pattern_xml ds (namespace i) (library i) p))) inner in
    writes_headed n (codes "element") (class_attributes ds ns own k) (class_items ds ns own k) (grouped (pattern_xml ds (class_inside ds ns ns own k) (uri_of N P.library) p)) refl (has_items-unwrapped (codes "group") (pattern_xml ds (class_inside ds ns ns own k) (uri_of N P.library) p)) head content c.close.ensures

pub write_attribute-returns-then-is_text : goal.write_attribute-returns-then-is_text
write_attribute-returns-then-is_text t c =
    let N = c.args.namespaces.now in
    let ds = given N in
    let P = c.args.context in
    let ns = uri_of N P.namespace in
    let k = class_view c.args.named.now.class in
    let p = pattern_view c.args.named.now.content in
    let x = pattern_xml ds (class_inside ds ns [] [] k) (uri_of N P.library) p in
    let e : is_text p ≡ true = search rules in
    let same = sym (items_then-none (class_items ds ns [] k)) ∙ ap (λ b. items_then (class_items ds ns [] k) (cond b no_items (one_item x))) (sym e) in
    writes_as (ap (λ is. item_text P.level (element (codes "attribute") (class_attributes ds [] [] k) is)) same) c.write_text_attribute.ensures

pub write_attribute-returns : goal.write_attribute-returns
write_attribute-returns t c =
    let N = c.args.namespaces.now in
    let ds = given N in
    let P = c.args.context in
    let n = P.level in
    let ns = uri_of N P.namespace in
    let k = class_view c.args.named.now.class in
    let p = pattern_view c.args.named.now.content in
    let h = c.open_head-inside.ensures in
    let library = ap (uri_of N) h.library in
    let x = pattern_xml ds (class_inside ds ns [] [] k) (uri_of N P.library) p in
    let e : is_text p ≡ false = search rules in
    let content = writes_as (λ i. items_text (h.level i) (placed (h.alone i) (pattern_xml ds (h.namespace i) (library i) p))) c.write_pattern.ensures in
    writes_as (ap (λ b. item_text n (element (codes "attribute") (class_attributes ds [] [] k) (items_then (class_items ds ns [] k) (cond b no_items (one_item x))))) (sym e))
    (writes_headed n (codes "attribute") (class_attributes ds [] [] k) (class_items ds ns [] k) (one_item x) refl refl h.written content c.close.ensures)

pub write_around-returns : goal.write_around-returns
write_around-returns t c =
    let N = c.args.namespaces.now in
    let P = c.args.context in
    let p = pattern_view c.args.content.now in
    let x = pattern_xml (given N) (uri_of N P.namespace) (uri_of N P.library) p in
    let at : c.wrapped-inside.result ≡ record P { level = deeper P.level; wrapper = Some o.Comma } = c.wrapped-inside.ensures ∙ ap (λ (x : ElementContext). record x { wrapper = Some o.Comma }) c.inside.ensures in
    let inner = subst (λ (x : ElementContext). Writes (pattern_at N x p) c.open_bare.new.self c.write_pattern.new.writer) at c.write_pattern.ensures in
    let plain : holds_text c.args.element.now ≡ false = search rules in
    writes_element P.level c.args.element.now [] (grouped x) plain (has_items-unwrapped (codes "group") x) c.open_bare.ensures inner c.close.ensures

pub write_chain-returns-then-is_empty : goal.write_chain-returns-then-is_empty
write_chain-returns-then-is_empty t c =
    let N = c.args.namespaces.now in
    let P = c.args.context in
    let ps = c.args.members.now in
    let e : nat_eq (length ps) 0 ≡ true = search rules in
    written_empty P.wrapper c.args.operator P.level _ (no_patterns (given N) (uri_of N P.namespace) (uri_of N P.library) ps e)
    (writes_as (ap (λ l. tag_front P.level l [] ++ codes "/>\n") c.connector-element.ensures) c.empty_bare.ensures)

pub write_chain-returns-then-is_in : goal.write_chain-returns-then-is_in
write_chain-returns-then-is_in t c =
    let N = c.args.namespaces.now in
    let P = c.args.context in
    let ps = c.args.members.now in
    let e : nat_eq (length ps) 0 ≡ false = search rules in
    let inner = subst (λ (x : ElementContext). Writes (patterns_at N x ps) c.args.writer.now c.write_patterns.new.writer) c.alone.ensures c.write_patterns.ensures in
    written_spliced P.wrapper c.args.operator P.level (patterns_xml (given N) (uri_of N P.namespace) (uri_of N P.library) (patterns_view ps)) (search rules) (nonempty_patterns (given N) (uri_of N P.namespace) (uri_of N P.library) ps e)
    (writes_as (pattern_rows (given N) P.level (uri_of N P.namespace) (uri_of N P.library) ps) inner)

pub write_chain-returns-else-is_in : goal.write_chain-returns-else-is_in
write_chain-returns-else-is_in t c =
    let N = c.args.namespaces.now in
    let P = c.args.context in
    let ps = c.args.members.now in
    let e : nat_eq (length ps) 0 ≡ false = search rules in
    let named = c.connector-element.ensures in
    let inner = subst (λ (x : ElementContext). Writes (patterns_at N x ps) c.open_bare.new.self c.write_patterns-else-is_in.new.writer) c.inside.ensures c.write_patterns-else-is_in.ensures in
    written_kept P.wrapper c.args.operator P.level (patterns_xml (given N) (uri_of N P.namespace) (uri_of N P.library) (patterns_view ps)) (search rules) (nonempty_patterns (given N) (uri_of N P.namespace) (uri_of N P.library) ps e)
    (writes_as (ap (λ l. tag_front P.level l [] ++ codes ">\n") named) c.open_bare.ensures)
    (writes_as (pattern_rows (given N) (deeper P.level) (uri_of N P.namespace) (uri_of N P.library) ps) inner)
    (writes_as (ap (λ l. indent P.level ++ end_tag l) named) c.close.ensures)

pub write_patterns-loop-pattern-init : goal.write_patterns-loop-pattern-init
write_patterns-loop-pattern-init t c = writes_nil c.args.writer.now

pub write_patterns-loop-pattern-preserved : goal.write_patterns-loop-pattern-preserved
write_patterns-loop-pattern-preserved t c =
    let f = λ (p : Pat). pattern_at c.args.namespaces.now c.args.context (pattern_view p) in
    writes_more f c.args.patterns.now c.loop-pattern.pattern-index c.pattern-item.result c.loop-pattern-test.true c.pattern-item.is c.loop-pattern.invariant c.write_pattern.ensures

pub write_patterns-returns : goal.write_patterns-returns
write_patterns-returns t c =
    let f = λ (p : Pat). pattern_at c.args.namespaces.now c.args.context (pattern_view p) in
    writes_all f c.args.patterns.now c.loop-pattern.pattern-index c.loop-pattern-test.false c.loop-pattern.invariant

pub write_data_but-returns : goal.write_data_but-returns
write_data_but-returns t c = λ i.
    let N = c.args.namespaces.now in
    let P = c.args.context in
    let d = c.args.«data».now in
    let p = pattern_view c.args.except.now in
    let at : c.with_library.result ≡ record P { level = deeper P.level; wrapper = None; library = c.library-library.result } = c.with_library.ensures ∙ ap (λ (x : ElementContext). record x { library = c.library-library.result }) c.inside.ensures in
    let moved = subst (λ (x : ElementContext). Writes (item_text x.level (except_element (pattern_xml (given N) (uri_of N x.namespace) (uri_of N x.library) p))) c.open_data.new.writer c.write_except.new.writer) at c.write_except.ensures in
    let except = subst (λ l. Writes (item_text (deeper P.level) (except_element (pattern_xml (given N) (uri_of N P.namespace) l p))) c.open_data.new.writer c.write_except.new.writer) c.library-library.ensures moved in
    let inner = except_element (pattern_xml (given N) (uri_of N P.namespace) (type_library [] (given N) (datatype_view d.datatype)) p) in
    writes_headed P.level (codes "data") (type_attributes (given N) (uri_of N P.library) (datatype_view d.datatype)) (params_xml (params_view d.params.items)) (one_item inner) refl refl c.open_data.ensures (writes_one (deeper P.level) inner except) c.close.ensures

pub write_except-returns : goal.write_except-returns
write_except-returns t c =
    let N = c.args.namespaces.now in
    let P = c.args.context in
    let p = pattern_view c.args.except.now in
    let x = pattern_xml (given N) (uri_of N P.namespace) (uri_of N P.library) p in
    let at : c.wrapped-inside.result ≡ record P { level = deeper P.level; wrapper = Some o.Bar } = c.wrapped-inside.ensures ∙ ap (λ (x : ElementContext). record x { wrapper = Some o.Bar }) c.inside.ensures in
    let inner = subst (λ (x : ElementContext). Writes (pattern_at N x p) c.open_bare.new.self c.write_pattern.new.writer) at c.write_pattern.ensures in
    writes_element P.level (codes "except") [] (unwrapped (codes "choice") x) refl (has_items-unwrapped (codes "choice") x) c.open_bare.ensures inner c.close.ensures
