use Rattle.std.proofs.Common.{◌≡◌, ◌++◌, [], Some, None, rules, refl, sym, ap, ◌∙◌, subst, length, nat_eq, true, false}
use Rattle.std.specs.Prelude.{codes}
use Rattle.rn_syntax.specs.declared.tree.Operator.TheVariants as o
use Rattle.rn_syntax.specs.declared.tree.Nc.{Nc, the_lemmas}
use Rattle.rn_syntax.specs.Tree as tree
use Rattle.rn_syntax.specs.Tree.{NameClass}
use Rattle.rn_syntax.specs.View.{any_view, class_view, classes_view}
use Rattle.rn_assemble.specs.Resolve.{namespace_of}
use Rattle.rn_rng.specs.declared.element_context.ElementContext.{ElementContext}
use Rattle.rn_rng.specs.Layout.{deeper, end_tag, indent, item_text, tag_front}
use Rattle.rn_rng.specs.Translation.{any_attributes, any_inside, any_local, class_xml, classes_xml, element, except_element, ns_attributes, one_item, qualified, text_items, unwrapped}
use Rattle.rn_pattern.specs.Document.{no_items}
use Rattle.rn_rng.specs.inside.Views.{class_at, classes_at, given, uri_of}
use Rattle.rn_rng.specs.inside.Writes.{Writes}
use Rattle.rn_rng.proofs.Elements.{any_plain, no_classes, nonempty_classes, written_empty, written_kept, written_spliced}
use Rattle.rn_rng.proofs.Rows.{class_rows}
use Rattle.rn_rng.proofs.Views.{view-All, view-AllBut, view-Choice}
use Rattle.rn_rng.proofs.Writing.{has_items-unwrapped, writes_all, writes_alone, writes_as, writes_element, writes_leaf, writes_more, writes_nil, writes_one}
use Rattle.rn_rng.proofs.class_xml.+class.Goals as goal

pub write_class-returns-in-Local : goal.write_class-returns-in-Local
write_class-returns-in-Local t c =
    let N = c.args.namespaces.now in
    let P = c.args.context in
    let l = c.in-Local.local.now in
    let e : class_view c.args.class.now ≡ tree.name (tree.local l) = search (rules, the_lemmas) in
    let uri = uri_of N c.args.own in
    subst (λ (k : NameClass). Writes (class_at N P c.args.own k) c.args.writer.now c.write_name.new.writer) (sym e)
    (writes_alone P.wrapper P.level (codes "name") (ns_attributes (uri_of N P.namespace) uri) (text_items (qualified uri l)) refl refl refl c.write_name.ensures)

pub write_class-returns-in-Prefixed : goal.write_class-returns-in-Prefixed
write_class-returns-in-Prefixed t c =
    let N = c.args.namespaces.now in
    let P = c.args.context in
    let x = c.in-Prefixed.name.value in
    let e : class_view c.args.class.now ≡ tree.name (tree.prefixed x.prefix.name.now x.local.now x.prefix.at) = search (rules, the_lemmas) in
    let uri = namespace_of [] (given N) x.prefix.name.now in
    let u : uri_of N c.namespace-namespace.result ≡ uri = search rules in
    let named = writes_as (λ i. item_text P.level (element (codes "name") (ns_attributes (uri_of N P.namespace) (u i)) (text_items (qualified (u i) (c.deref-in-Prefixed.ensures i).local.now)))) c.write_name-in-Prefixed.ensures in
    subst (λ (k : NameClass). Writes (class_at N P c.args.own k) c.args.writer.now c.write_name-in-Prefixed.new.writer) (sym e)
    (writes_alone P.wrapper P.level (codes "name") (ns_attributes (uri_of N P.namespace) uri) (text_items (qualified uri x.local.now)) refl refl refl named)

pub write_class-returns-in-All : goal.write_class-returns-in-All
write_class-returns-in-All t c =
    let N = c.args.namespaces.now in
    let P = c.args.context in
    let a = any_view c.deref-in-All.result.now in
    let e : class_view c.args.class.now ≡ tree.all a = ap class_view c.in-All.is ∙ view-All c.in-All.any ∙ ap (λ x. tree.all (any_view x)) (sym c.deref-in-All.ensures) in
    let line = writes_as (λ i. tag_front P.level (c.any_tag.ensures.element i) (c.any_tag.ensures.attributes i) ++ codes "/>\n") c.empty.ensures in
    let plain = any_plain a in
    subst (λ (k : NameClass). Writes (class_at N P c.args.own k) c.args.writer.now c.empty.new.self) (sym e)
    (writes_alone P.wrapper P.level (any_local a) (any_attributes (given N) a) no_items plain.no_group plain.no_interleave plain.no_choice
    (writes_leaf P.level (any_local a) (any_attributes (given N) a) plain.no_text line))

pub write_class-returns-in-AllBut : goal.write_class-returns-in-AllBut
write_class-returns-in-AllBut t c =
    let N = c.args.namespaces.now in
    let ds = given N in
    let P = c.args.context in
    let ns = uri_of N P.namespace in
    let own = uri_of N c.args.own in
    let a = any_view c.in-AllBut.any.value in
    let k = class_view c.in-AllBut.except.value in
    let e : class_view c.args.class.now ≡ tree.all_but a k = ap class_view c.in-AllBut.is ∙ view-AllBut c.in-AllBut.any c.in-AllBut.except in
    let named = c.any_tag-in-AllBut.ensures.element ∙ ap (λ x. any_local (any_view x)) c.deref-in-AllBut.ensures in
    let attrs = c.any_tag-in-AllBut.ensures.attributes ∙ ap (λ x. any_attributes ds (any_view x)) c.deref-in-AllBut.ensures in
    let first = writes_as (λ i. tag_front P.level (named i) (attrs i) ++ codes ">\n") c.open.ensures in
    let inside = c.namespace_inside-namespace.ensures ∙ ap (λ x. any_inside ds ns (any_view x)) c.deref-in-AllBut-2.ensures in
    let at : c.under.result ≡ record P { level = deeper P.level; wrapper = None; namespace = c.namespace_inside-namespace.result } = c.under.ensures ∙ ap (λ (x : ElementContext). record x { namespace = c.namespace_inside-namespace.result }) c.inside.ensures in
    let except = writes_as ((λ i. item_text (at i).level (except_element (class_xml ds (uri_of N (at i).namespace) own (class_view (c.deref-in-AllBut-3.ensures i))))) ∙ ap (λ u. item_text (deeper P.level) (except_element (class_xml ds u own k))) inside) c.write_except.ensures in
    let closed = c.any_element.ensures ∙ ap (λ x. any_local (any_view x)) c.deref-in-AllBut-4.ensures in
    let last = writes_as (ap (λ l. indent P.level ++ end_tag l) closed) c.close.ensures in
    let plain = any_plain a in
    let inner = except_element (class_xml ds (any_inside ds ns a) own k) in
    subst (λ (x : NameClass). Writes (class_at N P c.args.own x) c.args.writer.now c.close.new.self) (sym e)
    (writes_alone P.wrapper P.level (any_local a) (any_attributes ds a) (one_item inner) plain.no_group plain.no_interleave plain.no_choice
    (writes_element P.level (any_local a) (any_attributes ds a) (one_item inner) plain.no_text refl first (writes_one (deeper P.level) inner except) last))

pub write_class-returns-in-Choice : goal.write_class-returns-in-Choice
write_class-returns-in-Choice t c =
    let N = c.args.namespaces.now in
    let P = c.args.context in
    let e : class_view c.args.class.now ≡ tree.choice (classes_view c.in-Choice.members.value.items) = ap class_view c.in-Choice.is ∙ view-Choice c.in-Choice.members in
    let members = c.deref-in-Choice-2.ensures.value ∙ ap (λ v. v.items) c.deref-in-Choice.ensures in
    subst (λ (k : NameClass). Writes (class_at N P c.args.own k) c.args.writer.now c.write_choice.new.writer) (sym e)
    (writes_as (ap (λ cs. class_at N P c.args.own (tree.choice (classes_view cs))) members) c.write_choice.ensures)

pub write_except-returns : goal.write_except-returns
write_except-returns t c =
    let N = c.args.namespaces.now in
    let P = c.args.context in
    let k = class_view c.args.except.now in
    let i = class_xml (given N) (uri_of N P.namespace) (uri_of N c.args.own) k in
    let at : c.wrapped-inside.result ≡ record P { level = deeper P.level; wrapper = Some o.Bar } = c.wrapped-inside.ensures ∙ ap (λ (x : ElementContext). record x { wrapper = Some o.Bar }) c.inside.ensures in
    let inner = subst (λ (x : ElementContext). Writes (class_at N x c.args.own k) c.open_bare.new.self c.write_class.new.writer) at c.write_class.ensures in
    writes_element P.level (codes "except") [] (unwrapped (codes "choice") i) refl (has_items-unwrapped (codes "choice") i) c.open_bare.ensures inner c.close.ensures

pub write_choice-returns-then-is_empty : goal.write_choice-returns-then-is_empty
write_choice-returns-then-is_empty t c =
    let N = c.args.namespaces.now in
    let P = c.args.context in
    let cs = c.args.members.now in
    let e : nat_eq (length cs) 0 ≡ true = search rules in
    written_empty P.wrapper o.Bar P.level _ (no_classes (given N) (uri_of N P.namespace) (uri_of N c.args.own) cs e) c.empty_bare.ensures

pub write_choice-returns-then-is_in : goal.write_choice-returns-then-is_in
write_choice-returns-then-is_in t c =
    let N = c.args.namespaces.now in
    let P = c.args.context in
    let cs = c.args.members.now in
    let e : nat_eq (length cs) 0 ≡ false = search rules in
    let inner = subst (λ (x : ElementContext). Writes (classes_at N x c.args.own cs) c.args.writer.now c.write_classes.new.writer) c.alone.ensures c.write_classes.ensures in
    written_spliced P.wrapper o.Bar P.level (classes_xml (given N) (uri_of N P.namespace) (uri_of N c.args.own) (classes_view cs)) (search rules) (nonempty_classes (given N) (uri_of N P.namespace) (uri_of N c.args.own) cs e)
    (writes_as (class_rows (given N) P.level (uri_of N P.namespace) (uri_of N c.args.own) cs) inner)

pub write_choice-returns-else-is_in : goal.write_choice-returns-else-is_in
write_choice-returns-else-is_in t c =
    let N = c.args.namespaces.now in
    let P = c.args.context in
    let cs = c.args.members.now in
    let e : nat_eq (length cs) 0 ≡ false = search rules in
    let inner = subst (λ (x : ElementContext). Writes (classes_at N x c.args.own cs) c.open_bare.new.self c.write_classes-else-is_in.new.writer) c.inside.ensures c.write_classes-else-is_in.ensures in
    written_kept P.wrapper o.Bar P.level (classes_xml (given N) (uri_of N P.namespace) (uri_of N c.args.own) (classes_view cs)) (search rules) (nonempty_classes (given N) (uri_of N P.namespace) (uri_of N c.args.own) cs e)
    c.open_bare.ensures (writes_as (class_rows (given N) (deeper P.level) (uri_of N P.namespace) (uri_of N c.args.own) cs) inner) c.close.ensures

pub write_classes-loop-class-init : goal.write_classes-loop-class-init
write_classes-loop-class-init t c = writes_nil c.args.writer.now

pub write_classes-loop-class-preserved : goal.write_classes-loop-class-preserved
write_classes-loop-class-preserved t c =
    let f = λ (k : Nc). class_at c.args.namespaces.now c.args.context c.args.own (class_view k) in
    writes_more f c.args.classes.now c.loop-class.class-index c.class-item.result c.loop-class-test.true c.class-item.is c.loop-class.invariant c.write_class.ensures

pub write_classes-returns : goal.write_classes-returns
write_classes-returns t c =
    let f = λ (k : Nc). class_at c.args.namespaces.now c.args.context c.args.own (class_view k) in
    writes_all f c.args.classes.now c.loop-class.class-index c.loop-class-test.false c.loop-class.invariant
