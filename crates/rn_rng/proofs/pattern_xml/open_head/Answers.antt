use Rattle.std.proofs.Common.{◌++◌, [], sym, ap, ◌∙◌, subst, append_assoc}
use Rattle.std.specs.Prelude.{codes}
use Rattle.rn_syntax.specs.Tree.{NameClass}
use Rattle.rn_syntax.specs.View.{class_view}
use Rattle.rn_rng.specs.declared.element_context.ElementContext.{ElementContext}
use Rattle.rn_rng.specs.Layout.{deeper, items_text, tag_front}
use Rattle.rn_rng.specs.Translation.{class_attributes, class_inside, class_items, class_xml, name_attributes, ns_inside, one_item}
use Rattle.rn_rng.specs.inside.Views.{class_at, given, uri_of}
use Rattle.rn_rng.specs.inside.Writes.{Writes}
use Rattle.rn_rng.proofs.Elements.{no_name_attributes, no_name_inside, no_name_items}
use Rattle.rn_rng.proofs.Writing.{writes_as, writes_then}
use Rattle.rn_rng.proofs.pattern_xml.open_head.Goals as goal

pub returns-in-Some-clause-written : goal.returns-in-Some-clause-written
returns-in-Some-clause-written c =
    let N = c.args.namespaces.now in
    let P = c.args.context in
    let T = uri_of N c.args.taken in
    let O = uri_of N c.args.own in
    let is = c.in-Some.ensures in
    let attributes = c.named_tag.ensures.attributes ∙ (λ i. name_attributes T (is.2 i) (is.3 i)) in
    let line = writes_as (λ i. tag_front P.level (c.named_tag.ensures.element i) (attributes i) ++ codes ">\n") c.open.ensures in
    subst (λ (k : NameClass). Writes (tag_front P.level c.args.element.now (class_attributes (given N) T O k) ++ (codes ">\n" ++ items_text (deeper P.level) (class_items (given N) (uri_of N P.namespace) O k))) c.args.writer.now c.open.new.self) (sym is.1) line

pub returns-in-Some-clause-namespace : goal.returns-in-Some-clause-namespace
returns-in-Some-clause-namespace c =
    let N = c.args.namespaces.now in
    let P = c.args.context in
    let T = uri_of N c.args.taken in
    let O = uri_of N c.args.own in
    let ns = uri_of N P.namespace in
    let is = c.in-Some.ensures in
    ap (λ (x : ElementContext). uri_of N x.namespace) c.under.ensures ∙ c.namespace_inside-namespace.ensures ∙ ap (ns_inside ns T) is.2 ∙ sym (ap (class_inside (given N) ns T O) is.1)

pub returns-in-None-clause-written : goal.returns-in-None-clause-written
returns-in-None-clause-written c =
    let N = c.args.namespaces.now in
    let P = c.args.context in
    let T = uri_of N c.args.taken in
    let O = uri_of N c.args.own in
    let ns = uri_of N P.namespace in
    let k = class_view c.args.class.now in
    let f = c.in-None.ensures in
    let class = subst (λ (x : ElementContext). Writes (class_at N x c.args.own k) c.open_bare.new.self c.write_class.new.writer) c.inside-in-None.ensures c.write_class.ensures in
    let x = items_text (deeper P.level) (one_item (class_xml (given N) ns O k)) in
    let e = c.args.element.now in
    let a = sym (no_name_attributes (given N) T O k f) in
    let b = sym (no_name_items (given N) ns O k f) in
    writes_as (append_assoc (tag_front P.level e []) (codes ">\n") x ∙ (λ i. tag_front P.level e (a i) ++ (codes ">\n" ++ items_text (deeper P.level) (b i))))
    (writes_then c.open_bare.ensures class)

pub returns-in-None-clause-namespace : goal.returns-in-None-clause-namespace
returns-in-None-clause-namespace c =
    let N = c.args.namespaces.now in
    let P = c.args.context in
    let ns = uri_of N P.namespace in
    ap (λ (x : ElementContext). uri_of N x.namespace) c.inside-in-None-2.ensures ∙ sym (no_name_inside (given N) ns (uri_of N c.args.taken) (uri_of N c.args.own) (class_view c.args.class.now) c.in-None.ensures)
