use Rattle.std.proofs.Common.{◌++◌, [], refl, sym, ◌∙◌, subst}
use Rattle.std.specs.Prelude.{codes}
use Rattle.rn_syntax.specs.Tree.{NameClass}
use Rattle.rn_syntax.specs.View.{class_view}
use Rattle.rn_rng.specs.declared.namespaces.UriSource.TheVariants.{Empty as UriEmpty}
use Rattle.rn_rng.specs.declared.element_context.ElementContext.{ElementContext}
use Rattle.rn_rng.specs.Layout.{item_text, tag_front}
use Rattle.rn_rng.specs.Translation.{class_attributes, class_items, class_xml, element, name_attributes, name_local, name_uri, one_item}
use Rattle.rn_rng.specs.inside.Views.{class_at, given, uri_of}
use Rattle.rn_rng.specs.inside.Writes.{Writes}
use Rattle.rn_rng.proofs.Elements.{no_name_attributes, no_name_items}
use Rattle.rn_rng.proofs.Writing.{writes_as, writes_element, writes_leaf}
use Rattle.rn_rng.proofs.pattern_xml.write_text_attribute.Goals as goal

pub returns-in-Some : goal.returns-in-Some
returns-in-Some c =
    let N = c.args.namespaces.now in
    let P = c.args.context in
    let is = c.in-Some.ensures in
    let attributes = c.named_tag.ensures.attributes ∙ (λ i. name_attributes [] (is.2 i) (is.3 i)) in
    let line = writes_as (λ i. tag_front P.level (c.named_tag.ensures.element i) (attributes i) ++ codes "/>\n") c.empty.ensures in
    let n = is.0 in
    subst (λ (k : NameClass). Writes (item_text P.level (element (codes "attribute") (class_attributes (given N) [] [] k) (class_items (given N) (uri_of N P.namespace) [] k))) c.args.writer.now c.empty.new.self) (sym is.1)
    (writes_leaf P.level (codes "attribute") (name_attributes [] (name_uri (given N) [] n) (name_local n)) refl line)

pub returns-in-None : goal.returns-in-None
returns-in-None c =
    let N = c.args.namespaces.now in
    let P = c.args.context in
    let ns = uri_of N P.namespace in
    let k = class_view c.args.class.now in
    let f = c.in-None.ensures in
    let class = subst (λ (x : ElementContext). Writes (class_at N x UriEmpty k) c.open_bare.new.self c.write_class.new.writer) c.inside.ensures c.write_class.ensures in
    let a = sym (no_name_attributes (given N) [] [] k f) in
    let b = sym (no_name_items (given N) ns [] k f) in
    writes_as (λ i. item_text P.level (element (codes "attribute") (a i) (b i)))
    (writes_element P.level (codes "attribute") [] (one_item (class_xml (given N) ns [] k)) refl refl c.open_bare.ensures class c.close.ensures)
