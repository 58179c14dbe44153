use Rattle.std.proofs.Common.{◌≡◌, ◌++◌, rules, refl, sym, ap, subst, length, nat_eq, true, false}
use Rattle.std.specs.Prelude.{codes}
use Rattle.rn_pattern.specs.Document.{Items}
use Rattle.rn_syntax.specs.View.{datatype_view, params_view}
use Rattle.rn_rng.specs.declared.element_context.ElementContext.{ElementContext}
use Rattle.rn_rng.specs.Layout.{item_text, items_text, tag_front}
use Rattle.rn_rng.specs.Translation.{element, params_xml, type_attributes}
use Rattle.rn_rng.specs.inside.Views.{given, uri_of}
use Rattle.rn_rng.specs.inside.Writes.{Writes}
use Rattle.rn_rng.proofs.Elements.{no_params, nonempty_params}
use Rattle.rn_rng.proofs.Writing.{writes_as, writes_element, writes_leaf}
use Rattle.rn_rng.proofs.data_xml.write_data.Goals as goal

pub returns-then-is_empty : goal.returns-then-is_empty
returns-then-is_empty c =
    let N = c.args.namespaces.now in
    let n = c.args.context.level in
    let d = c.args.«data».now in
    let attrs = type_attributes (given N) (uri_of N c.args.context.library) (datatype_view d.datatype) in
    let e : nat_eq (length d.params.items) 0 ≡ true = search rules in
    let line = writes_as (λ i. tag_front n (c.typed_tag-tag.ensures.element i) (c.typed_tag-tag.ensures.attributes i) ++ codes "/>\n") c.empty.ensures in
    subst (λ (k : Items). Writes (item_text n (element (codes "data") attrs k)) c.args.writer.now c.empty.new.self) (sym (no_params d.params.items e)) (writes_leaf n (codes "data") attrs refl line)

pub returns-else-is_empty : goal.returns-else-is_empty
returns-else-is_empty c =
    let N = c.args.namespaces.now in
    let n = c.args.context.level in
    let d = c.args.«data».now in
    let attrs = type_attributes (given N) (uri_of N c.args.context.library) (datatype_view d.datatype) in
    let e : nat_eq (length d.params.items) 0 ≡ false = search rules in
    let line = writes_as (λ i. tag_front n (c.typed_tag-tag.ensures.element i) (c.typed_tag-tag.ensures.attributes i) ++ codes ">\n") c.open.ensures in
    let level = ap (λ (x : ElementContext). x.level) c.inside.ensures in
    let inner = writes_as (λ i. items_text (level i) (params_xml (params_view (c.deref.ensures.value i)))) c.write_params.ensures in
    writes_element n (codes "data") attrs (params_xml (params_view d.params.items)) refl (nonempty_params d.params.items e) line inner c.close.ensures
