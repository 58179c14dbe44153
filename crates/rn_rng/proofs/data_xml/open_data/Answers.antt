use Rattle.std.proofs.Common.{◌++◌, ap, append_assoc}
use Rattle.std.specs.Prelude.{codes}
use Rattle.rn_syntax.specs.View.{datatype_view, params_view}
use Rattle.rn_rng.specs.declared.element_context.ElementContext.{ElementContext}
use Rattle.rn_rng.specs.Layout.{deeper, items_text, tag_front}
use Rattle.rn_rng.specs.Translation.{params_xml, type_attributes}
use Rattle.rn_rng.specs.inside.Views.{given, uri_of}
use Rattle.rn_rng.proofs.Writing.{writes_as, writes_then}
use Rattle.rn_rng.proofs.data_xml.open_data.Goals as goal

pub returns : goal.returns
returns c =
    let N = c.args.namespaces.now in
    let n = c.args.context.level in
    let d = c.args.«data».now in
    let attrs = type_attributes (given N) (uri_of N c.args.context.library) (datatype_view d.datatype) in
    let line = writes_as (λ i. tag_front n (c.typed_tag-tag.ensures.element i) (c.typed_tag-tag.ensures.attributes i) ++ codes ">\n") c.open.ensures in
    let level = ap (λ (x : ElementContext). x.level) c.inside.ensures in
    let inner = writes_as (λ i. items_text (level i) (params_xml (params_view (c.deref.ensures.value i)))) c.write_params.ensures in
    writes_as (append_assoc (tag_front n (codes "data") attrs) (codes ">\n") (items_text (deeper n) (params_xml (params_view d.params.items)))) (writes_then line inner)
