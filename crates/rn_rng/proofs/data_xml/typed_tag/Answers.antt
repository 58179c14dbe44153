use Rattle.std.proofs.Common.{◌∷◌, ap, ◌∙◌}
use Rattle.std.specs.Prelude.{codes}
use Rattle.rn_rng.specs.Translation.{attribute, library_attributes}
use Rattle.rn_rng.specs.inside.Views.{given, uri_of}
use Rattle.rn_rng.proofs.data_xml.typed_tag.Goals as goal

pub returns-clause-attributes : goal.returns-clause-attributes
returns-clause-attributes c =
    let N = c.args.namespaces.now in
    let type = c.new.ensures ∙ ap (attribute (codes "type")) (c.type_name.ensures (given N)) in
    let library = c.library_attribute.ensures ∙ ap (library_attributes (uri_of N c.args.taken)) c.library.ensures in
    λ i. type i ∷ library i
