-- The first attribute of this name.
use Rattle.std.proofs.Common.{◌≡◌, ap, ◌∙◌, rules, tests, Bor}
use Rattle.std.specs.Prelude.{option_map, string_bytes}
use Rattle.std.specs.List.{find}
use Rattle.std.proofs.lemmas.Iterator.{YieldsList-from_slice}
use Rattle.std.proofs.lemmas.Iterator.Search.{find_from_yields_List}
use Rattle.rn_xml.specs.TableRows.{rows_of}
use Rattle.rn_xml.specs.declared.document.XmlAttribute.{XmlAttribute}
use Rattle.rn_translate.proofs.AttributeRows.{found_value, is_named, value_behind}
use Rattle.rn_translate.proofs.document_parts.attribute.Goals as goal

pub returns : goal.returns
returns c =
    let d = c.args.document.now in
    let x = c.args.local.now in
    let rows = rows_of c.args.element.now.attributes d.attributes.items in
    let found : option_map (λ (f : Bor XmlAttribute). f.now) c.find.result ≡ find (is_named d x) rows =
    find_from_yields_List (is_named d x) _ _ c.find.result c.find.ensures.ran (YieldsList-from_slice rows cc) (λ y b q k. search (rules, tests)) in
    value_behind c.find.result ∙ ap (option_map (λ (a : XmlAttribute). string_bytes a.value)) found ∙ found_value d x rows
