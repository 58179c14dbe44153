-- The value of the attribute, which is one of the document.
use Rattle.std.proofs.Common.{◌≡◌, true, sym, ap, ◌∙◌, subst, Some}
use Rattle.std.specs.Prelude.{Option, string_bytes}
use Rattle.rn_text.specs.Texts.{Text}
use Rattle.rn_xml.specs.TableRows.{rows_of}
use Rattle.rn_xml.specs.declared.document.XmlAttribute.{XmlAttribute}
use Rattle.rn_translate.specs.Terms.{uri}
use Rattle.rn_translate.specs.SchemaElements.{nearest, value_of}
use Rattle.rn_translate.specs.inside.ElementsMeant.{attributes_at}
use Rattle.rn_translate.specs.inside.UriTables.{HasUri, gives_uri}
use Rattle.rn_translate.proofs.AttributeRows.{all_rows, value_holds}
use Rattle.rn_translate.proofs.translator.Translator.given_uri.Goals as goal

pub returns-in-Some : goal.returns-in-Some
returns-in-Some c = λ n knows gives meant.
    let t = c.args.self.now in
    let d = t.document.now in
    let row = c.args.element.now in
    let name = c.args.local.now in
    let v = string_bytes c.in-Some.found.now.value in
    let is : value_of name (attributes_at d row) ≡ Some v = sym c.in-Some.ensures in
    let all = all_rows (λ (a : XmlAttribute). gives_uri a.name.local.now ≡ true → HasUri t.uris (string_bytes a.value)) row.attributes d.attributes.items knows.has.given in
    let has : HasUri t.uris v = value_holds (HasUri t.uris) d name v (rows_of row.attributes d.attributes.items) (λ k a h e. all k a h (ap gives_uri e ∙ gives)) is in
    c.uri.ensures knows.table.indexed (subst (HasUri t.uris) (sym c.as_str.ensures.value) has)
    ∙ ap (λ (x : Text). Some (uri x)) c.as_str.ensures.value ∙ ap (λ (o : Option Text). Some (nearest n o)) (sym is)
