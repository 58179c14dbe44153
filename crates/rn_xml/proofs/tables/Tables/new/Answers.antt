use Rattle.std.proofs.Common.{[], ◌∷◌, ◌++◌, ◌∙◌, ap, Some}
use Rattle.std.specs.Prelude.{if◌then◌else◌, bytes_eq}
use Rattle.rn_xml.specs.XmlTags.{xml_uri}
use Rattle.rn_xml.proofs.KnownUris.{knows_first}
use Rattle.rn_xml.proofs.tables.Tables.new.Goals as goal

pub returns-clause-uris : goal.returns-clause-uris
returns-clause-uris c =
    let items = c.in_ok-push-2.ensures.items ∙ ap (λ l. l ++ c.in_ok-from_str.field-0 ∷ []) (c.in_ok-push.ensures.items ∙ ap (λ l. l ++ c.new.result ∷ []) c.new-names.ensures.items) in
    knows_first _ c.new.result c.in_ok-from_str.field-0 items c.new.ensures.bytes c.in_ok-from_str.ensures.ok
    (λ p. c.in_ok-insert-2.ensures.ok p ∙ ap (λ o. if bytes_eq xml_uri p then Some 1 else o) (c.in_ok-insert.ensures.ok p ∙ ap (λ o. if bytes_eq [] p then Some 0 else o) (c.new-uris.ensures p)))
