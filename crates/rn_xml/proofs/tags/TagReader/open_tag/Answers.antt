use Rattle.std.proofs.Common.{◌≡◌, ◌∷◌, ◌<◌, ◌≤◌, ◌∙◌, length, length-append, ap, refl, arith}
use Rattle.std.specs.Prelude.{vec_len}
use Rattle.std.specs.Str.{chars}
use Rattle.rn_xml.specs.declared.document.XmlAttribute.{XmlAttribute}
use Rattle.rn_xml.specs.declared.document.XmlDeclaration.{XmlDeclaration}
use Rattle.rn_xml.specs.declared.document.XmlName.{XmlName}
use Rattle.rn_xml.specs.inside.OpenElements.{scope_of}
use Rattle.rn_xml.specs.inside.ReadDocuments.{place_of}
use Rattle.rn_xml.proofs.Openings.OpenReaders.{opens_tag}
use Rattle.rn_xml.proofs.TagSteps.{starts_attributes}
use Rattle.std.proofs.Common.{◌++◌}
use Rattle.std.proofs.lemmas.Result.{err_from_is_err_and}
use Rattle.rn_xml.specs.XmlTags.{bindings}
use Rattle.rn_xml.specs.inside.Rests.{source}
use Rattle.rn_xml.proofs.Refusals.RefusedTagNames.{prefix_lacks}
use Rattle.rn_xml.proofs.Refusals.RefusedTags.{opened_lines, no_tag_name, no_tag_attributes, no_tag_close, no_tag_uri, no_tag_names}
use Rattle.rn_xml.proofs.tags.TagReader.open_tag.Goals as goal

pub returns-clause-opens : goal.returns-clause-opens
returns-clause-opens c = λ opened open_is parent.
    let front : chars c.args.tag.now ≡ 60 ∷ chars c.in_ok-inside.inside.now = rw c.in_ok-inside.ensures.ok_part at c.after_char.ensures.cases in
    let first = c.first_rows-first.result in
    let read = c.in_ok-end.ensures.attributes (scope_of opened) (starts_attributes c.args.self.now (scope_of opened) first.declarations c.first_rows-first.ensures.declarations open_is.knows open_is.denotes) in
    let tagged = c.in_ok-name_attributes.ensures.named c.args.self.now (scope_of opened) first.declarations read.0 read.2 c.first_rows-first.ensures.attributes in
    let added = c.in_ok-index.ensures.added in
    let shorter : length c.in_ok-is_empty.after.now < length c.args.tag.now = omega (arith, c.in_ok-name.ensures.reads, c.in_ok-end.ensures.reads, c.in_ok-is_empty.ensures.reads, rw c.in_ok-inside.ensures.ok_part at c.after_char.ensures.shorter) in
    let at : added.0.at ≡ place_of c.args.self.now c.args.tag.now = omega (arith, added.3, tagged.len) in
    let old = c.args.self.now.tables.document in
    let now = c.name_attributes.new.self.tables.document in
    let attributes : first.attributes ≤ vec_len now.attributes = omega (
      arith,
      c.first_rows-first.ensures.attributes,
      old.attributes.ok.0,
      now.attributes.ok.0,
      ap (length {A = XmlAttribute}) tagged.attributes,
      length-append old.attributes.items tagged.more_attributes,
    ) in
    let declarations : first.declarations ≤ vec_len now.declarations = omega (
      arith,
      c.first_rows-first.ensures.declarations,
      old.declarations.ok.0,
      now.declarations.ok.0,
      ap (length {A = XmlDeclaration}) tagged.declarations,
      length-append old.declarations.items tagged.more_declarations,
    ) in
    opens_tag c.args.self.now c.read_attributes.new.self c.name_attributes.new.self _ c.in_ok-name.name opened c.args.tag.now c.in_ok-inside.inside.now c.in_ok-name.rest.now c.in_ok-end.end.now c.in_ok-is_empty.after.now
    c.in_ok-is_empty.is_empty first.declarations c.in_ok-uri.uri c.in_ok-index.index added.0 read.0
    open_is shorter c.requires.room front c.in_ok-name.ensures.name c.in_ok-name.ensures.utf8.0 c.in_ok-name.ensures.utf8.1 read.1 c.in_ok-is_empty.ensures.end read.2 c.in_ok-uri.ensures.is c.in_ok-name_attributes.ensures.rest
    tagged refl refl c.in_ok-push.ensures.items c.in_ok-index.ensures.rest c.in_ok-index.ensures.uris c.in_ok-index.ensures.index added.1
    (ap (λ (n : XmlName). n.uri) added.2) (ap (λ (n : XmlName). n.prefix.now) added.2) (ap (λ (n : XmlName). n.local.now) added.2) at (added.4 ∙ parent)
    (added.5.0 attributes ∙ c.first_rows-first.ensures.attributes) added.5.1 (added.6.0 declarations ∙ c.first_rows-first.ensures.declarations) added.6.1

pub returns-in_err-name-clause-refused : goal.returns-in_err-name-clause-refused
returns-in_err-name-clause-refused c =
    let p = err_from_is_err_and c.from_residual-in_err-name.result c.from_residual-in_err-name.ensures.1 in
    let whole : source c.args.tag.now ≡ 60 ∷ source c.in_ok-inside.inside.now = opened_lines (chars c.args.tag.now) (chars c.in_ok-inside.inside.now) (rw c.in_ok-inside.ensures.ok_part at c.after_char.ensures.cases) in
    rw (p.1, p.2) (λ own opened open_is.
    no_tag_name (scope_of opened) (source c.args.tag.now) (source c.in_ok-inside.inside.now) whole c.in_err-name.ensures.refused)

pub returns-in_err-end-clause-refused : goal.returns-in_err-end-clause-refused
returns-in_err-end-clause-refused c =
    let p = err_from_is_err_and c.from_residual-in_err-end.result c.from_residual-in_err-end.ensures.1 in
    let whole : source c.args.tag.now ≡ 60 ∷ source c.in_ok-inside.inside.now = opened_lines (chars c.args.tag.now) (chars c.in_ok-inside.inside.now) (rw c.in_ok-inside.ensures.ok_part at c.after_char.ensures.cases) in
    rw (p.1, p.2) (λ own opened open_is.
    let first = c.first_rows-first.result in
    no_tag_attributes (scope_of opened) (source c.args.tag.now) (source c.in_ok-inside.inside.now) (source c.in_ok-name.rest.now) c.in_ok-name.name whole c.in_ok-name.ensures.name c.in_ok-name.ensures.ends
    (c.in_err-end.ensures.refused own (scope_of opened) (starts_attributes c.args.self.now (scope_of opened) first.declarations c.first_rows-first.ensures.declarations open_is.knows open_is.denotes)))

pub returns-in_err-is_empty-clause-refused : goal.returns-in_err-is_empty-clause-refused
returns-in_err-is_empty-clause-refused c =
    let p = err_from_is_err_and c.from_residual-in_err-is_empty.result c.from_residual-in_err-is_empty.ensures.1 in
    let whole : source c.args.tag.now ≡ 60 ∷ source c.in_ok-inside.inside.now = opened_lines (chars c.args.tag.now) (chars c.in_ok-inside.inside.now) (rw c.in_ok-inside.ensures.ok_part at c.after_char.ensures.cases) in
    rw (p.1, p.2) (λ own opened open_is.
    let first = c.first_rows-first.result in
    let read = c.in_ok-end.ensures.attributes (scope_of opened) (starts_attributes c.args.self.now (scope_of opened) first.declarations c.first_rows-first.ensures.declarations open_is.knows open_is.denotes) in
    no_tag_close (scope_of opened) (source c.args.tag.now) (source c.in_ok-inside.inside.now) (source c.in_ok-name.rest.now) c.in_ok-name.name whole c.in_ok-name.ensures.name c.in_ok-name.ensures.ends read.0 (source c.in_ok-end.end.now) read.1 c.in_ok-end.ensures.ends
    c.in_err-is_empty.ensures.refused)

pub returns-in_err-uri-clause-refused : goal.returns-in_err-uri-clause-refused
returns-in_err-uri-clause-refused c =
    let p = err_from_is_err_and c.from_residual-in_err-uri.result c.from_residual-in_err-uri.ensures.1 in
    let whole : source c.args.tag.now ≡ 60 ∷ source c.in_ok-inside.inside.now = opened_lines (chars c.args.tag.now) (chars c.in_ok-inside.inside.now) (rw c.in_ok-inside.ensures.ok_part at c.after_char.ensures.cases) in
    rw (p.1, p.2) (λ own opened open_is.
    let first = c.first_rows-first.result in
    let read = c.in_ok-end.ensures.attributes (scope_of opened) (starts_attributes c.args.self.now (scope_of opened) first.declarations c.first_rows-first.ensures.declarations open_is.knows open_is.denotes) in
    no_tag_uri (scope_of opened) (source c.args.tag.now) (source c.in_ok-inside.inside.now) (source c.in_ok-name.rest.now) c.in_ok-name.name whole c.in_ok-name.ensures.name c.in_ok-name.ensures.ends read.0 (source c.in_ok-end.end.now) read.1 c.in_ok-end.ensures.ends
    c.in_ok-name.ensures.utf8.0 (prefix_lacks c.read_attributes.new.self.tables.document c.read_attributes.new.self.scopes c.in_ok-name.name.prefix.now (bindings read.0 ++ scope_of opened) (read.2.denotes c.in_ok-name.name.prefix.now) c.in_err-uri.ensures.none))

pub returns-in_err-name_attributes-clause-refused : goal.returns-in_err-name_attributes-clause-refused
returns-in_err-name_attributes-clause-refused c =
    let p = err_from_is_err_and c.from_residual-in_err-name_attributes.result c.from_residual-in_err-name_attributes.ensures.1 in
    let whole : source c.args.tag.now ≡ 60 ∷ source c.in_ok-inside.inside.now = opened_lines (chars c.args.tag.now) (chars c.in_ok-inside.inside.now) (rw c.in_ok-inside.ensures.ok_part at c.after_char.ensures.cases) in
    rw (p.1, p.2) (λ own opened open_is.
    let first = c.first_rows-first.result in
    let read = c.in_ok-end.ensures.attributes (scope_of opened) (starts_attributes c.args.self.now (scope_of opened) first.declarations c.first_rows-first.ensures.declarations open_is.knows open_is.denotes) in
    no_tag_names (scope_of opened) (source c.args.tag.now) (source c.in_ok-inside.inside.now) (source c.in_ok-name.rest.now) c.in_ok-name.name whole c.in_ok-name.ensures.name c.in_ok-name.ensures.ends read.0 (source c.in_ok-end.end.now) read.1 c.in_ok-end.ensures.ends
    (c.in_err-name_attributes.ensures.refused own c.args.self.now (scope_of opened) first.declarations read.0 read.2 c.first_rows-first.ensures.attributes open_is.may_bind))
