use Rattle.std.proofs.Common.{◌∙◌, sym, ap, refl, subst}
use Rattle.std.specs.Prelude.{string_bytes}
use Rattle.std.specs.Str.{chars}
use Rattle.std.proofs.lemmas.Str.{encodes-chars, IsUtf8-string_bytes}
use Rattle.rn_xml.specs.inside.Rests.{source}
use Rattle.rn_xml.specs.inside.TagTables.{Adds}
use Rattle.rn_xml.specs.inside.WrittenAttributes.{Unnamed, written_as}
use Rattle.rn_xml.proofs.TagNames.{attribute_is}
use Rattle.rn_xml.proofs.TagSteps.{adds_attribute}
use Rattle.std.proofs.lemmas.Result.{err_from_is_err_and}
use Rattle.rn_xml.specs.inside.TagTables.{CannotAdd}
use Rattle.rn_xml.proofs.Refusals.OneReading.Tags.{attribute_once}
use Rattle.rn_xml.proofs.Refusals.RefusedAttributes.{no_attribute_name, no_attribute_equals, no_attribute_value}
use Rattle.rn_xml.proofs.tags.TagReader.read_attribute.Goals as goal
use Rattle.rn_xml.proofs.tags.TagReader.read_attribute.Goals.{in-Some+in_ok-declare-in-Some, in-None+in_ok-add_attribute-in-None}

pub returns-clause-attribute : goal.returns-clause-attribute
returns-clause-attribute c =
    let text = string_bytes c.in_ok-value.value in
    let value = chars text in
    let a = written_as c.in_ok-name.name value in
    let value_is = encodes-chars text (IsUtf8-string_bytes c.in_ok-value.value) in
    let is = attribute_is c.in_ok-name.name (source c.args.text.now) (source c.in_ok-name.rest.now) (source c.in_ok-quote.inside.now) (source c.in_ok-value.after.now) value c.in_ok-quote.quote
    c.in_ok-name.ensures.name c.in_ok-quote.ensures.equals c.in_ok-quote.ensures.quote c.in_ok-value.ensures.value in
    let adds : Adds c.args.self.now c.match-declared_prefix.self c.args.first a = elim c.match-declared_prefix.branch [
      | in-Some+in_ok-declare-in-Some w ↦
          let prefix = w.in-Some.ensures value in
          subst (λ s. Adds c.args.self.now s c.args.first a) (sym w.self-is)
          (w.in_ok-declare-in-Some.ensures.declared a (chars w.in-Some.prefix.now, prefix.0, encodes-chars w.in-Some.prefix.now prefix.1, value_is ∙ sym w.as_str.ensures.value))
      | in-None+in_ok-add_attribute-in-None w ↦
          let added = w.in_ok-add_attribute-in-None.ensures in
          subst (λ s. Adds c.args.self.now s c.args.first a) (sym w.self-is)
          (λ r outer written has. adds_attribute r c.args.self.now _ outer c.args.first written a added.added.0 has added.rest added.uris refl refl refl added.added.1 (
            w.in-None.ensures value,
            encodes-chars c.in_ok-name.name.prefix.now c.in_ok-name.ensures.utf8.0 ∙ sym (ap (λ (x : Unnamed). x.prefix) added.added.2),
            encodes-chars c.in_ok-name.name.local.now c.in_ok-name.ensures.utf8.1 ∙ sym (ap (λ (x : Unnamed). x.local) added.added.2),
            value_is ∙ sym (ap (λ (x : Unnamed). x.value) added.added.2),
          ))
    ] in
    (a, is, adds)

pub returns-in_err-name-clause-refused : goal.returns-in_err-name-clause-refused
returns-in_err-name-clause-refused c =
    let p = err_from_is_err_and c.from_residual.result c.from_residual.ensures.1 in
    rw (p.1, p.2) (λ own a rest is r outer written has. absurd (no_attribute_name (source c.args.text.now) a rest c.in_err-name.ensures.refused is))

pub returns-in_err-quote-clause-refused : goal.returns-in_err-quote-clause-refused
returns-in_err-quote-clause-refused c =
    let p = err_from_is_err_and c.from_residual-in_err-quote.result c.from_residual-in_err-quote.ensures.1 in
    rw (p.1, p.2) (λ own a rest is r outer written has.
    absurd (no_attribute_equals (source c.args.text.now) a rest c.in_ok-name.name (source c.in_ok-name.rest.now) c.in_ok-name.ensures.name c.in_ok-name.ensures.ends c.in_err-quote.ensures.refused is))

pub returns-in_err-value-clause-refused : goal.returns-in_err-value-clause-refused
returns-in_err-value-clause-refused c =
    let p = err_from_is_err_and c.from_residual-in_err-value.result c.from_residual-in_err-value.ensures.1 in
    rw (p.1, p.2) (λ own a rest is r outer written has.
    absurd (no_attribute_value (source c.args.text.now) a rest c.in_ok-name.name (source c.in_ok-name.rest.now) c.in_ok-name.ensures.name c.in_ok-name.ensures.ends c.in_ok-quote.quote (source c.in_ok-quote.inside.now)
    c.in_ok-quote.ensures.quote c.in_ok-quote.ensures.equals (c.in_err-value.ensures.refused own) is))

pub returns-in_err-declare-in-Some-clause-refused : goal.returns-in_err-declare-in-Some-clause-refused
returns-in_err-declare-in-Some-clause-refused c =
    let p = err_from_is_err_and c.from_residual-in_err-declare-in-Some.result c.from_residual-in_err-declare-in-Some.ensures.1 in
    let text = string_bytes c.in_ok-value.value in
    let value = chars text in
    let value_is = encodes-chars text (IsUtf8-string_bytes c.in_ok-value.value) in
    let prefix = c.in-Some.ensures value in
    rw (p.1, p.2) (λ own a rest is r outer written has.
    let mine = attribute_is c.in_ok-name.name (source c.args.text.now) (source c.in_ok-name.rest.now) (source c.in_ok-quote.inside.now) (source c.in_ok-value.after.now) value c.in_ok-quote.quote
    c.in_ok-name.ensures.name c.in_ok-quote.ensures.equals c.in_ok-quote.ensures.quote c.in_ok-value.ensures.value in
    let same = attribute_once (source c.args.text.now) (source c.args.text.now) (written_as c.in_ok-name.name value) a (source c.in_ok-value.after.now) rest mine is refl in
    subst (CannotAdd written) same.0 (c.in_err-declare-in-Some.ensures.refused own (written_as c.in_ok-name.name value)
    (chars c.in-Some.prefix.now, prefix.0, encodes-chars c.in-Some.prefix.now prefix.1, value_is ∙ sym c.as_str.ensures.value) r outer written has))
