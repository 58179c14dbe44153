use Rattle.std.proofs.Common.{length, ap, sym, ◌∙◌, refl}
use Rattle.std.specs.Prelude.{slice_get}
use Rattle.std.proofs.lemmas.Option.{slice_get_read}
use Rattle.rn_xml.proofs.tables.Tables.attribute.Goals as goal

pub returns : goal.returns
returns c =
    let h = c.in_ok-attribute.ensures.lookup in (
      c.in_ok-attribute.attribute.now,
      ap (λ l. slice_get l c.args.index) (sym c.deref.ensures.value)
          ∙ slice_get_read c.deref.result.now (length c.deref.result.now) c.args.index c.in_ok-attribute.attribute.now refl h.3.0 h.1,
      refl,
    )
