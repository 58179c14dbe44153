use Rattle.std.proofs.Common.{append-nil, sym, subst}
use Rattle.rn_rng.specs.Layout.{attribute_text, attributes_text}
use Rattle.rn_rng.specs.inside.Views.{attribute_view, optional_view}
use Rattle.rn_rng.specs.inside.Writes.{Writes}
use Rattle.rn_rng.proofs.Writing.{writes_as, writes_nil}
use Rattle.rn_rng.proofs.lines.Writer.put_optional.Goals as goal

pub returns-in-Some : goal.returns-in-Some
returns-in-Some c =
    subst (λ o. Writes (attributes_text (optional_view o)) c.args.self.now c.put_attribute.new.self) (sym c.in-Some.is)
    (writes_as (sym (append-nil (attribute_text (attribute_view c.in-Some.attribute)))) c.put_attribute.ensures)

pub returns-in-None : goal.returns-in-None
returns-in-None c = subst (λ o. Writes (attributes_text (optional_view o)) c.args.self.now c.args.self.now) (sym c.in-None.is) (writes_nil c.args.self.now)
