use Rattle.std.proofs.Common.{refl, arith, ap, ◌∙◌}
use Rattle.std.specs.Prelude.{string_bytes}
use Rattle.rn_text.specs.Texts.{Text}
use Rattle.rn_xml.specs.inside.WrittenAttributes.{Unnamed}
use Rattle.rn_xml.proofs.TableSteps.{may_push_attribute}
use Rattle.rn_xml.proofs.tables.Tables.add_attribute.Goals as goal

pub invariant_of-self : goal.invariant_of-self
invariant_of-self c = record { sound = may_push_attribute c.args.self.now.document _ _ _ refl refl c.push.ensures.items refl refl (omega arith) c.args.self.now.sound }

pub returns-clause-added : goal.returns-clause-added
returns-clause-added c =
    let make : Text → Text → Unnamed = λ p l. record { prefix = p; local = l; value = string_bytes c.args.value } in (
      record { name = c.unnamed.result; at = c.args.at; value = c.args.value; value_at = c.args.value_at },
      c.in_ok-push.ensures.items,
      ap (λ p. make p c.unnamed.result.local.now) (ap (λ b. b.now) c.unnamed.ensures.prefix) ∙ ap (make c.args.name.prefix.now) (ap (λ b. b.now) c.unnamed.ensures.local),
    )
