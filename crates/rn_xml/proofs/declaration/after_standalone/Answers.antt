use Rattle.std.proofs.Common.{sym, refl, ap, ◌∙◌}
use Rattle.std.specs.Prelude.{codes}
use Rattle.std.specs.Str.{chars}
use Rattle.std.proofs.lemmas.Slice.Eq.{bytes_eq-Decides}
use Rattle.rn_xml.specs.XmlCharacters.{lines_of}
use Rattle.rn_xml.specs.XmlDocuments as d
use Rattle.rn_xml.specs.inside.Rests.{source}
use Rattle.rn_xml.proofs.Decoding.DeclarationParts.{yes_read, no_read, plain_word}
use Rattle.std.proofs.lemmas.Bool.{true≢false}
use Rattle.rn_xml.proofs.Refusals.RefusedDeclarations.{standalone_none, standalone_some, standalone_wrong, word_there}
use Rattle.rn_xml.proofs.declaration.after_standalone.Goals as goal
use Rattle.rn_xml.proofs.declaration.after_standalone.Goals.{then-eq, else-eq}

pub returns-in-None-clause-standalone : goal.returns-in-None-clause-standalone
returns-in-None-clause-standalone c = d.MayBeStandalone.none

pub returns-in-Some-clause-standalone : goal.returns-in-Some-clause-standalone
returns-in-Some-clause-standalone c = elim c.if-eq.branch [
  | then-eq w ↦
      yes_read (source c.args.text.now) (source c.in-Some.field.value.now) (source c.in-Some.field.rest.now) c.in-Some.ensures.field
      (ap (λ v. lines_of (chars v)) ((bytes_eq-Decides c.in-Some.field.value.now (codes "yes")).0 (sym c.eq.ensures ∙ w.if-eq.true)) ∙ plain_word (codes "yes") refl refl)
  | else-eq w ↦
      no_read (source c.args.text.now) (source c.in-Some.field.value.now) (source c.in-Some.field.rest.now) c.in-Some.ensures.field
      (ap (λ v. lines_of (chars v)) ((bytes_eq-Decides c.in-Some.field.value.now (codes "no")).0 (sym w.eq-else-eq.ensures ∙ sym w.value-is ∙ c.if-eq-2.true)) ∙ plain_word (codes "no") refl refl)
]

pub returns-in-None-clause-only : goal.returns-in-None-clause-only
returns-in-None-clause-only c = λ rest. standalone_none (source c.args.text.now) rest c.in-None.ensures.only

pub returns-in-Some-clause-only : goal.returns-in-Some-clause-only
returns-in-Some-clause-only c = standalone_some (source c.args.text.now) (source c.in-Some.field.value.now) (source c.in-Some.field.rest.now) c.in-Some.ensures.field c.in-Some.ensures.only

pub returns-in-Some-2-clause-only : goal.returns-in-Some-2-clause-only
returns-in-Some-2-clause-only c = elim c.if-eq.branch [
  | then-eq w ↦ absurd (true≢false (sym w.if-eq.true ∙ sym w.value-is ∙ c.if-eq-2.false))
  | else-eq w ↦ standalone_wrong (source c.args.text.now) (source c.in-Some.field.value.now) (source c.in-Some.field.rest.now) c.in-Some.ensures.field c.in-Some.ensures.only
      (λ e. true≢false (sym ((bytes_eq-Decides c.in-Some.field.value.now (codes "yes")).1 (word_there (codes "yes") c.in-Some.field.value.now c.in-Some.ensures.utf8.0 refl refl e)) ∙ sym c.eq.ensures ∙ w.if-eq.false))
      (λ e. true≢false (sym ((bytes_eq-Decides c.in-Some.field.value.now (codes "no")).1 (word_there (codes "no") c.in-Some.field.value.now c.in-Some.ensures.utf8.0 refl refl e)) ∙ sym w.eq-else-eq.ensures ∙ sym w.value-is ∙ c.if-eq-2.false))
]
