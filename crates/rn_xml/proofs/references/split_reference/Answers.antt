use Rattle.std.proofs.Common.{sym, subst}
use Rattle.std.specs.Str.{chars}
use Rattle.rn_xml.specs.XmlCharacters.{IsReference, lines_of}
use Rattle.rn_xml.proofs.Numbers.{reference_lines}
use Rattle.rn_xml.proofs.Refusals.RefusedFronts.{if_err}
use Rattle.rn_xml.proofs.Refusals.RefusedReferences.{no_reference, no_ampersand}
use Rattle.rn_xml.proofs.references.split_reference.Goals as goal

pub returns-in-Ok-clause-reference : goal.returns-in-Ok-clause-reference
returns-in-Ok-clause-reference c =
    let front = rw c.in_ok-target.ensures.ok_part at c.after_char.ensures.cases in
    subst (λ l. IsReference (lines_of l) c.in-Ok.found.0 (lines_of (chars c.in-Ok.found.1.now))) (sym front) (reference_lines _ _ _ c.in-Ok.ensures.reference)

pub returns-in_err-target-clause-refused : goal.returns-in_err-target-clause-refused
returns-in_err-target-clause-refused c =
    let none = rw c.in_err-target.ensures.ok_part at c.after_char.ensures.cases in
    if_err c.from_residual.result (no_reference (chars c.args.text.now) (no_ampersand (chars c.args.text.now) none))

pub returns-in-Err-clause-refused : goal.returns-in-Err-clause-refused
returns-in-Err-clause-refused c =
    let front = rw c.in_ok-target.ensures.ok_part at c.after_char.ensures.cases in
    no_reference (chars c.args.text.now) (λ b rest h. c.in-Err.ensures.refused b rest (subst (λ l. IsReference l b rest) front h))
