use Rattle.std.specs.Str.{chars}
use Rattle.rn_xml.proofs.Numbers.{decimal_answer, hexadecimal_answer, entity_reference}
use Rattle.rn_xml.proofs.QNames.{name_split}
use Rattle.rn_xml.proofs.Refusals.RefusedFronts.{if_err}
use Rattle.rn_xml.proofs.Refusals.RefusedReferences.{hexadecimal_refused, decimal_refused, no_entity_name, no_entity_end, no_entity_known}
use Rattle.rn_xml.proofs.references.split_target.Goals as goal

pub returns-in-Some-clause-reference : goal.returns-in-Some-clause-reference
returns-in-Some-clause-reference c = hexadecimal_answer (chars c.args.text.now) (chars c.in-Some.number.now) c.split_number.result c.in-Some.ensures.cases c.split_number.ensures.number

pub returns-in-Some-after_char-clause-reference : goal.returns-in-Some-after_char-clause-reference
returns-in-Some-after_char-clause-reference c =
    decimal_answer (chars c.args.text.now) (chars c.in-Some-after_char.number.now) c.split_number-in-Some-after_char.result c.in-Some-after_char.ensures.cases c.split_number-in-Some-after_char.ensures.number

pub returns-clause-reference : goal.returns-clause-reference
returns-clause-reference c =
    let name = rw c.in_ok-name.ensures.ok_part at c.split_ncname.ensures.cases in
    let end = rw c.in_ok-after.ensures.ok_part at c.after_char-2.ensures.cases in
    let entity = rw c.in_ok-c.ensures.ok_part at c.entity_char.ensures in
    entity_reference (chars c.in_ok-name.name.now) (chars c.args.text.now) (chars c.in_ok-name.rest.now) (chars c.in_ok-after.after.now) c.in_ok-c.c (name_split _ _ _ name.0 name.2) end entity

pub returns-in-Some-clause-refused : goal.returns-in-Some-clause-refused
returns-in-Some-clause-refused c = hexadecimal_refused c.split_number.result (chars c.args.text.now) (chars c.in-Some.number.now) c.in-Some.ensures.cases c.split_number.ensures.refused

pub returns-in-Some-after_char-clause-refused : goal.returns-in-Some-after_char-clause-refused
returns-in-Some-after_char-clause-refused c =
    decimal_refused c.split_number-in-Some-after_char.result (chars c.args.text.now) (chars c.in-Some-after_char.number.now) c.in-Some-after_char.ensures.cases c.in_default.ensures.cases c.split_number-in-Some-after_char.ensures.refused

pub returns-in_err-name-clause-refused : goal.returns-in_err-name-clause-refused
returns-in_err-name-clause-refused c =
    let none = rw c.in_err-name.ensures.ok_part at c.split_ncname.ensures.cases in
    if_err c.from_residual.result (no_entity_name (chars c.args.text.now) c.in_default-after_char.ensures.cases none)

pub returns-in_err-after-clause-refused : goal.returns-in_err-after-clause-refused
returns-in_err-after-clause-refused c =
    let name = rw c.in_ok-name.ensures.ok_part at c.split_ncname.ensures.cases in
    let none = rw c.in_err-after.ensures.ok_part at c.after_char-2.ensures.cases in
    if_err c.from_residual-in_err-after.result (no_entity_end (chars c.args.text.now) c.in_default-after_char.ensures.cases (chars c.in_ok-name.rest.now) name.2 none)

pub returns-in_err-c-clause-refused : goal.returns-in_err-c-clause-refused
returns-in_err-c-clause-refused c =
    let name = rw c.in_ok-name.ensures.ok_part at c.split_ncname.ensures.cases in
    let none = rw c.in_err-c.ensures.ok_part at c.entity_char.ensures in
    if_err c.from_residual-in_err-c.result (no_entity_known (chars c.args.text.now) c.in_default-after_char.ensures.cases (chars c.in_ok-name.name.now) name.0 none)
