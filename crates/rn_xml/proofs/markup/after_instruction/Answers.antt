use Rattle.std.specs.Str.{chars}
use Rattle.rn_xml.specs.inside.Rests.{source}
use Rattle.rn_xml.proofs.MarkupPieces.{bare_read, full_read}
use Rattle.rn_xml.proofs.QNames.{name_split}
use Rattle.rn_xml.proofs.Refusals.RefusedFronts.{if_err}
use Rattle.rn_xml.proofs.Refusals.RefusedMarkup.{instruction_broken, no_instruction, no_target, reserved_target, no_space, no_mark_end}
use Rattle.rn_xml.proofs.Decoding.DeclarationFields.{no_white}
use Rattle.rn_xml.proofs.markup.after_instruction.Goals as goal

pub returns-in-Some-after_front-clause-instruction : goal.returns-in-Some-after_front-clause-instruction
returns-in-Some-after_front-clause-instruction c =
    let name = rw c.in_ok-name.ensures.ok_part at c.split_ncname.ensures.cases in
    bare_read (chars c.args.text.now) (chars c.in-Some.inside.now) (chars c.in_ok-name.name.now) (chars c.in_ok-name.rest.now) (chars c.in-Some-after_front.after.now) c.in-Some.ensures.cases (name_split _ _ _ name.0 name.2)
    c.in-Some-after_front.ensures.cases (c.is_reserved.ensures.target c.if-is_reserved.false)

pub returns-clause-instruction : goal.returns-clause-instruction
returns-clause-instruction c =
    let name = rw c.in_ok-name.ensures.ok_part at c.split_ncname.ensures.cases in
    full_read (chars c.args.text.now) (chars c.in-Some.inside.now) (chars c.in_ok-name.name.now) (chars c.in_ok-name.rest.now) (source c.after_space.result.now) (chars c.in_ok-after_end.field-0.now) c.in-Some.ensures.cases
    (name_split _ _ _ name.0 name.2) (c.after_space.ensures.some c.if-after_space-rest.false) c.in_ok-after_end.ensures.inside (c.is_reserved.ensures.target c.if-is_reserved.false)

pub returns-in_default-clause-instruction : goal.returns-in_default-clause-instruction
returns-in_default-clause-instruction c = no_instruction (chars c.args.text.now) c.in_default.ensures.cases

pub returns-in_err-name-clause-refused : goal.returns-in_err-name-clause-refused
returns-in_err-name-clause-refused c =
    let none = rw c.in_err-name.ensures.ok_part at c.split_ncname.ensures.cases in
    if_err c.from_residual.result (instruction_broken (chars c.args.text.now) (chars c.in-Some.inside.now) c.in-Some.ensures.cases (no_target (chars c.args.text.now) (chars c.in-Some.inside.now) c.in-Some.ensures.cases none))

pub returns-then-is_reserved-clause-refused : goal.returns-then-is_reserved-clause-refused
returns-then-is_reserved-clause-refused c =
    let name = rw c.in_ok-name.ensures.ok_part at c.split_ncname.ensures.cases in
    instruction_broken (chars c.args.text.now) (chars c.in-Some.inside.now) c.in-Some.ensures.cases
    (reserved_target (chars c.args.text.now) (chars c.in-Some.inside.now) c.in-Some.ensures.cases (chars c.in_ok-name.name.now) (chars c.in_ok-name.rest.now) name.1 (name_split _ _ _ name.0 name.2) name.2 (c.is_reserved.ensures.reserved c.if-is_reserved.true))

pub returns-then-after_space-rest-clause-refused : goal.returns-then-after_space-rest-clause-refused
returns-then-after_space-rest-clause-refused c =
    let utf8 = rw c.in_ok-name.ensures.ok_part at c.split_ncname.ensures.utf8 in
    let name = rw c.in_ok-name.ensures.ok_part at c.split_ncname.ensures.cases in
    instruction_broken (chars c.args.text.now) (chars c.in-Some.inside.now) c.in-Some.ensures.cases
    (no_space (chars c.args.text.now) (chars c.in-Some.inside.now) c.in-Some.ensures.cases (chars c.in_ok-name.name.now) (chars c.in_ok-name.rest.now) name.1 (name_split _ _ _ name.0 name.2) name.2
    c.in_default-after_front.ensures.cases (no_white c.in_ok-name.rest.now c.after_space.result.now utf8.1 c.after_space.utf8 c.after_space.ensures.run c.if-after_space-rest.true))

pub returns-in_err-after_end-clause-refused : goal.returns-in_err-after_end-clause-refused
returns-in_err-after_end-clause-refused c =
    let name = rw c.in_ok-name.ensures.ok_part at c.split_ncname.ensures.cases in
    if_err c.from_residual-in_err-after_end.result (instruction_broken (chars c.args.text.now) (chars c.in-Some.inside.now) c.in-Some.ensures.cases
    (no_mark_end (chars c.args.text.now) (chars c.in-Some.inside.now) c.in-Some.ensures.cases (chars c.in_ok-name.name.now) (chars c.in_ok-name.rest.now) name.1 (name_split _ _ _ name.0 name.2) name.2
    c.in_default-after_front.ensures.cases c.in_err-after_end.ensures.refused))
