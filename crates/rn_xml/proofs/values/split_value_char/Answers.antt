use Rattle.std.proofs.Common.{sym}
use Rattle.std.specs.Str.{chars}
use Rattle.rn_xml.specs.inside.Rests.{source}
use Rattle.rn_xml.proofs.AttributeValues.{referred, kept, spaced}
use Rattle.rn_xml.proofs.Lengths.{shorter_behind}
use Rattle.rn_xml.proofs.Refusals.RefusedValues.{leaves_reference, leaves_character}
use Rattle.rn_xml.proofs.values.split_value_char.Goals as goal

pub returns-then-c-eq38-clause-value : goal.returns-then-c-eq38-clause-value
returns-then-c-eq38-clause-value c = λ quote other. referred quote c.in_ok-c.c (source c.args.rest.now) (source c.in_ok-c.after.now) c.in_ok-c.ensures.reference

pub returns-then-is_white-clause-reads : goal.returns-then-is_white-clause-reads
returns-then-is_white-clause-reads c = shorter_behind c.args.rest.now c.args.after.now c.args.c c.utf8.rest c.utf8.after c.requires

pub returns-then-is_white-clause-value : goal.returns-then-is_white-clause-value
returns-then-is_white-clause-value c = λ quote other. spaced quote c.args.c (chars c.args.rest.now) (chars c.args.after.now) c.spaced.result c.requires (sym c.if-is_white.ensures) c.spaced.ensures

pub returns-clause-reads : goal.returns-clause-reads
returns-clause-reads c = shorter_behind c.args.rest.now c.args.after.now c.args.c c.utf8.rest c.utf8.after c.requires

pub returns-clause-value : goal.returns-clause-value
returns-clause-value c = λ quote other. kept quote c.args.c (chars c.args.rest.now) (chars c.args.after.now) c.requires other c.if-c-eq38.false c.if-c-eq60.false (sym c.if-is_white.ensures) (sym c.if-not-is_xml_char.ensures)

pub returns-then-c-eq38-clause-leaves : goal.returns-then-c-eq38-clause-leaves
returns-then-c-eq38-clause-leaves c = λ quote delimits other. leaves_reference quote (source c.args.rest.now) c.in_ok-c.c (source c.in_ok-c.after.now) delimits c.in_ok-c.ensures.reference

pub returns-then-is_white-clause-leaves : goal.returns-then-is_white-clause-leaves
returns-then-is_white-clause-leaves c = λ quote delimits other. leaves_character quote c.args.c (chars c.args.rest.now) (chars c.args.after.now) delimits c.requires other c.if-c-eq38.false

pub returns-clause-leaves : goal.returns-clause-leaves
returns-clause-leaves c = λ quote delimits other. leaves_character quote c.args.c (chars c.args.rest.now) (chars c.args.after.now) delimits c.requires other c.if-c-eq38.false
