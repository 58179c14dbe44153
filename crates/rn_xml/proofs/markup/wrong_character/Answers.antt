use Rattle.std.proofs.Common.{inr, sym}
use Rattle.std.specs.Str.{chars}
use Rattle.rn_xml.proofs.CharacterData.{data_char, absent_behind, absent_other}
use Rattle.rn_xml.proofs.Refusals.RefusedCharacters.{end_found}
use Rattle.rn_xml.proofs.markup.wrong_character.Goals as goal
use Rattle.rn_xml.proofs.markup.wrong_character.Goals.{else-c-eq93-via-then-c-eq93+else-is_some, else-c-eq93-via-else-c-eq93}

pub returns-then-is_xml_char-clause-right : goal.returns-then-is_xml_char-clause-right
returns-then-is_xml_char-clause-right c = λ none. (
  data_char c.args.c c.requires.ampersand c.requires.less_than (sym c.if-is_xml_char.ensures),
  elim c.else-c-eq93.branch [
    | else-c-eq93-via-then-c-eq93+else-is_some w ↦ absent_behind c.args.c (chars c.args.after.now) w.after_front.result (sym w.if-is_some.ensures) w.after_front.ensures.cases
    | else-c-eq93-via-else-c-eq93 w ↦ absent_other c.args.c (chars c.args.after.now) w.if-c-eq93.false
  ],
)

pub returns-then-is_some-clause-wrong : goal.returns-then-is_some-clause-wrong
returns-then-is_some-clause-wrong c = inr (end_found c.args.c (chars c.args.after.now) c.after_front.result c.if-c-eq93.true (sym c.if-is_some.ensures) c.after_front.ensures.cases)
