use Rattle.std.specs.Prelude.{string_bytes}
use Rattle.std.specs.Str.{chars}
use Rattle.rn_xml.proofs.CharacterData.{character_read}
use Rattle.rn_xml.proofs.Refusals.RefusedCharacters.{wrong_reaches}
use Rattle.rn_xml.proofs.markup.read_character.Goals as goal

pub returns-clause-characters : goal.returns-clause-characters
returns-clause-characters c =
    let right = c.wrong_character.ensures.right c.in_default.is in
    character_read (string_bytes c.args.out.now) (string_bytes c.push_normal.new.out) (chars c.args.text.now) (chars c.args.after.now) c.args.c c.requires.first right.0 right.1 c.in_ok-push_normal.ensures

pub returns-in-Some-clause-refused : goal.returns-in-Some-clause-refused
returns-in-Some-clause-refused c = λ own.
    let wrong = rw c.in-Some.is at c.wrong_character.ensures.wrong in
    wrong_reaches (chars c.args.text.now) c.args.c (chars c.args.after.now) c.requires.first c.requires.ampersand c.requires.less_than wrong
