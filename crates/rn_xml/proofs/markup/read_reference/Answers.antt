use Rattle.std.specs.Prelude.{string_bytes}
use Rattle.std.proofs.lemmas.Str.{IsUtf8-string_bytes}
use Rattle.rn_xml.specs.inside.Rests.{source}
use Rattle.rn_xml.proofs.CharacterData.{reference_read}
use Rattle.rn_xml.proofs.PushedCharacters.{pushed}
use Rattle.rn_xml.proofs.markup.read_reference.Goals as goal

pub returns-clause-characters : goal.returns-clause-characters
returns-clause-characters c =
    reference_read (string_bytes c.args.out.now) (string_bytes c.push.new.self) (source c.args.text.now) (source c.in_ok-c.after.now) c.in_ok-c.c c.in_ok-c.ensures.reference
    (pushed (string_bytes c.args.out.now) (string_bytes c.push.new.self) c.in_ok-c.c (IsUtf8-string_bytes c.args.out.now) (IsUtf8-string_bytes c.push.new.self) c.in_ok-push.ensures.bytes)
