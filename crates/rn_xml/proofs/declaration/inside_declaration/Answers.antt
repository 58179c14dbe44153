use Rattle.rn_xml.proofs.Decoding.NamedEncodings.{no_front, longer_name}
use Rattle.std.specs.Str.{chars}
use Rattle.rn_text.specs.Characters.{is_name_char}
use Rattle.rn_xml.proofs.Decoding.DeclarationFields.{no_run}
use Rattle.rn_xml.proofs.Refusals.RefusedFronts.{lines_begin}
use Rattle.rn_xml.proofs.Refusals.RefusedNames.{no_feed}
use Rattle.rn_xml.proofs.declaration.inside_declaration.Goals as goal

pub returns-in_err-inside-clause-front : goal.returns-in_err-inside-clause-front
returns-in_err-inside-clause-front c = rw c.from_residual.ensures (no_front c.args.text.now c.in_err-inside.ensures.cases)

pub returns-else-after_name_chars-inside-clause-front : goal.returns-else-after_name_chars-inside-clause-front
returns-else-after_name_chars-inside-clause-front c =
    longer_name c.args.text.now c.in_ok-inside.inside.now c.after_name_chars.result.now c.in_ok-inside.ensures.utf8 c.after_name_chars.utf8
    c.in_ok-inside.ensures.cases c.after_name_chars.ensures c.if-after_name_chars-inside.false

pub returns-then-after_name_chars-inside-clause-ends : goal.returns-then-after_name_chars-inside-clause-ends
returns-then-after_name_chars-inside-clause-ends c = lines_begin is_name_char (chars c.in_ok-inside.inside.now) no_feed
    (no_run is_name_char c.in_ok-inside.inside.now c.after_name_chars.result.now c.in_ok-inside.ensures.utf8 c.after_name_chars.utf8 c.after_name_chars.ensures c.if-after_name_chars-inside.true)
