use Rattle.std.proofs.Common.{arith, ◌++◌, ap, sym, ◌∙◌, string_bytes}
use Rattle.std.specs.Str.{chars}
use Rattle.std.proofs.lemmas.Str.{chars-nil, IsUtf8-string_bytes}
use Rattle.rn_xml.specs.Encodings.{utf16_bytes}
use Rattle.rn_xml.specs.inside.Units.{unit_bytes}
use Rattle.rn_xml.proofs.Decoding.DecodedTexts.{read_more}
use Rattle.rn_xml.proofs.utf16.decode_utf16.Goals as goal

pub loop-c-init : goal.loop-c-init
loop-c-init c = ap (λ t. utf16_bytes (unit_bytes c.args.order) t ++ c.args.bytes.now) (sym (ap chars c.new-text.ensures.bytes ∙ chars-nil))

pub loop-c-preserved : goal.loop-c-preserved
loop-c-preserved c =
    read_more (unit_bytes c.args.order) c.args.bytes.now (string_bytes c.loop-c.text) (string_bytes c.push.new.self) c.loop-c.rest.now c.in-Some.after.now c.in-Some.c
    (IsUtf8-string_bytes c.loop-c.text) c.in-Some.ensures.scalar (grind arith) c.loop-c.invariant c.in-Some.ensures.units
