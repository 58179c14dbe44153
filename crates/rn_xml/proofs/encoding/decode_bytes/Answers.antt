use Rattle.std.proofs.Common.{◌≡◌, ◌∙◌, sym, string_bytes}
use Rattle.std.proofs.lemmas.Str.{IsUtf8-string_bytes}
use Rattle.rn_xml.specs.declared.xml_fault.Encoding.TheVariants.{Utf8, Latin1, Ascii}
use Rattle.rn_xml.proofs.Decoding.DecodedBytes.{ok_then, in_utf8, in_bytes, in_ascii}
use Rattle.rn_xml.proofs.encoding.decode_bytes.Goals as goal

pub returns-in-Latin1-clause-text : goal.returns-in-Latin1-clause-text
returns-in-Latin1-clause-text c =
    let front = c.utf8_front-front.result.now in
    ok_then c.decode_single.result c.decode_single.ensures.text (λ t same whole from.
    in_bytes whole c.args.bytes.now front c.utf8_front-front.ensures.front.0 (string_bytes t) Latin1 (λ e. let n : Latin1 ≡ Utf8 = e in cc) (from ∙ sym same.0)
    (IsUtf8-string_bytes t) c.utf8_front-front.ensures.text c.utf8_front-front.ensures.front.1 same.0
    (rw c.in-Latin1.is at c.in_ok-declared.ensures.encoding))

pub returns-in-Ascii-clause-text : goal.returns-in-Ascii-clause-text
returns-in-Ascii-clause-text c =
    let front = c.utf8_front-front.result.now in
    ok_then c.decode_single-in-Ascii.result c.decode_single-in-Ascii.ensures.text (λ t same whole from.
    in_bytes whole c.args.bytes.now front c.utf8_front-front.ensures.front.0 (string_bytes t) Ascii (λ e. let n : Ascii ≡ Utf8 = e in cc)
    (in_ascii whole c.args.bytes.now (string_bytes t) from same.0 same.1)
    (IsUtf8-string_bytes t) c.utf8_front-front.ensures.text c.utf8_front-front.ensures.front.1 same.0
    (rw c.in-Ascii.is at c.in_ok-declared.ensures.encoding))

pub returns-in-Utf8-clause-text : goal.returns-in-Utf8-clause-text
returns-in-Utf8-clause-text c =
    ok_then c.decode_utf8.result c.decode_utf8.ensures.text (λ t same whole from.
    in_utf8 whole c.args.bytes.now c.utf8_front-front.result.now (string_bytes t) c.in_ok-declared.field-0 c.in-Utf8.is (IsUtf8-string_bytes t) from same.0 same.1
    c.in_ok-declared.ensures.encoding)
