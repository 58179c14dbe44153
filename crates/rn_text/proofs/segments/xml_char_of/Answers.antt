use Rattle.std.proofs.Common.{ap, sym, ◌∙◌, rules}
use Rattle.rn_text.specs.Characters.{is_xml_char}
use Rattle.rn_text.proofs.Words.HexDigits.{not_read, read_number, no_scalar}
use Rattle.rn_text.proofs.segments.xml_char_of.Goals as goal

pub returns-in_err-number : goal.returns-in_err-number
returns-in_err-number c =
    let h = not_read c.args.digits.now c.from_str_radix.result c.utf8.digits c.requires c.from_str_radix.ensures.value (sym c.ok.ensures.value ∙ c.in_err-number.was) in
    search (rules, h)

pub returns-in_err-c : goal.returns-in_err-c
returns-in_err-c c =
    let n = read_number c.args.digits.now c.from_str_radix.result c.in_ok-number.number c.utf8.digits c.requires c.from_str_radix.ensures.value (sym c.ok.ensures.value ∙ c.in_ok-number.was) in
    let h = ap is_xml_char (sym n.1) ∙ no_scalar c.in_ok-number.number c.in_err-c.ensures.cases in
    search (rules, h)

pub returns-then-is_xml_char : goal.returns-then-is_xml_char
returns-then-is_xml_char c =
    let n = read_number c.args.digits.now c.from_str_radix.result c.in_ok-number.number c.utf8.digits c.requires c.from_str_radix.ensures.value (sym c.ok.ensures.value ∙ c.in_ok-number.was) in
    (n.0, sym c.if-is_xml_char.ensures, c.in_ok-c.ensures.value.1 ∙ n.1)

pub returns-else-is_xml_char : goal.returns-else-is_xml_char
returns-else-is_xml_char c some =
    let n = read_number c.args.digits.now c.from_str_radix.result c.in_ok-number.number c.utf8.digits c.requires c.from_str_radix.ensures.value (sym c.ok.ensures.value ∙ c.in_ok-number.was) in
    ap is_xml_char (sym (c.in_ok-c.ensures.value.1 ∙ n.1)) ∙ sym c.if-is_xml_char.ensures
