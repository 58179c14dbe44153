use Rattle.std.proofs.Common.{ap, sym, ◌∙◌}
use Rattle.rn_text.proofs.Cutting.Cuts.{run_cut}
use Rattle.rn_text.proofs.Words.HexDigits.{run_chars}
use Rattle.rn_text.specs.Characters.{is_ncname, is_name_char}
use Rattle.rn_xml.proofs.Lengths.{name_shorter}
use Rattle.rn_xml.proofs.characters.split_ncname.Goals as goal

pub overflow_sub-text : goal.overflow_sub-text
overflow_sub-text c = (run_cut is_name_char c.args.text.now c.after_name_chars-rest.result.now c.utf8.text c.after_name_chars-rest.utf8 c.after_name_chars-rest.ensures).0

pub range-name-requires-clause-end_boundary : goal.range-name-requires-clause-end_boundary
range-name-requires-clause-end_boundary c = (run_cut is_name_char c.args.text.now c.after_name_chars-rest.result.now c.utf8.text c.after_name_chars-rest.utf8 c.after_name_chars-rest.ensures).1

pub returns-then-is_ncname-clause-cases : goal.returns-then-is_ncname-clause-cases
returns-then-is_ncname-clause-cases c =
    let word = run_chars is_name_char c.args.text.now c.after_name_chars-rest.result.now c.range-name.result.now c.utf8.text c.after_name_chars-rest.utf8 c.range-name.utf8 c.after_name_chars-rest.ensures c.range-name.ensures.value in
    (word, sym c.if-is_ncname.ensures, c.after_name_chars-rest.ensures)

pub returns-then-is_ncname-clause-shorter : goal.returns-then-is_ncname-clause-shorter
returns-then-is_ncname-clause-shorter c =
    let word = run_chars is_name_char c.args.text.now c.after_name_chars-rest.result.now c.range-name.result.now c.utf8.text c.after_name_chars-rest.utf8 c.range-name.utf8 c.after_name_chars-rest.ensures c.range-name.ensures.value in
    name_shorter c.args.text.now c.after_name_chars-rest.result.now c.utf8.text c.after_name_chars-rest.utf8 c.after_name_chars-rest.ensures (ap is_ncname (sym word) ∙ sym c.if-is_ncname.ensures)

pub returns-else-is_ncname-clause-cases : goal.returns-else-is_ncname-clause-cases
returns-else-is_ncname-clause-cases c =
    let word = run_chars is_name_char c.args.text.now c.after_name_chars-rest.result.now c.range-name.result.now c.utf8.text c.after_name_chars-rest.utf8 c.range-name.utf8 c.after_name_chars-rest.ensures c.range-name.ensures.value in
    ap is_ncname (sym word) ∙ sym c.if-is_ncname.ensures
