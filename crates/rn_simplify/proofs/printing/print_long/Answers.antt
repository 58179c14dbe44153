use Rattle.std.proofs.Common.{sym, subst}
use Rattle.std.specs.Prelude.{string_bytes}
use Rattle.rn_assemble.specs.ShortTexts.{long_grammar, short_texts}
use Rattle.rn_assemble.proofs.Renaming.ShortTables.{table_renames}
use Rattle.rn_simplify.specs.NormalView.{definitions_view, normal_view}
use Rattle.rn_simplify.specs.Spelling.{definition_lines}
use Rattle.rn_simplify.specs.Printing.{IsPrinted, IsUnprinted}
use Rattle.rn_simplify.specs.inside.Writes.{IsHindrance, prefixes_view, Writes}
use Rattle.rn_simplify.proofs.Texts.FinishedText.{if_ok, if_err, printed, unprinted}
use Rattle.rn_simplify.proofs.Texts.LineTexts.{writes_lines}
use Rattle.rn_simplify.proofs.printing.print_long.Goals as goal

pub returns : goal.returns
returns c =
    let es = short_texts c.args.uris.now in
    let n = normal_view c.args.normal.now in
    let g = long_grammar es n in
    let f = prefixes_view c.in_ok-prefixes.prefixes in
    let a = c.new-writer in
    let z = c.write_definitions.new.writer in
    let lines = subst (λ ds. Writes (definition_lines f (definitions_view ds)) c.write_start.new.writer z) c.as_slice.ensures.value c.write_definitions.ensures in
    let whole = writes_lines (table_renames es c.requires.table) n c.requires.known f c.in_ok-prefixes.prefixes.empty_namespace c.in_ok-prefixes.ensures.prefixes c.in_ok-prefixes.ensures.empty
    c.write_declarations.ensures c.write_start.ensures lines in
    record {
      ok = if_ok _ (λ t. IsPrinted g (string_bytes t)) (λ t h. subst (λ s. IsPrinted g (string_bytes s)) (sym h.2) (printed g a.ensures.text a.ensures.outside a.ensures.shallow a.ensures.goes whole h.0 h.1)) c.finish.result c.finish.ensures.ok;
      err = if_err (IsHindrance z) (IsUnprinted g) (unprinted g a.ensures.text a.ensures.outside a.ensures.shallow a.ensures.goes whole) c.finish.result c.finish.ensures.err;
    }
