use Rattle.std.proofs.Common.{take, sym, subst}
use Rattle.std.specs.Prelude.{string_bytes}
use Rattle.std.specs.Str.{chars}
use Rattle.rn_pattern.specs.View.{pattern_view}
use Rattle.rn_simplify.specs.NormalView.{definitions_view}
use Rattle.rn_simplify.specs.Spelling.{definition_line, definition_lines, identifier}
use Rattle.rn_simplify.specs.inside.Writes.{prefixes_view, Writes}
use Rattle.rn_simplify.proofs.Texts.LineTexts.{definitions_up_to, writes_one_definition}
use Rattle.rn_simplify.proofs.printing.write_definitions.Goals as goal

pub loop-name-preserved : goal.loop-name-preserved
loop-name-preserved c =
    let f = prefixes_view c.args.prefixes.now in
    let ds = c.args.defs.now in
    let i = c.loop-name.name-index in
    let d = c.loop-name-item.result in
    let name = c.deref.result.now in
    let p = pattern_view d.1 in
    let named = subst (λ x. Writes (definition_line f (identifier (chars x)) p) c.loop-name.writer c.write_definition.new.writer) c.deref.ensures c.write_definition.ensures in
    subst (λ es. Writes (definition_lines f es) c.args.writer.now c.write_definition.new.writer) (sym (definitions_up_to ds i d c.loop-name-test.true c.loop-name-item.is))
    (writes_one_definition f (definitions_view (take i ds)) (string_bytes d.0, p) c.loop-name.invariant named)
