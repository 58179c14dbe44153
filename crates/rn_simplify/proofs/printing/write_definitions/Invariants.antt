use Rattle.std.proofs.Common.{take}
use Rattle.rn_simplify.specs.NormalView.{definitions_view}
use Rattle.rn_simplify.specs.Spelling.{definition_lines}
use Rattle.rn_simplify.specs.inside.Writes.{prefixes_view, Writes}
use Rattle.rn_simplify.proofs.printing.write_definitions.Given as goal

abbrev pub invariant-loop-name : goal.invariant-loop-name
invariant-loop-name l = Writes (definition_lines (prefixes_view l.prefixes) (definitions_view (take l.name-index l.defs))) l.initial.writer l.writer
