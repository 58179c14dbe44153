use Rattle.std.proofs.Common.{take}
use Rattle.rn_simplify.specs.Spelling.{params_pieces}
use Rattle.rn_pattern.specs.View.{parameters_view}
use Rattle.rn_simplify.specs.inside.Writes.{Writes}
use Rattle.rn_simplify.proofs.pattern_text.write_params.Given as goal

abbrev pub invariant-loop-i : goal.invariant-loop-i
invariant-loop-i l = Writes (params_pieces (parameters_view (take l.i l.params))) l.initial.writer l.writer
