use Rattle.std.proofs.Common.{take}
use Rattle.std.specs.Prelude.{codes}
use Rattle.rn_simplify.specs.Spelling.{infix_of, written_name}
use Rattle.rn_pattern.specs.View.{name_class_view}
use Rattle.rn_simplify.specs.inside.Writes.{prefixes_view, Writes}
use Rattle.rn_simplify.proofs.ReadBack.Chains.{row}
use Rattle.rn_simplify.proofs.class_text.+name_class.Given as goal

abbrev pub invariant-write_class_choice-loop-i : goal.invariant-write_class_choice-loop-i
invariant-write_class_choice-loop-i l = Writes (row (λ c. written_name (prefixes_view l.prefixes) (name_class_view c)) (infix_of (codes "|")) (take l.i l.members)) l.initial.writer l.writer
