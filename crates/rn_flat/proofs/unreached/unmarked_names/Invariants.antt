-- The names without a mark so far.
use Rattle.std.proofs.Common.{◌≡◌, map, string_bytes, take}
use Rattle.rn_assemble.specs.GrammarView.{definitions_view}
use Rattle.rn_flat.specs.UnreachedNames.{names_of_definitions, unmarked}
use Rattle.rn_flat.proofs.unreached.unmarked_names.Given as goal

abbrev pub invariant-loop-number : goal.invariant-loop-number
invariant-loop-number l = map string_bytes l.names.items ≡ unmarked (take l.number l.marks) (take l.number (names_of_definitions (definitions_view l.defs.entries)))
