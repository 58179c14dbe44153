use Rattle.std.proofs.Common.{◌≡◌, take}
use Rattle.rn_assemble.specs.GrammarView.{definitions_view, grammar_view}
use Rattle.rn_simplify.specs.inside.DefinitionNumbers.{AreSettled}
use Rattle.rn_simplify.specs.inside.FormKinds.{becomes_by}
use Rattle.rn_simplify.proofs.evaluation.settle_all.Given as goal

abbrev pub invariant-loop-index : goal.invariant-loop-index
invariant-loop-index l = record {
  definitions : definitions_view l.settled.definitions.now.entries ≡ (grammar_view l.grammar).definitions;
  settled : AreSettled (grammar_view l.grammar).definitions (take l.index-index l.order) (becomes_by (grammar_view l.grammar).definitions l.settled.kinds.items);
}
